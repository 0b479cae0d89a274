-- `check` is what a call that adds nothing declines, or the level of its operands.
use mathlib.Core.List.{List}
use Prim.Native.Nat.{ℕ}
use Rattle.call_rules.specs.Outcome.{Check}
use Rattle.call_rules.specs.Checking.{ChecksBoth}
use Rattle.store.specs.ImageCalls.{path_declines}
use Rattle.store.specs.declared.path_reads.PathRead.{PathRead}
use Rattle.store.proofs.Arms.{of_arm, or_arm}
use Rattle.store.proofs.path_reads.check.Goals as goal

abbrev Checked : List ℕ → ℕ → List ℕ → ℕ → ℕ → Check → PathRead → Type 0
Checked o n t j k r c = ChecksBoth o n t j k (λ S. path_declines k c S) r

pub returns-in-HasPath : goal.returns-in-HasPath
returns-in-HasPath c =
    let t = c.path.ensures in
    or_arm (Checked _ _ _ _ _ _) c.in-HasPath.is t (λ e. of_arm (Checked _ _ _ _ _ _) e t)
