-- `check` is what a call on sets declines, or the level of its operands.
use mathlib.Core.Path.{refl}
use mathlib.Core.List.{List}
use Prim.Native.Nat.{ℕ}
use Rattle.model.specs.Store.{set}
use Rattle.call_rules.specs.Outcome.{Check}
use Rattle.call_rules.specs.Checking.{Checks}
use Rattle.store.specs.ImageCalls.{filter_declines}
use Rattle.store.specs.declared.filter_calls.FilterCall.{FilterCall}
use Rattle.store.proofs.Arms.{of_arm, or_arm}
use Rattle.store.proofs.filter_calls.check.Goals as goal

abbrev Checked : List ℕ → ℕ → ℕ → Check → FilterCall → Type 0
Checked m n k r c = Checks set m n k (λ S. filter_declines k c S) r

pub returns : goal.returns
returns c =
    let t = c.one.ensures set refl in
    or_arm (Checked _ _ _ _) c.in-Diagonal.is t (λ s. or_arm (Checked _ _ _ _) s t (λ e. of_arm (Checked _ _ _ _) e t))
