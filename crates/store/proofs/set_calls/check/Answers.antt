-- `check` is what a call on sets declines, or the level of its operands.
use mathlib.Core.Path.{refl}
use mathlib.Core.List.{List}
use Prim.Native.Nat.{ℕ}
use Rattle.model.specs.Store.{set}
use Rattle.call_rules.specs.Outcome.{Check}
use Rattle.call_rules.specs.Checking.{Checks}
use Rattle.store.specs.SetCalls.{set_declines}
use Rattle.store.specs.declared.set_calls.SetCall.{SetCall}
use Rattle.store.proofs.Arms.{of_arm, or_arm}
use Rattle.store.proofs.set_calls.check.Goals as goal

abbrev Checked : List ℕ → ℕ → ℕ → Check → SetCall → Type 0
Checked m n k r c = Checks set m n k (λ S. set_declines k c S) r

pub returns-in-Mk : goal.returns-in-Mk
returns-in-Mk c = of_arm (Checked _ _ _ _) c.in-Mk.is (c.two_children.ensures set refl)

pub returns-in-Union : goal.returns-in-Union
returns-in-Union c =
    let t = c.two.ensures set refl in
    or_arm (Checked _ _ _ _) c.in-Union.is t (λ s. or_arm (Checked _ _ _ _) s t (λ s. or_arm (Checked _ _ _ _) s t (λ e. of_arm (Checked _ _ _ _) e t)))

pub returns-in-Ifelse : goal.returns-in-Ifelse
returns-in-Ifelse c = of_arm (Checked _ _ _ _) c.in-Ifelse.is (c.branches.ensures set refl)
