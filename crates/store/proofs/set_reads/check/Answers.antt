-- `check` is what a call that adds nothing declines, or the level of its operands.
use mathlib.Core.Path.{refl}
use mathlib.Core.List.{List}
use Prim.Native.Nat.{ℕ}
use Rattle.model.specs.Store.{set}
use Rattle.call_rules.specs.Outcome.{Check}
use Rattle.call_rules.specs.Checking.{Checks}
use Rattle.store.specs.SetCalls.{set_read_declines}
use Rattle.store.specs.declared.set_reads.SetRead.{SetRead}
use Rattle.store.proofs.Arms.{of_arm, or_arm}
use Rattle.store.proofs.set_reads.check.Goals as goal

abbrev Checked : List ℕ → ℕ → ℕ → Check → SetRead → Type 0
Checked m n k r c = Checks set m n k (λ S. set_read_declines k c S) r

pub returns-in-Get : goal.returns-in-Get
returns-in-Get c = of_arm (Checked _ _ _ _) c.in-Get.is (c.parent.ensures set refl)

pub returns-in-Complement : goal.returns-in-Complement
returns-in-Complement c =
    let t = c.one.ensures set refl in
    or_arm (Checked _ _ _ _) c.in-Complement.is t (λ e. of_arm (Checked _ _ _ _) e t)

pub returns-in-Intersects : goal.returns-in-Intersects
returns-in-Intersects c = of_arm (Checked _ _ _ _) c.in-Intersects.is (c.two.ensures set refl)
