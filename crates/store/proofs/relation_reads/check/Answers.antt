-- `check` is what a call that adds nothing declines, or the level of its operands.
use mathlib.Core.Path.{refl}
use mathlib.Core.List.{List}
use Prim.Native.Nat.{ℕ}
use Rattle.model.specs.Store.{rel}
use Rattle.call_rules.specs.Outcome.{Check}
use Rattle.call_rules.specs.Checking.{Checks}
use Rattle.store.specs.RelationCalls.{relation_read_declines}
use Rattle.store.specs.declared.relation_reads.RelationRead.{RelationRead}
use Rattle.store.proofs.Arms.{of_arm}
use Rattle.store.proofs.relation_reads.check.Goals as goal

abbrev Checked : List ℕ → ℕ → ℕ → Check → RelationRead → Type 0
Checked m n k r c = Checks rel m n k (λ S. relation_read_declines k c S) r

pub returns-in-Get : goal.returns-in-Get
returns-in-Get c = of_arm (Checked _ _ _ _) c.in-Get.is (c.parent.ensures rel refl)

pub returns-in-IsZero : goal.returns-in-IsZero
returns-in-IsZero c = of_arm (Checked _ _ _ _) c.in-IsZero.is (c.one.ensures rel refl)
