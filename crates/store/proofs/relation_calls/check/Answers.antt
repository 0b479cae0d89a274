-- `check` is what a call on relations declines, or the level of its operands.
use mathlib.Core.Path.{refl}
use mathlib.Core.List.{List}
use Prim.Native.Nat.{ℕ}
use Rattle.model.specs.Store.{rel}
use Rattle.call_rules.specs.Outcome.{Check}
use Rattle.call_rules.specs.Checking.{Checks}
use Rattle.store.specs.RelationCalls.{relation_declines}
use Rattle.store.specs.declared.relation_calls.RelationCall.{RelationCall}
use Rattle.store.proofs.Arms.{of_arm, or_arm}
use Rattle.store.proofs.relation_calls.check.Goals as goal

abbrev Checked : List ℕ → ℕ → ℕ → Check → RelationCall → Type 0
Checked m n k r c = Checks rel m n k (λ S. relation_declines k c S) r

pub returns-in-Mk : goal.returns-in-Mk
returns-in-Mk c = of_arm (Checked _ _ _ _) c.in-Mk.is (c.four_children.ensures rel refl)

pub returns-in-Union : goal.returns-in-Union
returns-in-Union c =
    let t = c.two.ensures rel refl in
    or_arm (Checked _ _ _ _) c.in-Union.is t (λ s. or_arm (Checked _ _ _ _) s t (λ s. or_arm (Checked _ _ _ _) s t
    (λ s. or_arm (Checked _ _ _ _) s t (λ e. of_arm (Checked _ _ _ _) e t))))

pub returns-in-Complement : goal.returns-in-Complement
returns-in-Complement c =
    let t = c.one.ensures rel refl in
    or_arm (Checked _ _ _ _) c.in-Complement.is t (λ s. or_arm (Checked _ _ _ _) s t (λ s. or_arm (Checked _ _ _ _) s t
    (λ s. or_arm (Checked _ _ _ _) s t (λ e. of_arm (Checked _ _ _ _) e t))))
