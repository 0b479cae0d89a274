-- `all_at` compares each level in turn.
use mathlib.Core.Path.{◌≡◌, refl, sym, ap, ◌∙◌}
use mathlib.Core.Bool.{Bool, true, false, ◌&&◌}
use Prim.Native.Nat.{ℕ}
use lib.Dec.{eqb}
use borrow.Author.Tests.{eq-eqb, ne_eqb}
use Rattle.memory.proofs.Steps.{false≢true}
use Rattle.call_rules.proofs.Handles.{level_known}
use Rattle.call_rules.proofs.operands.all_at.Goals.{then-level-l, else-level-l}
use Rattle.call_rules.proofs.operands.all_at.Goals as goal

no : (a b : Bool) → a ≡ false → (a && b) ≡ false
no a b e = rw e

yes : (a b : Bool) {s : Bool} → a ≡ true → b ≡ s → (a && b) ≡ s
yes a b e f = rw e f

-- a level h that is known as j, compared with l
same : (j l h : ℕ) {t : Bool} → j ≡ h → eqb j l ≡ t → eqb h l ≡ t
same j l h e f = ap (λ x. eqb x l) (sym e) ∙ f

pub returns-then-level-l-2 : goal.returns-then-level-l-2
returns-then-level-l-2 c K B n e f F x y z = elim c.if-level-l.branch [
  | then-level-l w ↦
      yes _ _ (same _ _ _ (level_known K B _ n c.level.ensures.0 e f F x) (eq-eqb _ _ w.if-level-l.true))
      (yes _ _ (same _ _ _ (level_known K B _ n w.level-then-level-l.ensures.0 e f F y) (sym w.value-is ∙ c.if-level-l-2.true))
      (same _ _ _ (level_known K B _ n c.level-then-level-l-2.ensures.0 e f F z) refl))
  | else-level-l w ↦ absurd (false≢true (sym (ne_eqb _ _ w.if-level-l.false) ∙ sym w.value-is ∙ c.if-level-l-2.true))
]

pub returns-else-level-l-2 : goal.returns-else-level-l-2
returns-else-level-l-2 c K B n e f F x y z = elim c.if-level-l.branch [
  | then-level-l w ↦
      yes _ _ (same _ _ _ (level_known K B _ n c.level.ensures.0 e f F x) (eq-eqb _ _ w.if-level-l.true))
      (no _ _ (same _ _ _ (level_known K B _ n w.level-then-level-l.ensures.0 e f F y) (sym w.value-is ∙ c.if-level-l-2.false)))
      ∙ sym c.if-level-l-2.false
  | else-level-l w ↦
      no _ _ (same _ _ _ (level_known K B _ n c.level.ensures.0 e f F x) (ne_eqb _ _ w.if-level-l.false)) ∙ sym c.if-level-l-2.false
]
