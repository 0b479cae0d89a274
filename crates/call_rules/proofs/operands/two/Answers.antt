-- `two` answers the level of both operands where they are held at one.
use mathlib.Core.Path.{◌∙◌}
use Rattle.memory.proofs.Rows.{plain_length}
use Rattle.call_rules.proofs.Handles.{pair_first, pair_second, pair_apart, pair_are, level_known}
use Rattle.call_rules.proofs.operands.two.Goals.{then-not-is_held-via-then-not-is_held, then-not-is_held-via-else-not-is_held+then-not-is_held-2}
use Rattle.call_rules.proofs.operands.two.Goals as goal

pub returns-then-not-is_held : goal.returns-then-not-is_held
returns-then-not-is_held c K e = elim c.then-not-is_held.branch [
  | then-not-is_held-via-then-not-is_held w ↦ record {
    says = λ B f F. pair_first K K F _ _ (c.is_held.ensures K _ e (plain_length K B _ _) ∙ w.if-not-is_held.true);
    low = tt;
  }
  | then-not-is_held-via-else-not-is_held+then-not-is_held-2 w ↦ record {
    says = λ B f F.
        pair_second K K F _ _ (c.is_held.ensures K _ e (plain_length K B _ _) ∙ w.if-not-is_held.false)
        (w.is_held-else-not-is_held.ensures K _ e (plain_length K B _ _) ∙ w.if-not-is_held-2.true);
    low = tt;
  }
]

pub returns-then-level-l : goal.returns-then-level-l
returns-then-level-l c K e =
    record {
      says = λ B f F.
          let t = c.is_held.ensures K _ e (plain_length K B _ _) ∙ c.if-not-is_held.false in
          let u = c.is_held-else-not-is_held.ensures K _ e (plain_length K B _ _) ∙ c.if-not-is_held-2.false in
          pair_apart K K F _ _ _ _ t u (level_known K B _ _ c.level-l.ensures.0 e f F t)
          (level_known K B _ _ c.level.ensures.0 e f F u) c.if-level-l.true;
      low = tt;
    }

pub returns : goal.returns
returns c K e =
    record {
      says = λ B f F.
          let t = c.is_held.ensures K _ e (plain_length K B _ _) ∙ c.if-not-is_held.false in
          let u = c.is_held-else-not-is_held.ensures K _ e (plain_length K B _ _) ∙ c.if-not-is_held-2.false in
          pair_are K K F _ _ _ _ t u (level_known K B _ _ c.level-l.ensures.0 e f F t)
          (level_known K B _ _ c.level.ensures.0 e f F u) c.if-level-l.false;
      low = c.level-l.ensures.1;
    }
