-- `one` answers the operand's level where it is held.
use mathlib.Core.Path.{◌∙◌}
use Rattle.memory.proofs.Rows.{plain_length}
use Rattle.call_rules.proofs.Handles.{one_none, one_is, level_known}
use Rattle.call_rules.proofs.operands.one.Goals as goal

pub returns-then-not-is_held : goal.returns-then-not-is_held
returns-then-not-is_held c K e =
    record {
      says = λ B f F. one_none K F _ (c.is_held.ensures K _ e (plain_length K B _ _) ∙ c.if-not-is_held.true);
      low = tt;
    }

pub returns : goal.returns
returns c K e =
    record {
      says = λ B f F.
          let t = c.is_held.ensures K _ e (plain_length K B _ _) ∙ c.if-not-is_held.false in
          one_is K F _ _ t (level_known K B _ _ c.level.ensures.0 e f F t);
      low = c.level.ensures.1;
    }
