-- `pair` answers the level of both operands where they are held at one.
use Rattle.call_rules.proofs.TwoKinds.{pair_no_relation, pair_no_set, pair_levels_differ, pair_passes}
use Rattle.call_rules.proofs.operands.pair.Goals.{then-not-is_held-via-then-not-is_held, then-not-is_held-via-else-not-is_held+then-not-is_held-2}
use Rattle.call_rules.proofs.operands.pair.Goals as goal

pub returns-then-not-is_held : goal.returns-then-not-is_held
returns-then-not-is_held c = elim c.then-not-is_held.branch [
  | then-not-is_held-via-then-not-is_held w ↦ pair_no_relation _ _ _ _ _ _ _ c.is_held.ensures w.if-not-is_held.true
  | then-not-is_held-via-else-not-is_held+then-not-is_held-2 w ↦
      pair_no_set _ _ _ _ _ _ _ c.is_held.ensures w.if-not-is_held.false w.is_held-else-not-is_held.ensures w.if-not-is_held-2.true
]

pub returns-then-level-l : goal.returns-then-level-l
returns-then-level-l c =
    pair_levels_differ _ _ _ _ _ _ _ c.is_held.ensures c.if-not-is_held.false c.is_held-else-not-is_held.ensures
    c.if-not-is_held-2.false c.level-l.ensures.0 c.level.ensures.0 c.if-level-l.true

pub returns : goal.returns
returns c =
    pair_passes _ _ _ _ _ _ _ c.is_held.ensures c.if-not-is_held.false c.is_held-else-not-is_held.ensures
    c.if-not-is_held-2.false c.level-l.ensures.0 c.level.ensures.0 c.level-l.ensures.1 c.if-level-l.false
