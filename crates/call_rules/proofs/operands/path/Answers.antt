-- `path` answers the level of all three operands where they are held at one.
use Rattle.call_rules.proofs.TwoKinds.{path_no_output, path_declined, path_levels_differ, path_passes}
use Rattle.call_rules.proofs.operands.path.Goals as goal

pub returns-then-not-is_held : goal.returns-then-not-is_held
returns-then-not-is_held c = path_no_output _ _ _ _ _ _ _ _ c.is_held.ensures (c.if-not-is_held.true)

pub returns-in_err-l : goal.returns-in_err-l
returns-in_err-l c =
    path_declined _ _ _ _ _ _ _ _ c.is_held.ensures _ (c.if-not-is_held.false) c.pair.ensures _ _ c.in_err-l.was c.from_residual.ensures.1

pub returns-then-level-l : goal.returns-then-level-l
returns-then-level-l c =
    path_levels_differ _ _ _ _ _ _ _ _ c.is_held.ensures _ (c.if-not-is_held.false) c.pair.ensures
    c.in_ok-l.was c.level.ensures.0 c.if-level-l.true

pub returns : goal.returns
returns c =
    path_passes _ _ _ _ _ _ _ _ c.is_held.ensures _ (c.if-not-is_held.false) c.pair.ensures c.in_ok-l.was
    c.level.ensures.0 c.if-level-l.false
