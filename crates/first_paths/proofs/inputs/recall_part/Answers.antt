-- `recall_part` knows a part where the memo has it, and where the level is too low for bits there.
use Rattle.first_paths.proofs.Ranks.{part_none, part_known}
use Rattle.first_paths.proofs.inputs.recall_part.Goals as goal

pub returns-then-level-i : goal.returns-then-level-i
returns-then-level-i c = part_none _ _ _ _ _ c.requires c.if-level-i.true

pub returns : goal.returns
returns c = part_known _ _ _ _ _ c.requires c.in_ok-op.ensures.0 c.in_ok-op.ensures.2 c.recall.ensures
