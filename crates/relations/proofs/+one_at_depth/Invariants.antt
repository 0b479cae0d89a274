-- `one_at_depth` runs its program; the measure is the level.
use Rattle.relations.proofs.+one_at_depth.Given as goal

abbrev pub decreases-one_at_depth : goal.decreases-one_at_depth
decreases-one_at_depth l = l.level
