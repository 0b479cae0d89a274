-- `range` runs the program of its end; the measure is the level.
use Rattle.relation_images.proofs.+range.Given as goal

abbrev pub decreases-range : goal.decreases-range
decreases-range g l = l.level
