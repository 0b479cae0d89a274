-- `has_image` runs its program; the measure is the level.
use Rattle.relation_paths.proofs.+has_image.Given as goal

abbrev pub decreases-has_image : goal.decreases-has_image
decreases-has_image l = l.level
