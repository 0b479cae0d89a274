-- `image` runs its program; the measure is the level.
use Rattle.relation_images.proofs.moves.+image.Given as goal

abbrev pub decreases-image : goal.decreases-image
decreases-image g l = l.level
