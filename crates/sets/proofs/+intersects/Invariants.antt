-- `intersects` runs its program; the measure is the level.
use Rattle.sets.proofs.+intersects.Given as goal

abbrev pub decreases-intersects : goal.decreases-intersects
decreases-intersects l = l.level
