-- `first_pair` finds the first pair; the measure is the level.
use Rattle.first_paths.proofs.+first_pair.Given as goal

abbrev pub decreases-first_pair : goal.decreases-first_pair
decreases-first_pair l = l.level
