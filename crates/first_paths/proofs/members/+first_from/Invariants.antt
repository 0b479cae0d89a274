-- `first_from` finds the first member from a rank on; the measure is the level.
use Rattle.first_paths.proofs.members.+first_from.Given as goal

abbrev pub decreases-first_from : goal.decreases-first_from
decreases-first_from l = l.level
