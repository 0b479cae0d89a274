-- `constant` runs its program; the measure is the level.
use Rattle.relations.proofs.+constant.Given as goal

abbrev pub decreases-constant : goal.decreases-constant
decreases-constant l = l.level
