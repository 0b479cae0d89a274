-- `complement` runs its program; the measure is the level.
use Rattle.relations.proofs.+complement.Given as goal

abbrev pub decreases-complement : goal.decreases-complement
decreases-complement l = l.level
