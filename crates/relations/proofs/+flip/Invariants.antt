-- `flip` runs its program; the measure is the level.
use Rattle.relations.proofs.+flip.Given as goal

abbrev pub decreases-flip : goal.decreases-flip
decreases-flip l = l.level
