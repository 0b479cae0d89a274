-- `ifelse` runs its program; the measure is the level.
use Rattle.sets.proofs.fields.+ifelse.Given as goal

abbrev pub decreases-ifelse : goal.decreases-ifelse
decreases-ifelse l = l.level
