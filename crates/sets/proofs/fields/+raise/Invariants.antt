-- `raise` runs its program; the measure is the number of fields.
use Rattle.sets.proofs.fields.+raise.Given as goal

abbrev pub decreases-raise : goal.decreases-raise
decreases-raise l = l.fields
