-- `fields` runs its program; the measure is the number of fields that are left.
use Rattle.relations.proofs.fields.+fields.Given as goal

abbrev pub decreases-fields : goal.decreases-fields
decreases-fields l = l.left
