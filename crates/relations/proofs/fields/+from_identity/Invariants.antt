-- `from_identity` runs its program; the measure is the number of fields before the named one.
use Rattle.relations.proofs.fields.+from_identity.Given as goal

abbrev pub decreases-from_identity : goal.decreases-from_identity
decreases-from_identity l = l.var
