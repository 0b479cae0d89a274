-- `as_relation` runs the program of its filter; the measure is the level.
use Rattle.relation_images.proofs.filters.+as_relation.Given as goal

abbrev pub decreases-as_relation : goal.decreases-as_relation
decreases-as_relation g l = l.level
