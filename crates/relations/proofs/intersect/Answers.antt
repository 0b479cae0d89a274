-- `intersect` is an operation on two relations.
use Rattle.model.specs.Operations.{intersect}
use Rattle.relations.proofs.intersect.Goals as goal

pub returns : goal.returns
unfolding intersect
returns c = c.run.ensures
