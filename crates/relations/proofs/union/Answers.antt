-- `union` is an operation on two relations.
use Rattle.model.specs.Operations.{union}
use Rattle.relations.proofs.union.Goals as goal

pub returns : goal.returns
unfolding union
returns c = c.run.ensures
