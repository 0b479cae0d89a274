-- `union` is an operation on two sets.
use Rattle.model.specs.Operations.{union}
use Rattle.sets.proofs.union.Goals as goal

pub returns : goal.returns
unfolding union
returns c = c.run.ensures
