-- `xor` is an operation on two sets.
use Rattle.model.specs.Operations.{xor}
use Rattle.sets.proofs.xor.Goals as goal

pub returns : goal.returns
unfolding xor
returns c = c.run.ensures
