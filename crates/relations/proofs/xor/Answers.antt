-- `xor` is an operation on two relations.
use Rattle.model.specs.Operations.{xor}
use Rattle.relations.proofs.xor.Goals as goal

pub returns : goal.returns
unfolding xor
returns c = c.run.ensures
