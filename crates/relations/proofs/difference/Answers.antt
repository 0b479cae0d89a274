-- `difference` is an operation on two relations.
use Rattle.model.specs.Operations.{difference}
use Rattle.relations.proofs.difference.Goals as goal

pub returns : goal.returns
unfolding difference
returns c = c.run.ensures
