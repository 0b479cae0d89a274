-- `assign` is kept in the memo.
use Rattle.model.specs.Operations.{assign}
use Rattle.relations.proofs.fields.assign.Goals as goal

pub returns : goal.returns
unfolding assign
returns c = c.kept.ensures
