-- `test` is kept in the memo.
use Rattle.model.specs.Operations.{test}
use Rattle.relations.proofs.fields.test.Goals as goal

pub returns : goal.returns
unfolding test
returns c = c.kept.ensures
