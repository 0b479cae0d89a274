-- `backward` is a product with the full relation.
use Rattle.model.specs.Relations.{backward}
use Rattle.memory.proofs.Stopping.{made, failed}
use Rattle.relation_products.proofs.backward.Goals as goal

pub returns-in_err-top : goal.returns-in_err-top
unfolding backward
returns-in_err-top c = failed c.in_err-top.ensures c.from_residual.ensures

pub returns : goal.returns
unfolding backward
returns c = made c.in_ok-top.ensures c.sequence.ensures
