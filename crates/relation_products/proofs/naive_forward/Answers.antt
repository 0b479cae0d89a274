-- `naive_forward` is a product with the full relation.
use Rattle.model.specs.Relations.{naive_forward}
use Rattle.memory.proofs.Stopping.{made, failed}
use Rattle.relation_products.proofs.naive_forward.Goals as goal

pub returns-in_err-top : goal.returns-in_err-top
unfolding naive_forward
returns-in_err-top c = failed c.in_err-top.ensures c.from_residual.ensures

pub returns : goal.returns
unfolding naive_forward
returns c = made c.in_ok-top.ensures c.sequence.ensures
