-- The empty relation is made, then the node.
use Rattle.memory.proofs.Stopping.{made, failed}
use Rattle.relation_images.proofs.filters.ItselfFilter.node.Goals as goal

pub returns-in_err-z : goal.returns-in_err-z
returns-in_err-z c = failed c.in_err-z.ensures c.from_residual.ensures

pub returns : goal.returns
returns c = made c.in_ok-z.ensures c.mk.ensures
