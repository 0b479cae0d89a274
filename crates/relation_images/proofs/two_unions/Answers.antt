-- `two_unions` makes both unions, then the node.
use Rattle.memory.proofs.Stopping.{made, failed}
use Rattle.relation_images.proofs.two_unions.Goals as goal

pub returns-in_err-r0 : goal.returns-in_err-r0
returns-in_err-r0 c = failed c.in_err-r0.ensures c.from_residual.ensures

pub returns-in_err-r1 : goal.returns-in_err-r1
returns-in_err-r1 c = made c.in_ok-r0.ensures (failed c.in_err-r1.ensures c.from_residual-in_err-r1.ensures)

pub returns : goal.returns
returns c = made c.in_ok-r0.ensures (made c.in_ok-r1.ensures c.mk.ensures)
