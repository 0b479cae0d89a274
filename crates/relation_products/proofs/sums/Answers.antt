-- `sums` makes the unions in order, then the node.
use Rattle.memory.proofs.Stopping.{made, failed}
use Rattle.relation_products.proofs.sums.Goals as goal

pub returns-in_err-x00 : goal.returns-in_err-x00
returns-in_err-x00 c = failed c.in_err-x00.ensures c.from_residual.ensures

pub returns-in_err-x01 : goal.returns-in_err-x01
returns-in_err-x01 c = made c.in_ok-x00.ensures (failed c.in_err-x01.ensures c.from_residual-in_err-x01.ensures)

pub returns-in_err-x10 : goal.returns-in_err-x10
returns-in_err-x10 c = made c.in_ok-x00.ensures (made c.in_ok-x01.ensures (failed c.in_err-x10.ensures c.from_residual-in_err-x10.ensures))

pub returns-in_err-x11 : goal.returns-in_err-x11
returns-in_err-x11 c = made c.in_ok-x00.ensures (made c.in_ok-x01.ensures (made c.in_ok-x10.ensures
    (failed c.in_err-x11.ensures c.from_residual-in_err-x11.ensures)))

pub returns : goal.returns
returns c = made c.in_ok-x00.ensures (made c.in_ok-x01.ensures (made c.in_ok-x10.ensures (made c.in_ok-x11.ensures c.mk.ensures)))
