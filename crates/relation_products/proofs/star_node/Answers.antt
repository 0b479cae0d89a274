-- `star_node` makes its products and the sum in order, then the node.
use Rattle.memory.proofs.Stopping.{made, failed}
use Rattle.relation_products.proofs.star_node.Goals as goal

pub returns-in_err-res_b : goal.returns-in_err-res_b
returns-in_err-res_b c = failed c.in_err-res_b.ensures c.from_residual.ensures

pub returns-in_err-c_res_a : goal.returns-in_err-c_res_a
returns-in_err-c_res_a c = made c.in_ok-res_b.ensures (failed c.in_err-c_res_a.ensures c.from_residual-in_err-c_res_a.ensures)

pub returns-in_err-res_c : goal.returns-in_err-res_c
returns-in_err-res_c c = made c.in_ok-res_b.ensures (made c.in_ok-c_res_a.ensures
    (failed c.in_err-res_c.ensures c.from_residual-in_err-res_c.ensures))

pub returns-in_err-res_c_bd_star : goal.returns-in_err-res_c_bd_star
returns-in_err-res_c_bd_star c = made c.in_ok-res_b.ensures (made c.in_ok-c_res_a.ensures (made c.in_ok-res_c.ensures
    (failed c.in_err-res_c_bd_star.ensures c.from_residual-in_err-res_c_bd_star.ensures)))

pub returns-in_err-res_d : goal.returns-in_err-res_d
returns-in_err-res_d c = made c.in_ok-res_b.ensures (made c.in_ok-c_res_a.ensures (made c.in_ok-res_c.ensures
    (made c.in_ok-res_c_bd_star.ensures (failed c.in_err-res_d.ensures c.from_residual-in_err-res_d.ensures))))

pub returns : goal.returns
returns c = made c.in_ok-res_b.ensures (made c.in_ok-c_res_a.ensures (made c.in_ok-res_c.ensures (made c.in_ok-res_c_bd_star.ensures
    (made c.in_ok-res_d.ensures c.mk.ensures))))
