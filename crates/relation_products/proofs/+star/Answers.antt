-- `star` runs its program; the measure is the level.
use Rattle.model.specs.Relations.{star_op, star as star-program}
use Rattle.model.proofs.Recursion.{node1_zero}
use Rattle.memory.proofs.Steps.{begin, by, called, given, impossible}
use Rattle.relations.proofs.Children.{opened1}
use Rattle.relations.proofs.ShortcutLaws.{answer_left, other_left, node_left}
use Rattle.memory.proofs.Stopping.{made, failed, stopped, kept}
use Rattle.relation_products.proofs.Opened.{star_memo}
use Rattle.relation_products.proofs.+star.Goals as goal

pub returns-in-Answer : goal.returns-in-Answer
returns-in-Answer t c = given (answer_left c.star_tests.ensures c.in-Answer.is)

pub returns-in-Delegate : goal.returns-in-Delegate
returns-in-Delegate t c = called (other_left c.star_tests.ensures c.in-Delegate.is) c.one_at_depth.ensures

pub returns-then-level-eq0 : goal.returns-then-level-eq0
returns-then-level-eq0 t c = impossible (by (node_left c.star_tests.ensures c.in-Recurse.is) (node1_zero star_op _ _ c.if-level-eq0.true))

pub returns-in_err-d_star-in-Recurse : goal.returns-in_err-d_star-in-Recurse
unfolding star-program
returns-in_err-d_star-in-Recurse t c =
    called (opened1 _ _ _ _ (node_left c.star_tests.ensures c.in-Recurse.is) c.if-level-eq0.false c.get-p.ensures)
    (failed c.in_err-d_star-in-Recurse.ensures c.from_residual.ensures)

pub returns-in_err-bd_star-in-Recurse : goal.returns-in_err-bd_star-in-Recurse
unfolding star-program
returns-in_err-bd_star-in-Recurse t c =
    called (opened1 _ _ _ _ (node_left c.star_tests.ensures c.in-Recurse.is) c.if-level-eq0.false c.get-p.ensures)
    (made c.in_ok-d_star-in-Recurse.ensures (failed c.in_err-bd_star-in-Recurse.ensures c.from_residual-in_err-bd_star-in-Recurse.ensures))

pub returns-in_err-bd_star_c-in-Recurse : goal.returns-in_err-bd_star_c-in-Recurse
unfolding star-program
returns-in_err-bd_star_c-in-Recurse t c =
    called (opened1 _ _ _ _ (node_left c.star_tests.ensures c.in-Recurse.is) c.if-level-eq0.false c.get-p.ensures)
    (made c.in_ok-d_star-in-Recurse.ensures (made c.in_ok-bd_star-in-Recurse.ensures
    (failed c.in_err-bd_star_c-in-Recurse.ensures c.from_residual-in_err-bd_star_c-in-Recurse.ensures)))

pub returns-in_err-a_plus_bdc-in-Recurse : goal.returns-in_err-a_plus_bdc-in-Recurse
unfolding star-program
returns-in_err-a_plus_bdc-in-Recurse t c =
    called (opened1 _ _ _ _ (node_left c.star_tests.ensures c.in-Recurse.is) c.if-level-eq0.false c.get-p.ensures)
    (made c.in_ok-d_star-in-Recurse.ensures (made c.in_ok-bd_star-in-Recurse.ensures (made c.in_ok-bd_star_c-in-Recurse.ensures
    (failed c.in_err-a_plus_bdc-in-Recurse.ensures c.from_residual-in_err-a_plus_bdc-in-Recurse.ensures))))

pub returns-in_err-res_a-in-Recurse : goal.returns-in_err-res_a-in-Recurse
unfolding star-program
returns-in_err-res_a-in-Recurse t c =
    called (opened1 _ _ _ _ (node_left c.star_tests.ensures c.in-Recurse.is) c.if-level-eq0.false c.get-p.ensures)
    (made c.in_ok-d_star-in-Recurse.ensures (made c.in_ok-bd_star-in-Recurse.ensures (made c.in_ok-bd_star_c-in-Recurse.ensures
    (made c.in_ok-a_plus_bdc-in-Recurse.ensures (failed c.in_err-res_a-in-Recurse.ensures c.from_residual-in_err-res_a-in-Recurse.ensures)))))

pub returns-in_err-h-in-Recurse : goal.returns-in_err-h-in-Recurse
unfolding star-program
returns-in_err-h-in-Recurse t c =
    called (opened1 _ _ _ _ (node_left c.star_tests.ensures c.in-Recurse.is) c.if-level-eq0.false c.get-p.ensures)
    (made c.in_ok-d_star-in-Recurse.ensures (made c.in_ok-bd_star-in-Recurse.ensures (made c.in_ok-bd_star_c-in-Recurse.ensures
    (made c.in_ok-a_plus_bdc-in-Recurse.ensures (made c.in_ok-res_a-in-Recurse.ensures
    (stopped c.in_err-h-in-Recurse.ensures c.from_residual-in_err-h-in-Recurse.ensures))))))

pub returns-in_ok-h-in-Recurse : goal.returns-in_ok-h-in-Recurse
unfolding star-program
returns-in_ok-h-in-Recurse t c =
    kept 10 _ _ _ (star_memo _ _ _) (node_left c.star_tests.ensures c.in-Recurse.is)
    (called (opened1 _ _ _ _ begin c.if-level-eq0.false c.get-p.ensures)
    (made c.in_ok-d_star-in-Recurse.ensures (made c.in_ok-bd_star-in-Recurse.ensures (made c.in_ok-bd_star_c-in-Recurse.ensures
    (made c.in_ok-a_plus_bdc-in-Recurse.ensures (made c.in_ok-res_a-in-Recurse.ensures c.in_ok-h-in-Recurse.ensures)))))) c.keep.ensures
