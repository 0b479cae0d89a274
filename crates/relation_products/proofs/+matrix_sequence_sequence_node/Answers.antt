-- `sequence` runs its program, `sequence_node` that of its nodes, `matrix` that of nodes of no known shape; the measure is the level, then which of them.
use borrow.Author.Tests.{not-false}
use Rattle.model.specs.Relations.{sequence_op, sequence}
use Rattle.model.proofs.Recursion.{node2_zero}
use Rattle.memory.proofs.Steps.{begin, by, called, impossible, given, answer_reduces, node_reduces}
use Rattle.relations.proofs.Children.{opened2}
use Rattle.memory.proofs.Stopping.{made, failed, stopped, kept}
use Rattle.relation_products.proofs.Matrices.{diagonal_left, lift_left}
use Rattle.relation_products.proofs.Opened.{sequence_memo}
use Rattle.relation_products.proofs.+matrix_sequence_sequence_node.Goals as goal

pub matrix-returns-in_err-a00b00 : goal.matrix-returns-in_err-a00b00
matrix-returns-in_err-a00b00 t c =
    failed c.in_err-a00b00.ensures c.from_residual.ensures

pub matrix-returns-in_err-a01b10 : goal.matrix-returns-in_err-a01b10
matrix-returns-in_err-a01b10 t c =
    made c.in_ok-a00b00.ensures (failed c.in_err-a01b10.ensures c.from_residual-in_err-a01b10.ensures)

pub matrix-returns-in_err-a00b01 : goal.matrix-returns-in_err-a00b01
matrix-returns-in_err-a00b01 t c =
    made c.in_ok-a00b00.ensures (made c.in_ok-a01b10.ensures (failed c.in_err-a00b01.ensures c.from_residual-in_err-a00b01.ensures))

pub matrix-returns-in_err-a01b11 : goal.matrix-returns-in_err-a01b11
matrix-returns-in_err-a01b11 t c =
    made c.in_ok-a00b00.ensures (made c.in_ok-a01b10.ensures (made c.in_ok-a00b01.ensures
    (failed c.in_err-a01b11.ensures c.from_residual-in_err-a01b11.ensures)))

pub matrix-returns-in_err-a10b00 : goal.matrix-returns-in_err-a10b00
matrix-returns-in_err-a10b00 t c =
    made c.in_ok-a00b00.ensures (made c.in_ok-a01b10.ensures (made c.in_ok-a00b01.ensures (made c.in_ok-a01b11.ensures
    (failed c.in_err-a10b00.ensures c.from_residual-in_err-a10b00.ensures))))

pub matrix-returns-in_err-a11b10 : goal.matrix-returns-in_err-a11b10
matrix-returns-in_err-a11b10 t c =
    made c.in_ok-a00b00.ensures (made c.in_ok-a01b10.ensures (made c.in_ok-a00b01.ensures (made c.in_ok-a01b11.ensures
    (made c.in_ok-a10b00.ensures (failed c.in_err-a11b10.ensures c.from_residual-in_err-a11b10.ensures)))))

pub matrix-returns-in_err-a10b01 : goal.matrix-returns-in_err-a10b01
matrix-returns-in_err-a10b01 t c =
    made c.in_ok-a00b00.ensures (made c.in_ok-a01b10.ensures (made c.in_ok-a00b01.ensures (made c.in_ok-a01b11.ensures
    (made c.in_ok-a10b00.ensures (made c.in_ok-a11b10.ensures (failed c.in_err-a10b01.ensures c.from_residual-in_err-a10b01.ensures))))))

pub matrix-returns-in_err-a11b11 : goal.matrix-returns-in_err-a11b11
matrix-returns-in_err-a11b11 t c =
    made c.in_ok-a00b00.ensures (made c.in_ok-a01b10.ensures (made c.in_ok-a00b01.ensures (made c.in_ok-a01b11.ensures
    (made c.in_ok-a10b00.ensures (made c.in_ok-a11b10.ensures (made c.in_ok-a10b01.ensures
    (failed c.in_err-a11b11.ensures c.from_residual-in_err-a11b11.ensures)))))))

pub matrix-returns : goal.matrix-returns
matrix-returns t c =
    made c.in_ok-a00b00.ensures (made c.in_ok-a01b10.ensures (made c.in_ok-a00b01.ensures (made c.in_ok-a01b11.ensures
    (made c.in_ok-a10b00.ensures (made c.in_ok-a11b10.ensures (made c.in_ok-a10b01.ensures (made c.in_ok-a11b11.ensures c.sums.ensures)))))))

pub sequence-returns-in-Answer : goal.sequence-returns-in-Answer
unfolding sequence
sequence-returns-in-Answer t c = given (answer_reduces c.sequence_tests.ensures c.in-Answer.is)

pub sequence-returns-in_err-h-in-Operands : goal.sequence-returns-in_err-h-in-Operands
unfolding sequence
sequence-returns-in_err-h-in-Operands t c =
    called (node_reduces c.sequence_tests.ensures c.in-Operands.is) (stopped c.in_err-h-in-Operands.ensures c.from_residual.ensures)

pub sequence-returns-in_ok-h-in-Operands : goal.sequence-returns-in_ok-h-in-Operands
unfolding sequence
sequence-returns-in_ok-h-in-Operands t c =
    kept 9 _ _ _ (sequence_memo _ _ _) (node_reduces c.sequence_tests.ensures c.in-Operands.is) c.in_ok-h-in-Operands.ensures c.keep.ensures

pub sequence_node-returns-then-level-eq0 : goal.sequence_node-returns-then-level-eq0
sequence_node-returns-then-level-eq0 t c = impossible (by begin (node2_zero sequence_op _ _ _ c.if-level-eq0.true))

pub sequence_node-returns-then-q : goal.sequence_node-returns-then-q
unfolding sequence
sequence_node-returns-then-q t c =
    called (opened2 _ _ _ _ _ begin c.if-level-eq0.false c.get-p.ensures c.get-q.ensures) c.matrix.ensures

pub sequence_node-returns-in_err-r : goal.sequence_node-returns-in_err-r
sequence_node-returns-in_err-r t c =
    called (lift_left _ _ _ c.if-level-eq0.false c.get-p.ensures c.get-q.ensures (c.lifted.ensures.yes c.if-lifted.true)
    c.relation_properties.ensures (not-false _ c.if-not-relation_properties.false)) (failed c.in_err-r.ensures c.from_residual.ensures)

pub sequence_node-returns-then-lifted : goal.sequence_node-returns-then-lifted
sequence_node-returns-then-lifted t c =
    called (lift_left _ _ _ c.if-level-eq0.false c.get-p.ensures c.get-q.ensures (c.lifted.ensures.yes c.if-lifted.true)
    c.relation_properties.ensures (not-false _ c.if-not-relation_properties.false)) (made c.in_ok-r.ensures c.mk.ensures)

pub sequence_node-returns-in_err-r00 : goal.sequence_node-returns-in_err-r00
sequence_node-returns-in_err-r00 t c =
    called (diagonal_left _ _ _ c.if-level-eq0.false c.get-p.ensures c.get-q.ensures c.if-q.false c.relation_properties.ensures
    (not-false _ c.if-not-relation_properties.false)) (failed c.in_err-r00.ensures c.from_residual-in_err-r00.ensures)

pub sequence_node-returns-in_err-r01 : goal.sequence_node-returns-in_err-r01
sequence_node-returns-in_err-r01 t c =
    called (diagonal_left _ _ _ c.if-level-eq0.false c.get-p.ensures c.get-q.ensures c.if-q.false c.relation_properties.ensures
    (not-false _ c.if-not-relation_properties.false)) (made c.in_ok-r00.ensures (failed c.in_err-r01.ensures c.from_residual-in_err-r01.ensures))

pub sequence_node-returns-in_err-r10 : goal.sequence_node-returns-in_err-r10
sequence_node-returns-in_err-r10 t c =
    called (diagonal_left _ _ _ c.if-level-eq0.false c.get-p.ensures c.get-q.ensures c.if-q.false c.relation_properties.ensures
    (not-false _ c.if-not-relation_properties.false)) (made c.in_ok-r00.ensures (made c.in_ok-r01.ensures
    (failed c.in_err-r10.ensures c.from_residual-in_err-r10.ensures)))

pub sequence_node-returns-in_err-r11 : goal.sequence_node-returns-in_err-r11
sequence_node-returns-in_err-r11 t c =
    called (diagonal_left _ _ _ c.if-level-eq0.false c.get-p.ensures c.get-q.ensures c.if-q.false c.relation_properties.ensures
    (not-false _ c.if-not-relation_properties.false)) (made c.in_ok-r00.ensures (made c.in_ok-r01.ensures (made c.in_ok-r10.ensures
    (failed c.in_err-r11.ensures c.from_residual-in_err-r11.ensures))))

pub sequence_node-returns : goal.sequence_node-returns
sequence_node-returns t c =
    called (diagonal_left _ _ _ c.if-level-eq0.false c.get-p.ensures c.get-q.ensures c.if-q.false c.relation_properties.ensures
    (not-false _ c.if-not-relation_properties.false)) (made c.in_ok-r00.ensures (made c.in_ok-r01.ensures (made c.in_ok-r10.ensures
    (made c.in_ok-r11.ensures c.mk-2.ensures))))
