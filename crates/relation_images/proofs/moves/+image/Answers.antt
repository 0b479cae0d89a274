-- `image` runs the program of its end; the measure is the level.
use Rattle.memory.proofs.Remembering.{recalled}
use Rattle.memory.proofs.Steps.{begin, by, given, called, impossible, performs_on}
use Rattle.memory.proofs.Stopping.{made, failed, stopped, kept}
use Rattle.relation_images.proofs.AtEnds.{image_is, image_memo, image_zero, image_opened, performs_united}
use Rattle.relation_images.proofs.Moving.{tested, answer_left, zero_left, one_left, whole_left, node_left}
use Rattle.relation_images.proofs.moves.+image.Goals as goal

pub returns-in-Answer : goal.returns-in-Answer
returns-in-Answer g t c j = given (answer_left (tested (image_is _ _ _ _) (c.image_tests.ensures j _ _)) c.in-Answer.is)

pub returns-in-Zero : goal.returns-in-Zero
returns-in-Zero g t c j = called (zero_left (tested (image_is _ _ _ _) (c.image_tests.ensures j _ _)) c.in-Zero.is) (performs_on c.zero_at_depth.ensures)

pub returns-in-One : goal.returns-in-One
returns-in-One g t c j = called (one_left (tested (image_is _ _ _ _) (c.image_tests.ensures j _ _)) c.in-One.is) (performs_on c.one_at_depth.ensures)

pub returns-in-Whole : goal.returns-in-Whole
returns-in-Whole g t c j = called (whole_left (tested (image_is _ _ _ _) (c.image_tests.ensures j _ _)) c.in-Whole.is) (c.range.ensures j)

pub returns-in-Some : goal.returns-in-Some
returns-in-Some g t c j =
    given (recalled _ _ _ _ (image_memo _ _ _ _ c.image_number-number.ensures c.in_order-first.ensures)
    (node_left (tested (image_is _ _ _ _) (c.image_tests.ensures j _ _)) c.in-Node.is) c.recall.ensures c.in-Some.is)

pub returns-then-level-eq0 : goal.returns-then-level-eq0
returns-then-level-eq0 g t c j =
    impossible (by (node_left (tested (image_is _ _ _ _) (c.image_tests.ensures j _ _)) c.in-Node.is) (image_zero _ _ _ _ c.if-level-eq0.true))

pub returns-in_err-r00-in-Node : goal.returns-in_err-r00-in-Node
returns-in_err-r00-in-Node g t c j =
    called (image_opened _ _ _ _ (node_left (tested (image_is _ _ _ _) (c.image_tests.ensures j _ _)) c.in-Node.is) c.if-level-eq0.false c.get-x.ensures
    c.get-y.ensures c.in_order-p10.ensures)
    (failed (c.in_err-r00-in-Node.ensures j) c.from_residual.ensures)

pub returns-in_err-r10-in-Node : goal.returns-in_err-r10-in-Node
returns-in_err-r10-in-Node g t c j =
    called (image_opened _ _ _ _ (node_left (tested (image_is _ _ _ _) (c.image_tests.ensures j _ _)) c.in-Node.is) c.if-level-eq0.false c.get-x.ensures
    c.get-y.ensures c.in_order-p10.ensures)
    (made (c.in_ok-r00-in-Node.ensures j) (failed (c.in_err-r10-in-Node.ensures j) c.from_residual-in_err-r10-in-Node.ensures))

pub returns-in_err-r01-in-Node : goal.returns-in_err-r01-in-Node
returns-in_err-r01-in-Node g t c j =
    called (image_opened _ _ _ _ (node_left (tested (image_is _ _ _ _) (c.image_tests.ensures j _ _)) c.in-Node.is) c.if-level-eq0.false c.get-x.ensures
    c.get-y.ensures c.in_order-p10.ensures)
    (made (c.in_ok-r00-in-Node.ensures j) (made (c.in_ok-r10-in-Node.ensures j)
    (failed (c.in_err-r01-in-Node.ensures j) c.from_residual-in_err-r01-in-Node.ensures)))

pub returns-in_err-r11-in-Node : goal.returns-in_err-r11-in-Node
returns-in_err-r11-in-Node g t c j =
    called (image_opened _ _ _ _ (node_left (tested (image_is _ _ _ _) (c.image_tests.ensures j _ _)) c.in-Node.is) c.if-level-eq0.false c.get-x.ensures
    c.get-y.ensures c.in_order-p10.ensures)
    (made (c.in_ok-r00-in-Node.ensures j) (made (c.in_ok-r10-in-Node.ensures j) (made (c.in_ok-r01-in-Node.ensures j)
    (failed (c.in_err-r11-in-Node.ensures j) c.from_residual-in_err-r11-in-Node.ensures))))

pub returns-in_err-h-in-Node : goal.returns-in_err-h-in-Node
returns-in_err-h-in-Node g t c j =
    called (image_opened _ _ _ _ (node_left (tested (image_is _ _ _ _) (c.image_tests.ensures j _ _)) c.in-Node.is) c.if-level-eq0.false c.get-x.ensures
    c.get-y.ensures c.in_order-p10.ensures)
    (made (c.in_ok-r00-in-Node.ensures j) (made (c.in_ok-r10-in-Node.ensures j) (made (c.in_ok-r01-in-Node.ensures j)
    (made (c.in_ok-r11-in-Node.ensures j) (stopped (performs_united g.E.End.outputs _ _ _ _ _ c.in_order-b.ensures (performs_on c.in_err-h-in-Node.ensures))
    c.from_residual-in_err-h-in-Node.ensures)))))

pub returns-in_ok-h-in-Node : goal.returns-in_ok-h-in-Node
returns-in_ok-h-in-Node g t c j =
    kept _ _ _ _ (image_memo _ _ _ _ c.image_number-number.ensures c.in_order-first.ensures)
    (node_left (tested (image_is _ _ _ _) (c.image_tests.ensures j _ _)) c.in-Node.is)
    (called (image_opened _ _ _ _ begin c.if-level-eq0.false c.get-x.ensures c.get-y.ensures c.in_order-p10.ensures)
    (made (c.in_ok-r00-in-Node.ensures j) (made (c.in_ok-r10-in-Node.ensures j) (made (c.in_ok-r01-in-Node.ensures j)
    (made (c.in_ok-r11-in-Node.ensures j) (performs_united g.E.End.outputs _ _ _ _ _ c.in_order-b.ensures (performs_on c.in_ok-h-in-Node.ensures)))))))
    c.keep.ensures
