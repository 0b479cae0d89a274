-- `range` runs the program of its end; the measure is the level.
use Rattle.memory.proofs.Remembering.{recalled}
use Rattle.memory.proofs.Steps.{begin, by, given, called, impossible, performs_on}
use Rattle.memory.proofs.Stopping.{made, failed, stopped, kept}
use Rattle.relation_images.proofs.AtEnds.{range_memo, range_small, range_left, range_zero, range_opened}
use Rattle.relation_images.proofs.+range.Goals as goal

pub returns-then-a-lt2 : goal.returns-then-a-lt2
returns-then-a-lt2 g t c j = given (range_small _ _ _ c.if-a-lt2.true)

pub returns-in-Some : goal.returns-in-Some
returns-in-Some g t c j =
    given (recalled _ _ _ _ (range_memo _ _ _ c.range_number-number.ensures) (range_left _ _ _ c.if-a-lt2.false) c.recall.ensures c.in-Some.is)

pub returns-then-level-eq0 : goal.returns-then-level-eq0
returns-then-level-eq0 g t c j = impossible (by (range_left _ _ _ c.if-a-lt2.false) (range_zero _ _ _ c.if-level-eq0.true))

pub returns-in_err-r0 : goal.returns-in_err-r0
returns-in_err-r0 g t c j =
    called (range_opened _ _ _ (range_left _ _ _ c.if-a-lt2.false) c.if-level-eq0.false c.get-p.ensures c.in_order-second.ensures)
    (failed (c.in_err-r0.ensures j) c.from_residual.ensures)

pub returns-in_err-r1 : goal.returns-in_err-r1
returns-in_err-r1 g t c j =
    called (range_opened _ _ _ (range_left _ _ _ c.if-a-lt2.false) c.if-level-eq0.false c.get-p.ensures c.in_order-second.ensures)
    (made (c.in_ok-r0.ensures j) (failed (c.in_err-r1.ensures j) c.from_residual-in_err-r1.ensures))

pub returns-in_err-r2 : goal.returns-in_err-r2
returns-in_err-r2 g t c j =
    called (range_opened _ _ _ (range_left _ _ _ c.if-a-lt2.false) c.if-level-eq0.false c.get-p.ensures c.in_order-second.ensures)
    (made (c.in_ok-r0.ensures j) (made (c.in_ok-r1.ensures j) (failed (c.in_err-r2.ensures j) c.from_residual-in_err-r2.ensures)))

pub returns-in_err-r3 : goal.returns-in_err-r3
returns-in_err-r3 g t c j =
    called (range_opened _ _ _ (range_left _ _ _ c.if-a-lt2.false) c.if-level-eq0.false c.get-p.ensures c.in_order-second.ensures)
    (made (c.in_ok-r0.ensures j) (made (c.in_ok-r1.ensures j)
    (made (c.in_ok-r2.ensures j) (failed (c.in_err-r3.ensures j) c.from_residual-in_err-r3.ensures))))

pub returns-in_err-h : goal.returns-in_err-h
returns-in_err-h g t c j =
    called (range_opened _ _ _ (range_left _ _ _ c.if-a-lt2.false) c.if-level-eq0.false c.get-p.ensures c.in_order-second.ensures)
    (made (c.in_ok-r0.ensures j) (made (c.in_ok-r1.ensures j) (made (c.in_ok-r2.ensures j) (made (c.in_ok-r3.ensures j)
    (stopped (performs_on c.in_err-h.ensures) c.from_residual-in_err-h.ensures)))))

pub returns : goal.returns
returns g t c j =
    kept _ _ _ _ (range_memo _ _ _ c.range_number-number.ensures) (range_left _ _ _ c.if-a-lt2.false)
    (called (range_opened _ _ _ begin c.if-level-eq0.false c.get-p.ensures c.in_order-second.ensures)
    (made (c.in_ok-r0.ensures j) (made (c.in_ok-r1.ensures j) (made (c.in_ok-r2.ensures j) (made (c.in_ok-r3.ensures j)
    (performs_on c.in_ok-h.ensures)))))) c.keep.ensures
