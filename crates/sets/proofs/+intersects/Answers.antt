-- `intersects` runs its program; the measure is the level.
use borrow.Author.Tests.{eqb-true, eqb-false}
use Rattle.model.specs.Sets.{intersects_op}
use Rattle.model.proofs.Recursion.{node2_zero}
use Rattle.memory.proofs.Steps.{begin, by, further, given, called, impossible, answer_reduces, node_reduces}
use Rattle.memory.proofs.YesNo.{intersects_yes_no, performs_told, either_first, either_second, told_kept}
use Rattle.sets.proofs.Opened.{intersects_is, intersects_memo}
use Rattle.sets.proofs.Meets.{meet_left}
use Rattle.sets.proofs.+intersects.Goals.{then-intersects, else-intersects}
use Rattle.sets.proofs.+intersects.Goals as goal

pub returns-then-level-eq0 : goal.returns-then-level-eq0
returns-then-level-eq0 t c n =
    impossible (by (further (by begin (intersects_is _ _ _)) (node_reduces c.intersects_tests.ensures c.in-Operands.is))
    (node2_zero intersects_op _ _ _ c.if-level-eq0.true))

pub returns-in-Answer : goal.returns-in-Answer
returns-in-Answer t c n =
    performs_told (intersects_yes_no _ _ _) (given (further (by begin (intersects_is _ _ _)) (answer_reduces c.intersects_tests.ensures c.in-Answer.is)))
    (eqb-true _ 1) (eqb-false _ 1)

pub returns-after-intersects : goal.returns-after-intersects
returns-after-intersects t c n =
    let left = meet_left _ _ _ c.if-level-eq0.false c.get-p.ensures c.get-q.ensures in
    told_kept _ _ _ _ _ (intersects_memo _ _ _) (further (by begin (intersects_is _ _ _)) (node_reduces c.intersects_tests.ensures c.in-Operands.is))
    (elim c.if-intersects.branch [
      | then-intersects b ↦ rw (b.meet-is, b.work-is) (called left (either_first (c.intersects.ensures n) b.if-intersects.true))
      | else-intersects b ↦
          rw (b.meet-is, b.work-is) (called left (either_second (c.intersects.ensures n) _ b.if-intersects.false (b.intersects-meet.ensures n)))
    ])
    c.from.ensures c.keep.ensures
