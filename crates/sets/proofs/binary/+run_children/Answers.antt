-- `run` runs an operation's program and `children` that of its nodes; the measure is the level, then which of the two.
use mathlib.Core.Path.{sym, ◌∙◌}
use Rattle.model.proofs.Recursion.{node2_zero}
use Rattle.memory.proofs.Steps.{begin, by, further, given, called, impossible, performs_ret, answer_reduces, node_reduces}
use Rattle.memory.proofs.Stopping.{made, failed, stopped, kept}
use Rattle.sets.proofs.Pairs.{equal, opposite, cancelled, unopposed, opened}
use Rattle.sets.proofs.binary.+run_children.Goals.{run-else-not-CANCELS-via-then-not-CANCELS+else-a-other as unlike}
use Rattle.sets.proofs.binary.+run_children.Goals.{run-else-not-CANCELS-via-else-not-CANCELS as cancels}
use Rattle.sets.proofs.binary.+run_children.Goals as goal

pub run-returns-then-CANCELS : goal.run-returns-then-CANCELS
run-returns-then-CANCELS g t c = called (equal _ _ _ _ _ c.if-a-b.true (sym c.CANCELS.ensures ∙ c.if-CANCELS.true)) c.zero_at_depth.ensures

pub run-returns-then-a-b : goal.run-returns-then-a-b
run-returns-then-a-b g t c = called (equal _ _ _ _ _ c.if-a-b.true (sym c.CANCELS.ensures ∙ c.if-CANCELS.false)) performs_ret

pub run-returns-then-a-other : goal.run-returns-then-a-other
run-returns-then-a-other g t c =
    called (opposite _ _ _ _ _ _ c.if-a-b.false (sym c.if-not-CANCELS.ensures) c.other.ensures c.if-a-other.true) c.one_at_depth.ensures

pub run-returns-in-Answer : goal.run-returns-in-Answer
run-returns-in-Answer g t c =
    given (further (elim c.else-not-CANCELS.branch [
      | unlike w ↦ unopposed _ _ _ _ _ _ c.if-a-b.false (sym w.if-not-CANCELS.ensures) w.other.ensures w.if-a-other.false
      | cancels w ↦ cancelled _ _ _ _ _ c.if-a-b.false (sym w.if-not-CANCELS.ensures)
    ]) (answer_reduces c.shortcut.ensures c.in-Answer.is))

pub run-returns-in_err-h-in-Operands : goal.run-returns-in_err-h-in-Operands
run-returns-in_err-h-in-Operands g t c =
    called (further (elim c.else-not-CANCELS.branch [
      | unlike w ↦ unopposed _ _ _ _ _ _ c.if-a-b.false (sym w.if-not-CANCELS.ensures) w.other.ensures w.if-a-other.false
      | cancels w ↦ cancelled _ _ _ _ _ c.if-a-b.false (sym w.if-not-CANCELS.ensures)
    ]) (node_reduces c.shortcut.ensures c.in-Operands.is))
    (stopped c.in_err-h-in-Operands.ensures c.from_residual.ensures)

pub run-returns-in_ok-h-in-Operands : goal.run-returns-in_ok-h-in-Operands
run-returns-in_ok-h-in-Operands g t c =
    kept _ _ _ _ (g.met.O.Binary.kept.program _ _ _)
    (further (elim c.else-not-CANCELS.branch [
      | unlike w ↦ unopposed _ _ _ _ _ _ c.if-a-b.false (sym w.if-not-CANCELS.ensures) w.other.ensures w.if-a-other.false
      | cancels w ↦ cancelled _ _ _ _ _ c.if-a-b.false (sym w.if-not-CANCELS.ensures)
    ]) (node_reduces c.shortcut.ensures c.in-Operands.is))
    c.in_ok-h-in-Operands.ensures (rw c.MEMO.ensures at c.keep.ensures)

pub children-returns-then-level-eq0 : goal.children-returns-then-level-eq0
children-returns-then-level-eq0 g t c = impossible (by begin (node2_zero _ _ _ _ c.if-level-eq0.true))

pub children-returns-in_err-r0 : goal.children-returns-in_err-r0
children-returns-in_err-r0 g t c =
    called (opened _ _ _ _ _ c.if-level-eq0.false c.get-p.ensures c.get-q.ensures) (failed c.in_err-r0.ensures c.from_residual.ensures)

pub children-returns-in_err-r1 : goal.children-returns-in_err-r1
children-returns-in_err-r1 g t c =
    called (opened _ _ _ _ _ c.if-level-eq0.false c.get-p.ensures c.get-q.ensures)
    (made c.in_ok-r0.ensures (failed c.in_err-r1.ensures c.from_residual-in_err-r1.ensures))

pub children-returns : goal.children-returns
children-returns g t c =
    called (opened _ _ _ _ _ c.if-level-eq0.false c.get-p.ensures c.get-q.ensures)
    (made c.in_ok-r0.ensures (made c.in_ok-r1.ensures c.mk.ensures))
