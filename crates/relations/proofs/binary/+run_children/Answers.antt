-- `run` runs an operation's program and `children` that of its nodes; the measure is the level, then which of the two.
use mathlib.Core.Path.{sym, ap, ◌∙◌}
use Rattle.model.proofs.Recursion.{node2_zero}
use Rattle.memory.proofs.Steps.{begin, by, further, given, called, impossible, performs_by, performs_ret}
use Rattle.relations.specs.Binary.{on_equal}
use Rattle.relations.proofs.Children.{opened2, lift_left}
use Rattle.relations.proofs.Opened.{equal, differ, binary_is}
use Rattle.relations.proofs.ShortcutLaws.{answer_left, other_left, node_left}
use Rattle.memory.proofs.Stopping.{made, failed, stopped, kept}
use Rattle.relations.proofs.binary.+run_children.Goals as goal

pub run-returns-then-CANCELS : goal.run-returns-then-CANCELS
run-returns-then-CANCELS g t c =
    called (equal (binary_is _ _ _ _ _) c.if-a-b.true)
    (performs_by (ap (λ x. on_equal x c.args.level c.args.a) (sym c.CANCELS.ensures ∙ c.if-CANCELS.true)) c.zero_at_depth.ensures)

pub run-returns-then-a-b : goal.run-returns-then-a-b
run-returns-then-a-b g t c =
    called (equal (binary_is _ _ _ _ _) c.if-a-b.true)
    (performs_by (ap (λ x. on_equal x c.args.level c.args.a) (sym c.CANCELS.ensures ∙ c.if-CANCELS.false)) performs_ret)

pub run-returns-in-Answer : goal.run-returns-in-Answer
run-returns-in-Answer g t c = given (further (differ (binary_is _ _ _ _ _) c.if-a-b.false) (answer_left c.shortcut.ensures c.in-Answer.is))

pub run-returns-in-Delegate : goal.run-returns-in-Delegate
run-returns-in-Delegate g t c =
    called (further (differ (binary_is _ _ _ _ _) c.if-a-b.false) (other_left c.shortcut.ensures c.in-Delegate.is)) c.complement.ensures

pub run-returns-in_err-h-in-Recurse : goal.run-returns-in_err-h-in-Recurse
run-returns-in_err-h-in-Recurse g t c =
    called (further (differ (binary_is _ _ _ _ _) c.if-a-b.false) (node_left c.shortcut.ensures c.in-Recurse.is))
    (stopped c.in_err-h-in-Recurse.ensures c.from_residual.ensures)

pub run-returns-in_ok-h-in-Recurse : goal.run-returns-in_ok-h-in-Recurse
run-returns-in_ok-h-in-Recurse g t c =
    kept _ _ _ _ (g.met.O.Binary.kept.program _ _ _)
    (further (differ (binary_is _ _ _ _ _) c.if-a-b.false) (node_left c.shortcut.ensures c.in-Recurse.is))
    c.in_ok-h-in-Recurse.ensures (rw c.MEMO.ensures at c.keep.ensures)

pub children-returns-then-level-eq0 : goal.children-returns-then-level-eq0
children-returns-then-level-eq0 g t c = impossible (by begin (node2_zero _ _ _ _ c.if-level-eq0.true))

pub children-returns-in_err-r : goal.children-returns-in_err-r
children-returns-in_err-r g t c =
    called (lift_left _ _ _ _ _ (g.met.O.Binary.lifts (sym c.LIFTS.ensures ∙ c.if-LIFTS.true)) c.if-level-eq0.false c.get-p.ensures c.get-q.ensures
    (c.lifted.ensures.yes c.if-lifted.true)) (failed c.in_err-r.ensures c.from_residual.ensures)

pub children-returns-then-lifted : goal.children-returns-then-lifted
children-returns-then-lifted g t c =
    called (lift_left _ _ _ _ _ (g.met.O.Binary.lifts (sym c.LIFTS.ensures ∙ c.if-LIFTS.true)) c.if-level-eq0.false c.get-p.ensures c.get-q.ensures
    (c.lifted.ensures.yes c.if-lifted.true)) (made c.in_ok-r.ensures c.mk.ensures)

pub children-returns-in_err-r00 : goal.children-returns-in_err-r00
children-returns-in_err-r00 g t c =
    called (opened2 _ _ _ _ _ begin c.if-level-eq0.false c.get-p.ensures c.get-q.ensures)
    (failed c.in_err-r00.ensures c.from_residual-in_err-r00.ensures)

pub children-returns-in_err-r01 : goal.children-returns-in_err-r01
children-returns-in_err-r01 g t c =
    called (opened2 _ _ _ _ _ begin c.if-level-eq0.false c.get-p.ensures c.get-q.ensures)
    (made c.in_ok-r00.ensures (failed c.in_err-r01.ensures c.from_residual-in_err-r01.ensures))

pub children-returns-in_err-r10 : goal.children-returns-in_err-r10
children-returns-in_err-r10 g t c =
    called (opened2 _ _ _ _ _ begin c.if-level-eq0.false c.get-p.ensures c.get-q.ensures)
    (made c.in_ok-r00.ensures (made c.in_ok-r01.ensures (failed c.in_err-r10.ensures c.from_residual-in_err-r10.ensures)))

pub children-returns-in_err-r11 : goal.children-returns-in_err-r11
children-returns-in_err-r11 g t c =
    called (opened2 _ _ _ _ _ begin c.if-level-eq0.false c.get-p.ensures c.get-q.ensures)
    (made c.in_ok-r00.ensures (made c.in_ok-r01.ensures (made c.in_ok-r10.ensures (failed c.in_err-r11.ensures c.from_residual-in_err-r11.ensures))))

pub children-returns : goal.children-returns
children-returns g t c =
    called (opened2 _ _ _ _ _ begin c.if-level-eq0.false c.get-p.ensures c.get-q.ensures)
    (made c.in_ok-r00.ensures (made c.in_ok-r01.ensures (made c.in_ok-r10.ensures (made c.in_ok-r11.ensures c.mk-2.ensures))))
