-- `flip` runs its program; the measure is the level.
use borrow.Author.Tests.{lt-ltb}
use Rattle.model.specs.Relations.{flip_op, flip as flip-program}
use Rattle.model.proofs.Recursion.{node1_zero}
use Rattle.memory.proofs.Remembering.{recalled}
use Rattle.memory.proofs.Steps.{begin, by, yes, less_says, given, called, impossible}
use Rattle.relations.proofs.Children.{opened1}
use Rattle.relations.proofs.Opened.{flip_is, flip_left, flip_memo}
use Rattle.memory.proofs.Stopping.{made, failed, stopped, kept}
use Rattle.relations.proofs.+flip.Goals as goal

pub returns-then-a-lt2 : goal.returns-then-a-lt2
unfolding flip-program
returns-then-a-lt2 t c = given (yes (by begin (flip_is _ _)) (less_says (lt-ltb _ 2 c.if-a-lt2.true)))

pub returns-in-Some : goal.returns-in-Some
unfolding flip-program
returns-in-Some t c =
    given (recalled _ _ _ _ (flip_memo _ _ 0) (flip_left _ _ c.if-a-lt2.false)
    c.recall.ensures c.in-Some.is)

pub returns-then-level-eq0 : goal.returns-then-level-eq0
unfolding flip-program
returns-then-level-eq0 t c =
    impossible (by (flip_left _ _ c.if-a-lt2.false) (node1_zero flip_op _ _ c.if-level-eq0.true))

pub returns-in_err-f00 : goal.returns-in_err-f00
unfolding flip-program
returns-in_err-f00 t c =
    called (opened1 _ _ _ _ (flip_left _ _ c.if-a-lt2.false) c.if-level-eq0.false c.get-p.ensures)
    (failed c.in_err-f00.ensures c.from_residual.ensures)

pub returns-in_err-f01 : goal.returns-in_err-f01
unfolding flip-program
returns-in_err-f01 t c =
    called (opened1 _ _ _ _ (flip_left _ _ c.if-a-lt2.false) c.if-level-eq0.false c.get-p.ensures) (made c.in_ok-f00.ensures
    (failed c.in_err-f01.ensures c.from_residual-in_err-f01.ensures))

pub returns-in_err-f10 : goal.returns-in_err-f10
unfolding flip-program
returns-in_err-f10 t c =
    called (opened1 _ _ _ _ (flip_left _ _ c.if-a-lt2.false) c.if-level-eq0.false c.get-p.ensures) (made c.in_ok-f00.ensures
    (made c.in_ok-f01.ensures (failed c.in_err-f10.ensures c.from_residual-in_err-f10.ensures)))

pub returns-in_err-f11 : goal.returns-in_err-f11
unfolding flip-program
returns-in_err-f11 t c =
    called (opened1 _ _ _ _ (flip_left _ _ c.if-a-lt2.false) c.if-level-eq0.false c.get-p.ensures) (made c.in_ok-f00.ensures
    (made c.in_ok-f01.ensures (made c.in_ok-f10.ensures (failed c.in_err-f11.ensures c.from_residual-in_err-f11.ensures))))

pub returns-in_err-h : goal.returns-in_err-h
unfolding flip-program
returns-in_err-h t c =
    called (opened1 _ _ _ _ (flip_left _ _ c.if-a-lt2.false) c.if-level-eq0.false c.get-p.ensures) (made c.in_ok-f00.ensures
    (made c.in_ok-f01.ensures (made c.in_ok-f10.ensures (made c.in_ok-f11.ensures (stopped c.in_err-h.ensures c.from_residual-in_err-h.ensures)))))

pub returns : goal.returns
unfolding flip-program
returns t c =
    kept 11 _ _ 0 (flip_memo _ _ 0) (flip_left _ _ c.if-a-lt2.false)
    (called (opened1 _ _ _ _ begin c.if-level-eq0.false c.get-p.ensures) (made c.in_ok-f00.ensures (made c.in_ok-f01.ensures
    (made c.in_ok-f10.ensures (made c.in_ok-f11.ensures c.in_ok-h.ensures))))) c.keep.ensures
