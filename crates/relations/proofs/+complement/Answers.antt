-- `complement` runs its program; the measure is the level.
use borrow.Author.Tests.{lt-ltb}
use Rattle.model.specs.Operations.{complement_op, complement as complement-program}
use Rattle.model.proofs.Recursion.{node1_zero}
use Rattle.memory.proofs.Remembering.{recalled}
use Rattle.memory.proofs.Steps.{begin, by, yes, less_says, given, called, impossible}
use Rattle.relations.proofs.Children.{opened1}
use Rattle.relations.proofs.Opened.{complement_is, complement_left, complement_memo}
use Rattle.memory.proofs.Stopping.{made, failed, stopped, kept}
use Rattle.relations.proofs.+complement.Goals as goal

pub returns-then-a-lt2 : goal.returns-then-a-lt2
unfolding complement-program
returns-then-a-lt2 t c = given (yes (by begin (complement_is _ _)) (less_says (lt-ltb _ 2 c.if-a-lt2.true)))

pub returns-in-Some : goal.returns-in-Some
unfolding complement-program
returns-in-Some t c =
    given (recalled _ _ _ _ (complement_memo _ _ 0) (complement_left _ _ c.if-a-lt2.false)
    c.recall.ensures c.in-Some.is)

pub returns-then-level-eq0 : goal.returns-then-level-eq0
unfolding complement-program
returns-then-level-eq0 t c =
    impossible (by (complement_left _ _ c.if-a-lt2.false) (node1_zero complement_op _ _ c.if-level-eq0.true))

pub returns-in_err-r00 : goal.returns-in_err-r00
unfolding complement-program
returns-in_err-r00 t c =
    called (opened1 _ _ _ _ (complement_left _ _ c.if-a-lt2.false) c.if-level-eq0.false c.get-p.ensures)
    (failed c.in_err-r00.ensures c.from_residual.ensures)

pub returns-in_err-r01 : goal.returns-in_err-r01
unfolding complement-program
returns-in_err-r01 t c =
    called (opened1 _ _ _ _ (complement_left _ _ c.if-a-lt2.false) c.if-level-eq0.false c.get-p.ensures) (made c.in_ok-r00.ensures
    (failed c.in_err-r01.ensures c.from_residual-in_err-r01.ensures))

pub returns-in_err-r10 : goal.returns-in_err-r10
unfolding complement-program
returns-in_err-r10 t c =
    called (opened1 _ _ _ _ (complement_left _ _ c.if-a-lt2.false) c.if-level-eq0.false c.get-p.ensures) (made c.in_ok-r00.ensures
    (made c.in_ok-r01.ensures (failed c.in_err-r10.ensures c.from_residual-in_err-r10.ensures)))

pub returns-in_err-r11 : goal.returns-in_err-r11
unfolding complement-program
returns-in_err-r11 t c =
    called (opened1 _ _ _ _ (complement_left _ _ c.if-a-lt2.false) c.if-level-eq0.false c.get-p.ensures) (made c.in_ok-r00.ensures
    (made c.in_ok-r01.ensures (made c.in_ok-r10.ensures (failed c.in_err-r11.ensures c.from_residual-in_err-r11.ensures))))

pub returns-in_err-h : goal.returns-in_err-h
unfolding complement-program
returns-in_err-h t c =
    called (opened1 _ _ _ _ (complement_left _ _ c.if-a-lt2.false) c.if-level-eq0.false c.get-p.ensures) (made c.in_ok-r00.ensures
    (made c.in_ok-r01.ensures (made c.in_ok-r10.ensures (made c.in_ok-r11.ensures (stopped c.in_err-h.ensures c.from_residual-in_err-h.ensures)))))

pub returns : goal.returns
unfolding complement-program
returns t c =
    kept 8 _ _ 0 (complement_memo _ _ 0) (complement_left _ _ c.if-a-lt2.false)
    (called (opened1 _ _ _ _ begin c.if-level-eq0.false c.get-p.ensures) (made c.in_ok-r00.ensures (made c.in_ok-r01.ensures
    (made c.in_ok-r10.ensures (made c.in_ok-r11.ensures c.in_ok-h.ensures))))) c.keep.ensures
