-- `ifelse` runs its program; the measure is the level.
use native.Mathlib.Omega.{arith}
use Rattle.memory.proofs.Remembering.{recalled}
use Rattle.memory.proofs.Steps.{begin, by, given, called, impossible}
use Rattle.memory.proofs.Stopping.{made, failed, stopped, kept}
use Rattle.sets.proofs.Opened.{ifelse_zero, ifelse_memo}
use Rattle.sets.proofs.Branches.{here_left, below_left}
use Rattle.sets.proofs.fields.+ifelse.Goals as goal

pub returns-then-level-eq0 : goal.returns-then-level-eq0
returns-then-level-eq0 t c = impossible (by begin (ifelse_zero _ _ _ _ c.if-level-eq0.true))

pub returns-in-Some : goal.returns-in-Some
returns-in-Some t c = given (recalled _ _ _ _ (ifelse_memo _ _ _ _ (omega (arith, c.ranges.var.fits))) begin c.recall.ensures c.in-Some.is)

pub returns-in_err-r : goal.returns-in_err-r
returns-in_err-r t c =
    called (here_left _ _ _ _ c.if-level-eq0.false c.get-t.ensures c.get-e.ensures c.if-var-eq0.true)
    (stopped c.in_err-r.ensures c.from_residual.ensures)

pub returns-then-var-eq0 : goal.returns-then-var-eq0
returns-then-var-eq0 t c =
    kept _ _ _ _ (ifelse_memo _ _ _ _ (omega (arith, c.ranges.var.fits))) begin
    (called (here_left _ _ _ _ c.if-level-eq0.false c.get-t.ensures c.get-e.ensures c.if-var-eq0.true) c.in_ok-r.ensures) c.keep.ensures

pub returns-in_err-r0 : goal.returns-in_err-r0
returns-in_err-r0 t c =
    called (below_left _ _ _ _ c.if-level-eq0.false c.get-t.ensures c.get-e.ensures c.if-var-eq0.false)
    (failed c.in_err-r0.ensures c.from_residual-in_err-r0.ensures)

pub returns-in_err-r1 : goal.returns-in_err-r1
returns-in_err-r1 t c =
    called (below_left _ _ _ _ c.if-level-eq0.false c.get-t.ensures c.get-e.ensures c.if-var-eq0.false)
    (made c.in_ok-r0.ensures (failed c.in_err-r1.ensures c.from_residual-in_err-r1.ensures))

pub returns-in_err-r-2 : goal.returns-in_err-r-2
returns-in_err-r-2 t c =
    called (below_left _ _ _ _ c.if-level-eq0.false c.get-t.ensures c.get-e.ensures c.if-var-eq0.false)
    (made c.in_ok-r0.ensures (made c.in_ok-r1.ensures (stopped c.in_err-r-2.ensures c.from_residual-in_err-r-2.ensures)))

pub returns : goal.returns
returns t c =
    kept _ _ _ _ (ifelse_memo _ _ _ _ (omega (arith, c.ranges.var.fits))) begin
    (called (below_left _ _ _ _ c.if-level-eq0.false c.get-t.ensures c.get-e.ensures c.if-var-eq0.false)
    (made c.in_ok-r0.ensures (made c.in_ok-r1.ensures c.in_ok-r-2.ensures)))
    c.keep-2.ensures
