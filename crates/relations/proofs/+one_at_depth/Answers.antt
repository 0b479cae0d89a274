-- `one_at_depth` runs its program; the measure is the level.
use Rattle.memory.proofs.Remembering.{recalled}
use Rattle.memory.proofs.Steps.{begin, performs_by, performs_ret, given}
use Rattle.relations.proofs.Opened.{identity_zero, identity_step, identity_memo}
use Rattle.memory.proofs.Stopping.{made, failed, stopped, kept}
use Rattle.relations.proofs.+one_at_depth.Goals as goal

pub returns-then-level-eq0 : goal.returns-then-level-eq0
returns-then-level-eq0 t c = performs_by (identity_zero _ c.if-level-eq0.true) performs_ret

pub returns-in-Some : goal.returns-in-Some
returns-in-Some t c = given (recalled _ _ 0 0 (identity_memo _ _ _) begin c.recall.ensures c.in-Some.is)

pub returns-in_err-one : goal.returns-in_err-one
returns-in_err-one t c = performs_by (identity_step _ c.if-level-eq0.false) (failed c.in_err-one.ensures c.from_residual.ensures)

pub returns-in_err-zero : goal.returns-in_err-zero
returns-in_err-zero t c =
    performs_by (identity_step _ c.if-level-eq0.false) (made c.in_ok-one.ensures (failed c.in_err-zero.ensures c.from_residual-in_err-zero.ensures))

pub returns-in_err-h : goal.returns-in_err-h
returns-in_err-h t c =
    performs_by (identity_step _ c.if-level-eq0.false)
    (made c.in_ok-one.ensures (made c.in_ok-zero.ensures (stopped c.in_err-h.ensures c.from_residual-in_err-h.ensures)))

pub returns : goal.returns
returns t c =
    kept 22 _ 0 0 (identity_memo _ _ _) begin
    (performs_by (identity_step _ c.if-level-eq0.false)
    (made c.in_ok-one.ensures (made c.in_ok-zero.ensures c.in_ok-h.ensures))) c.keep.ensures
