-- `constant` runs its program; the measure is the level.
use Rattle.model.specs.Store.{rel}
use Rattle.model.proofs.Constants.{constant_zero, constant_step}
use Rattle.memory.proofs.Remembering.{recalled}
use Rattle.memory.proofs.Steps.{begin, performs_by, performs_ret, given}
use Rattle.relations.proofs.Opened.{constant_memo}
use Rattle.memory.proofs.Stopping.{made, failed, stopped, kept}
use Rattle.relations.proofs.+constant.Goals as goal

pub returns-then-level-eq0 : goal.returns-then-level-eq0
returns-then-level-eq0 t c = performs_by (constant_zero rel _ _ c.if-level-eq0.true) performs_ret

pub returns-in-Some : goal.returns-in-Some
returns-in-Some t c = given (recalled _ _ _ 0 (constant_memo _ _ _) begin c.recall.ensures c.in-Some.is)

pub returns-in_err-z : goal.returns-in_err-z
returns-in_err-z t c = performs_by (constant_step rel _ _ c.if-level-eq0.false) (failed c.in_err-z.ensures c.from_residual.ensures)

pub returns-in_err-h : goal.returns-in_err-h
returns-in_err-h t c =
    performs_by (constant_step rel _ _ c.if-level-eq0.false) (made c.in_ok-z.ensures (stopped c.in_err-h.ensures c.from_residual-in_err-h.ensures))

pub returns : goal.returns
returns t c =
    kept 21 _ _ _ (constant_memo _ _ _) begin
    (performs_by (constant_step rel _ _ c.if-level-eq0.false) (made c.in_ok-z.ensures c.in_ok-h.ensures)) c.keep.ensures
