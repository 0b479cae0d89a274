-- `raise` runs its program; the measure is the number of fields.
use Rattle.memory.proofs.Steps.{performs_by, performs_ret}
use Rattle.memory.proofs.Stopping.{made, failed}
use Rattle.sets.proofs.Opened.{raise_zero, raise_step}
use Rattle.sets.proofs.fields.+raise.Goals as goal

pub returns-then-fields-eq0 : goal.returns-then-fields-eq0
returns-then-fields-eq0 t c = performs_by (raise_zero _ _ c.if-fields-eq0.true) performs_ret

pub returns-in_err-t : goal.returns-in_err-t
returns-in_err-t t c = performs_by (raise_step _ _ c.if-fields-eq0.false) (failed c.in_err-t.ensures c.from_residual.ensures)

pub returns : goal.returns
returns t c = performs_by (raise_step _ _ c.if-fields-eq0.false) (made c.in_ok-t.ensures c.raise.ensures)
