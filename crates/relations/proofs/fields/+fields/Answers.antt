-- `fields` runs its program; the measure is the number of fields that are left.
use Rattle.memory.proofs.Steps.{performs_by, performs_ret}
use Rattle.relations.proofs.Naming.{fields_zero, fields_step}
use Rattle.memory.proofs.Stopping.{made, failed}
use Rattle.relations.proofs.fields.+fields.Goals as goal

pub returns-then-left-eq0 : goal.returns-then-left-eq0
returns-then-left-eq0 t c = performs_by (fields_zero _ _ _ _ _ c.if-left-eq0.true) performs_ret

pub returns-in_err-r : goal.returns-in_err-r
returns-in_err-r t c = performs_by (fields_step _ _ _ _ _ c.if-left-eq0.false) (failed c.in_err-r.ensures c.from_residual.ensures)

pub returns-in_err-z : goal.returns-in_err-z
returns-in_err-z t c =
    performs_by (fields_step _ _ _ _ _ c.if-left-eq0.false) (made c.in_ok-r.ensures (failed c.in_err-z.ensures c.from_residual-in_err-z.ensures))

pub returns : goal.returns
returns t c =
    performs_by (fields_step _ _ _ _ _ c.if-left-eq0.false) (made c.in_ok-r.ensures (made c.in_ok-z.ensures c.fields.ensures))
