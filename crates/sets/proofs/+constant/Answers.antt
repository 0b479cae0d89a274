-- `constant` runs its program; the measure is the level.
use Rattle.model.specs.Store.{set}
use Rattle.model.proofs.Constants.{constant_zero, constant_step}
use Rattle.memory.proofs.Steps.{performs_by, performs_ret}
use Rattle.memory.proofs.Stopping.{made, failed}
use Rattle.sets.proofs.+constant.Goals as goal

pub returns-then-level-eq0 : goal.returns-then-level-eq0
returns-then-level-eq0 t c = performs_by (constant_zero set _ _ c.if-level-eq0.true) performs_ret

pub returns-in_err-z : goal.returns-in_err-z
returns-in_err-z t c = performs_by (constant_step set _ _ c.if-level-eq0.false) (failed c.in_err-z.ensures c.from_residual.ensures)

pub returns : goal.returns
returns t c = performs_by (constant_step set _ _ c.if-level-eq0.false) (made c.in_ok-z.ensures c.mk.ensures)
