-- `test` runs its program: its calls in order.
use mathlib.Core.Path.{refl}
use mathlib.Core.Bool.{true, false}
use Rattle.memory.proofs.Stopping.{made, failed}
use Rattle.sets.proofs.Tested.{zero_fails, zero_made, test_gives}
use Rattle.sets.proofs.fields.test.Goals as goal

pub returns-in_err-z : goal.returns-in_err-z
returns-in_err-z c = zero_fails _ _ _ c.fields_after.ensures c.in_err-z.ensures c.from_residual.ensures

pub returns-in_err-m : goal.returns-in_err-m
returns-in_err-m c = zero_made _ _ _ c.fields_after.ensures c.in_ok-z.ensures c.other.ensures (failed c.in_err-m.ensures c.from_residual-in_err-m.ensures)

pub returns-in_err-r : goal.returns-in_err-r
returns-in_err-r c =
    zero_made _ _ _ c.fields_after.ensures c.in_ok-z.ensures c.other.ensures
    (made c.in_ok-m.ensures (failed c.in_err-r.ensures c.from_residual-in_err-r.ensures))

pub returns-then-value : goal.returns-then-value
returns-then-value c =
    zero_made _ _ _ c.fields_after.ensures c.in_ok-z.ensures c.other.ensures
    (made c.in_ok-m.ensures (made c.in_ok-r.ensures (test_gives _ true _ c.if-value.true refl)))

pub returns-else-value : goal.returns-else-value
returns-else-value c =
    zero_made _ _ _ c.fields_after.ensures c.in_ok-z.ensures c.other.ensures
    (made c.in_ok-m.ensures (made c.in_ok-r.ensures (test_gives _ false _ c.if-value.false c.other-else-value.ensures)))
