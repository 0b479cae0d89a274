-- `named` builds a test or an assignment, by what was read of its field, its sign and its value.
use mathlib.Core.Path.{sym, ◌∙◌}
use Rattle.std.specs.Prelude.{Some, None}
use Rattle.policy_build.proofs.Placed.{none_given}
use Rattle.policy_build.proofs.Names.{test_builds, assign_builds}
use Rattle.policy_build.proofs.named.Goals as goal

pub returns-in_err-handle : goal.returns-in_err-handle
returns-in_err-handle c =
    none_given c.from_residual.ensures (test_builds c.field-field.ensures None c.past-next.ensures
    (sym c.byte-sign.ensures.0 ∙ c.if-sign-eq61.true) c.bit-value.ensures c.past-end.ensures c.in_err-handle.ensures)

pub returns-then-sign-eq61 : goal.returns-then-sign-eq61
returns-then-sign-eq61 c =
    test_builds c.field-field.ensures (Some _) c.past-next.ensures (sym c.byte-sign.ensures.0 ∙ c.if-sign-eq61.true) c.bit-value.ensures
    c.past-end.ensures c.in_ok-handle.ensures

pub returns-in_err-handle-2 : goal.returns-in_err-handle-2
returns-in_err-handle-2 c =
    none_given c.from_residual-in_err-handle-2.ensures (assign_builds c.field-field.ensures None c.past-next.ensures
    (λ e. c.if-sign-eq61.false (c.byte-sign.ensures.0 ∙ e)) c.past-last.ensures c.bit-value-2.ensures c.past-end-2.ensures c.in_err-handle-2.ensures)

pub returns : goal.returns
returns c =
    assign_builds c.field-field.ensures (Some _) c.past-next.ensures (λ e. c.if-sign-eq61.false (c.byte-sign.ensures.0 ∙ e))
    c.past-last.ensures c.bit-value-2.ensures c.past-end-2.ensures c.in_ok-handle-2.ensures
