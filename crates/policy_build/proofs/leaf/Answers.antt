-- `leaf` builds `0`, `1`, `T`, or what begins with none of `!`, `(`, `0`, `1` and `T`.
use mathlib.Core.Path.{sym, ◌∙◌}
use native.Mathlib.Omega.{arith}
use Rattle.std.specs.Prelude.{Some, None}
use Rattle.policy_build.proofs.Placed.{none_given}
use Rattle.policy_build.proofs.Atoms.{zero_builds, one_builds, full_builds, name_builds}
use Rattle.policy_build.proofs.leaf.Goals as goal

pub returns-in_err-handle-in-48 : goal.returns-in_err-handle-in-48
returns-in_err-handle-in-48 c =
    none_given c.from_residual.ensures
    (zero_builds _ None c.past-end.ensures (sym c.byte.ensures.0 ∙ c.in-48.is) c.in_err-handle-in-48.ensures)

pub returns-in_err-handle-in-49 : goal.returns-in_err-handle-in-49
returns-in_err-handle-in-49 c =
    none_given c.from_residual-in_err-handle-in-49.ensures
    (one_builds _ None c.past-end.ensures (sym c.byte.ensures.0 ∙ c.in-49.is) c.in_err-handle-in-49.ensures)

pub returns-in_err-handle-in-84 : goal.returns-in_err-handle-in-84
returns-in_err-handle-in-84 c =
    none_given c.from_residual-in_err-handle-in-84.ensures
    (full_builds _ None c.past-end.ensures (sym c.byte.ensures.0 ∙ c.in-84.is) c.in_err-handle-in-84.ensures)

pub returns-in_default : goal.returns-in_default
returns-in_default c =
    let e = c.byte.ensures.0 in
    name_builds (sym e) (λ x. c.requires.1 (sym e ∙ x)) (λ x. c.requires.2 (sym e ∙ x)) (λ e. omega arith) (λ e. omega arith) (λ e. omega arith)
    c.past-end.ensures c.named.ensures

pub returns-in_ok-handle-in-48 : goal.returns-in_ok-handle-in-48
returns-in_ok-handle-in-48 c =
    zero_builds _ (Some _) c.past-end.ensures (sym c.byte.ensures.0 ∙ c.in-48.is) c.in_ok-handle-in-48.ensures

pub returns-in_ok-handle-in-49 : goal.returns-in_ok-handle-in-49
returns-in_ok-handle-in-49 c =
    one_builds _ (Some _) c.past-end.ensures (sym c.byte.ensures.0 ∙ c.in-49.is) c.in_ok-handle-in-49.ensures

pub returns-in_ok-handle-in-84 : goal.returns-in_ok-handle-in-84
returns-in_ok-handle-in-84 c =
    full_builds _ (Some _) c.past-end.ensures (sym c.byte.ensures.0 ∙ c.in-84.is) c.in_ok-handle-in-84.ensures
