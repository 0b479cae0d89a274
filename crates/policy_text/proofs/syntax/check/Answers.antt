-- `check` answers what the run over the whole text does: from a sum at its start.
use mathlib.Core.Path.{◌≡◌, ◌∙◌}
use Rattle.std.proofs.Common.{rules, Err}
use Rattle.policy_text.proofs.Moves.{whole_refused, whole_ends, whole_stops}
use Rattle.policy_text.proofs.syntax.check.Goals as goal

pub returns-in_err-end : goal.returns-in_err-end
returns-in_err-end c =
    let e : c.from_residual.result ≡ Err c.in_err-end.field-0.0 = search rules in
    e ∙ whole_refused _ _ _ c.in_err-end.ensures

pub returns-then-end-text : goal.returns-then-end-text
returns-then-end-text c = whole_ends _ _ _ c.in_ok-end.ensures c.if-end-text.true

pub returns : goal.returns
returns c = whole_stops _ _ _ _ c.in_ok-end.ensures c.if-end-text.false c.not_policy.ensures
