-- `read` is the reading of the text: from `check` and `keeps_rules`.
use mathlib.Core.Path.{◌≡◌, ◌∙◌}
use Rattle.std.proofs.Common.{rules, Err}
use Rattle.policy_text.proofs.Order.{refused_reading, whole_reading}
use Rattle.policy_text.proofs.read.Goals as goal

pub returns-in_err-check : goal.returns-in_err-check
returns-in_err-check c =
    let e : c.from_residual.result ≡ Err c.in_err-check.field-0.0 = search rules in
    e ∙ refused_reading _ _ _ _ c.in_err-check.ensures

pub returns : goal.returns
returns c = whole_reading _ _ _ _ _ c.in_ok-check.ensures c.keeps_rules.ensures
