-- `opened` counts parentheses as `open_after` does: by the byte.
use native.Mathlib.Omega.{arith}
use mathlib.Core.Path.{◌∙◌}
use Rattle.policy_text.proofs.Passes.{open_more, open_fewer, open_same}
use Rattle.policy_text.proofs.negations.opened.Goals as goal

pub returns-in-40 : goal.returns-in-40
returns-in-40 c = open_more _ _ c.in-40.is

pub returns-in-41 : goal.returns-in-41
returns-in-41 c = c.saturating_sub.ensures ∙ open_fewer _ _ c.in-41.is

pub returns-in_default : goal.returns-in_default
returns-in_default c = open_same _ _ (λ e. omega (arith, e)) (λ e. omega (arith, e))
