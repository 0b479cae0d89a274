-- `number` is N as its one or two bytes give it.
use native.Mathlib.Omega.{arith}
use mathlib.Core.Path.{sym, ◌∙◌}
use Rattle.policy_text.proofs.Passes.{number_none, number_two, number_short}
use Rattle.policy_text.proofs.fields.number.Goals as goal

pub returns-in-empty : goal.returns-in-empty
returns-in-empty c = number_none _ c.in-empty.len_below

pub returns-in-len2-up : goal.returns-in-len2-up
returns-in-len2-up c = number_two _ _ _ c.in-len2-up.len_at_least (sym c.if-is_ascii_digit.true ∙ c.is_ascii_digit.ensures.value)
    c.value-in-len2-up.ensures.value c.value-in-len2-up-2.ensures.value

pub returns-in-len1 : goal.returns-in-len1
returns-in-len1 c = number_short _ _ (λ h. absurd (omega (arith, h))) c.value.ensures.value

pub returns-in-len2-up-2 : goal.returns-in-len2-up-2
returns-in-len2-up-2 c = number_short _ _ (λ h. sym c.if-is_ascii_digit.false ∙ c.is_ascii_digit.ensures.value) c.value-in-len2-up-2-2.ensures.value
