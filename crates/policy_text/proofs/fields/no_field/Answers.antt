-- `no_field` is the test `is_no_field`: from its byte and the number after it.
use native.Mathlib.Omega.{arith}
use Rattle.policy_text.proofs.Passes.{no_field_here, no_field_not}
use Rattle.policy_text.proofs.fields.no_field.Goals as goal

pub returns-in-120 : goal.returns-in-120
returns-in-120 c = no_field_here _ _ _ c.in-120.len_at_least (omega arith) c.number.ensures

pub returns-in_default : goal.returns-in_default
returns-in_default c = no_field_not _ _ (λ h e. omega (arith, h))

pub returns-in_default-2 : goal.returns-in_default-2
returns-in_default-2 c = no_field_not _ _ (λ h e. omega (arith, e))
