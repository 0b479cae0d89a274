-- `offends` is the test `does_offend`: from its byte and the operand after it.
use native.Mathlib.Omega.{arith}
use Rattle.policy_text.proofs.Passes.{offends_here, offends_not}
use Rattle.policy_text.proofs.negations.offends.Goals as goal

pub returns-in-33 : goal.returns-in-33
returns-in-33 c = offends_here _ _ c.in-33.len_at_least (omega arith) c.clean.ensures

pub returns-in_default : goal.returns-in_default
returns-in_default c = offends_not _ (λ h e. omega (arith, h))

pub returns-in_default-2 : goal.returns-in_default-2
returns-in_default-2 c = offends_not _ (λ h e. omega (arith, e))
