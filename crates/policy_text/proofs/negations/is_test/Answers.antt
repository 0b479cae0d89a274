-- `is_test` is the test `is_test`: each step is one byte of it.
use native.Mathlib.Omega.{arith}
use mathlib.Core.Path.{sym, ◌∙◌}
use Rattle.policy_text.proofs.Passes.{test_none, test_colon, test_equals, test_later}
use Rattle.policy_text.proofs.negations.is_test.Goals as goal

pub returns-in-58 : goal.returns-in-58
returns-in-58 c = sym (c.loop-b.invariant ∙ test_colon _ _ c.loop-b-test.true c.in-58.is)

pub returns-in-61 : goal.returns-in-61
returns-in-61 c = sym (c.loop-b.invariant ∙ test_equals _ _ c.loop-b-test.true (λ e. omega (arith, e, c.in-61.is)) c.in-61.is)

pub loop-b-preserved : goal.loop-b-preserved
loop-b-preserved c = c.loop-b.invariant ∙ test_later _ _ c.loop-b-test.true (λ e. omega (arith, e)) (λ e. omega (arith, e))

pub returns : goal.returns
returns c = sym (c.loop-b.invariant ∙ test_none _ _ c.loop-b-test.false)
