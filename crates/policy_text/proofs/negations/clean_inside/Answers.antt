-- `clean_inside` is the test `is_clean_inside`: each step is one byte of it.
use native.Mathlib.Omega.{arith}
use mathlib.Core.Path.{sym, ◌∙◌}
use mathlib.Core.Logic.{inl, inr}
use Rattle.policy_text.proofs.Passes.{open_most, inside_none, inside_not, inside_later, inside_closed}
use Rattle.policy_text.proofs.negations.clean_inside.Goals.{then-b-eq58-via-then-b-eq58, then-b-eq58-via-else-b-eq58+then-star}
use Rattle.policy_text.proofs.negations.clean_inside.Goals.{then-b-eq58-via-else-b-eq58+else-star+then-full}
use Rattle.policy_text.proofs.negations.clean_inside.Goals as goal

pub returns-then-count-eq0 : goal.returns-then-count-eq0
returns-then-count-eq0 c = sym (c.loop-b.invariant.1 ∙ inside_closed _ _ (omega arith))

pub returns-then-b-eq58 : goal.returns-then-b-eq58
returns-then-b-eq58 c = sym (c.loop-b.invariant.1 ∙ inside_not _ _ c.loop-b-test.true _ c.if-count-eq0.false (elim c.then-b-eq58.branch [
  | then-b-eq58-via-then-b-eq58 w ↦ inl w.if-b-eq58.true
  | then-b-eq58-via-else-b-eq58+then-star w ↦ inr (inl w.if-star.true)
  | then-b-eq58-via-else-b-eq58+else-star+then-full w ↦ inr (inr w.if-full.true)
]))

pub loop-b-preserved : goal.loop-b-preserved
loop-b-preserved c = (
  (let h = open_most _ _ _ c.opened-count.ensures in omega (arith, h, c.loop-b.invariant.0)),
  c.loop-b.invariant.1 ∙ inside_later _ _ c.loop-b-test.true _ _ c.if-count-eq0.false c.if-b-eq58.false c.if-star.false c.if-full.false
      c.opened-count.ensures,
)

pub returns : goal.returns
returns c = sym (c.loop-b.invariant.1 ∙ inside_none _ _ _ c.loop-b-test.false)
