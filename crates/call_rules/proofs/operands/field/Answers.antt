-- `field` passes where the field is below k and the value is 0 or 1.
use mathlib.Core.Path.{◌∙◌}
use native.Mathlib.Omega.{arith}
use borrow.Author.Tests.{lt-ltb, le-ltb}
use Rattle.call_rules.proofs.Handles.{guard_yes, guard_no}
use Rattle.call_rules.proofs.operands.field.Goals.{then-var-k-via-then-var-k, then-var-k-via-else-var-k+then-value-ge2}
use Rattle.call_rules.proofs.operands.field.Goals as goal

pub returns-then-var-k : goal.returns-then-var-k
returns-then-var-k c = elim c.then-var-k.branch [
  | then-var-k-via-then-var-k w ↦ (guard_no _ _ _ (le-ltb _ _ w.if-var-k.true), tt)
  | then-var-k-via-else-var-k+then-value-ge2 w ↦
      (guard_yes _ _ _ (lt-ltb _ _ w.if-var-k.false) ∙ guard_no _ _ _ (le-ltb _ _ w.if-value-ge2.true), tt)
]

pub returns : goal.returns
returns c = (guard_yes _ _ _ (lt-ltb _ _ c.if-var-k.false) ∙ guard_yes _ _ _ (lt-ltb _ _ c.if-value-ge2.false), omega arith)
