-- `parent` answers the operand's level where it is above 0.
use native.Mathlib.Omega.{arith}
use lib.Dec.{ltb}
use borrow.Author.Tests.{lt-ltb, le-ltb}
use Rattle.call_rules.proofs.Handles.{stays, fails, passes}
use Rattle.call_rules.proofs.operands.parent.Goals as goal

pub returns-in_err-l : goal.returns-in_err-l
returns-in_err-l c K e = stays (c.one.ensures K e) _ (ltb 0) _ _ c.in_err-l.was c.from_residual.ensures.1

pub returns-then-l-eq0 : goal.returns-then-l-eq0
returns-then-l-eq0 c K e = fails (c.one.ensures K e) _ (ltb 0) _ c.in_ok-l.was (le-ltb 0 _ (omega (arith, c.if-l-eq0.true)))

pub returns : goal.returns
returns c K e = passes (c.one.ensures K e) _ (ltb 0) _ c.in_ok-l.was (lt-ltb 0 _ (omega (arith, c.if-l-eq0.false)))
