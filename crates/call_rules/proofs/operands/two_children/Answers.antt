-- `two_children` answers the children's level where it is below k.
use lib.Dec.{ltb}
use borrow.Author.Tests.{lt-ltb, le-ltb}
use Rattle.call_rules.proofs.Handles.{stays, fails, passes}
use Rattle.call_rules.proofs.operands.two_children.Goals as goal

pub returns-in_err-l : goal.returns-in_err-l
returns-in_err-l c K e = stays (c.two.ensures K e) _ (λ l. ltb l c.args.k) _ _ c.in_err-l.was c.from_residual.ensures.1

pub returns-then-l-k : goal.returns-then-l-k
returns-then-l-k c K e = fails (c.two.ensures K e) _ (λ l. ltb l c.args.k) _ c.in_ok-l.was (le-ltb _ _ c.if-l-k.true)

pub returns : goal.returns
returns c K e = passes (c.two.ensures K e) _ (λ l. ltb l c.args.k) _ c.in_ok-l.was (lt-ltb _ _ c.if-l-k.false)
