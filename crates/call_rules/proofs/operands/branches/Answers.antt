-- `branches` answers the operands' level where the field is below k and below it.
use lib.Dec.{ltb}
use borrow.Author.Tests.{lt-ltb, le-ltb}
use Rattle.call_rules.proofs.Handles.{guard_no, guarded, stays, fails, passes}
use Rattle.call_rules.proofs.operands.branches.Goals as goal

pub returns-then-var-k : goal.returns-then-var-k
returns-then-var-k c K e = record { says = λ B f F. guard_no _ _ _ (le-ltb _ _ c.if-var-k.true); low = tt }

pub returns-in_err-l : goal.returns-in_err-l
returns-in_err-l c K e =
    guarded (stays (c.two.ensures K e) _ (ltb c.args.var) _ _ c.in_err-l.was c.from_residual.ensures.1) _ _ (lt-ltb _ _ c.if-var-k.false)

pub returns-then-var-l : goal.returns-then-var-l
returns-then-var-l c K e =
    guarded (fails (c.two.ensures K e) _ (ltb c.args.var) _ c.in_ok-l.was (le-ltb _ _ c.if-var-l.true)) _ _ (lt-ltb _ _ c.if-var-k.false)

pub returns : goal.returns
returns c K e =
    guarded (passes (c.two.ensures K e) _ (ltb c.args.var) _ c.in_ok-l.was (lt-ltb _ _ c.if-var-l.false)) _ _ (lt-ltb _ _ c.if-var-k.false)
