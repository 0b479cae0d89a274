-- `ordered` asks the memo for the operands in order.
use borrow.Author.Tests.{lt-ltb, le-ltb}
use Rattle.memory.proofs.Steps.{begin, yes, no, less_says}
use Rattle.memory.proofs.Remembering.{answer_recalled}
use Rattle.relations.proofs.shortcuts.ordered.Goals as goal

pub returns-then-b-a : goal.returns-then-b-a
returns-then-b-a c = λ node m e. answer_recalled _ _ _ _ (e _ _) (yes begin (less_says (lt-ltb _ _ c.if-b-a.true))) c.look_up.ensures

pub returns : goal.returns
returns c = λ node m e. answer_recalled _ _ _ _ (e _ _) (no begin (less_says (le-ltb _ _ c.if-b-a.false))) c.look_up-2.ensures
