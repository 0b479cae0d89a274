-- `kept` asks the memo, else makes the nodes and keeps the answer.
use Rattle.memory.proofs.Remembering.{recalled}
use Rattle.memory.proofs.Steps.{begin, given}
use Rattle.memory.proofs.Stopping.{kept}
use Rattle.relations.proofs.fields.kept.Goals as goal

pub returns-in-Some : goal.returns-in-Some
returns-in-Some c = given (recalled _ _ _ _ (c.memo_key-op.ensures.1 _ _) begin (rw c.from-v.ensures at c.recall.ensures) c.in-Some.is)

pub returns : goal.returns
returns c = kept _ _ _ _ (c.memo_key-op.ensures.1 _ _) begin c.in_ok-h.ensures (rw c.from-v.ensures at c.keep.ensures)
