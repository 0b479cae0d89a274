-- `memo_key` gives the number and the operand by which the memo's table has the program.
use native.Mathlib.Omega.{arith}
use Rattle.relations.proofs.Naming.{test_memo, assign_memo}
use Rattle.relations.proofs.fields.memo_key.Goals as goal

pub returns-in-Test : goal.returns-in-Test
returns-in-Test c = (omega arith, λ k v. rw (c.in-Test.is, c.from.ensures) (test_memo c.in-Test.value k v))

pub returns-in-Assign : goal.returns-in-Assign
returns-in-Assign c = (omega arith, λ k v. rw (c.in-Assign.is, c.from-in-Assign.ensures) (assign_memo c.in-Assign.value k v))
