-- `reindex` turns the index: the loop keeps that it is of the nodes passed, and that all else stays as the emptying left it.
use native.Mathlib.Omega.{arith}
use Rattle.store_check.proofs.Reindexing.{entered_all}
use Rattle.store_check.proofs.reindex.reindex.Goals as goal

pub returns : goal.returns
returns c = entered_all c.empty.ensures c.loop-i.invariant (omega arith)
