-- `reindex` turns the index: the loop keeps that it is of the nodes passed, and that all else stays as the emptying left it.
use Rattle.memory.specs.Rows.{row}
use Rattle.store_check.proofs.Reindexing.{Entering}
use Rattle.store_check.proofs.reindex.reindex.Given as goal

abbrev pub invariant-loop-i : goal.invariant-loop-i
invariant-loop-i l = Entering (row l.c l.nodes) l.initial.work l.work l.i
