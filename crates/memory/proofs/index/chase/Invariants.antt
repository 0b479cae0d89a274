-- `index::chase` meets its contract. The loop's invariant: where the index is right, v is on the chain of x's bucket and no node from v on is x.
-- The measure is v: a link that does not lead down ends the search.
use lib.ListN.{length}
use Rattle.memory.specs.Rows.{row}
use Rattle.memory.proofs.Chains.{Trail}
use Rattle.memory.proofs.index.chase.Given as goal

abbrev pub invariant-loop-v : goal.invariant-loop-v
invariant-loop-v g l = let x = g.X.Numbers.list l.x in Trail (row (length x) l.nodes) l.work l.at l.n x l.v

abbrev pub decreases-loop-v : goal.decreases-loop-v
decreases-loop-v g l = l.v
