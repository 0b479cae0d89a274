-- `set_nodes` by a loop: the nodes of the levels passed are written.
use Rattle.model.specs.NewNodes.{new_sets}
use Rattle.new_store.specs.Creating.{NodesWritten}
use Rattle.new_store.proofs.set_nodes.Given as goal

abbrev pub invariant-loop-i : goal.invariant-loop-i
invariant-loop-i l = NodesWritten 2 0 l.i (new_sets l.i) l.initial.nodes l.nodes
