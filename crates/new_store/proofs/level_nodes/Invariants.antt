-- `level_nodes` by a loop: the nodes of the levels passed are written, and both handles are those of the level reached.
use mathlib.Core.Path.{◌≡◌}
use Prim.Native.Nat.{◌+◌}
use Rattle.model.specs.NewNodes.{levels, level_handle, level_node}
use Rattle.model.specs.Store.{rel}
use Rattle.new_store.specs.Creating.{NodesWritten}
use Rattle.new_store.proofs.level_nodes.Given as goal

abbrev pub invariant-loop-i : goal.invariant-loop-i
invariant-loop-i l = NodesWritten 4 l.p (l.p + l.i) (levels (level_node l.p l.c l.q l.d) l.i) l.initial.nodes l.nodes
    × (l.same ≡ level_handle rel l.p l.c l.i) × (l.other ≡ level_handle rel l.q l.d l.i)
