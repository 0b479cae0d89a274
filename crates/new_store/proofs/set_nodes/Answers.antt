-- `set_nodes` by a loop: the nodes of the levels passed are written.
use mathlib.Core.Path.{refl}
use native.Mathlib.Omega.{arith}
use Rattle.new_store.proofs.Writing.{wrote_set}
use Rattle.new_store.proofs.set_nodes.Goals as goal

pub loop-i-preserved : goal.loop-i-preserved
loop-i-preserved c = wrote_set c.args.nodes.now _ _ c.loop-i.i _ refl c.copy_from_slice.ensures.after (omega arith) c.loop-i.invariant
