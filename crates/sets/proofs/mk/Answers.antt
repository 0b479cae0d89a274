-- `mk` stores the node without the sign of its first child.
use native.Mathlib.Omega.{arith}
use Rattle.sets.proofs.Nodes.{stored_even}
use Rattle.sets.proofs.mk.Goals as goal

pub returns : goal.returns
returns c = c.hold-2.ensures _ (stored_even _ _ (omega arith)) (omega arith)
