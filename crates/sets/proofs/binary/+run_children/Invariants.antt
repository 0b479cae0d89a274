-- `run` runs an operation's program and `children` that of its nodes; the measure is the level, then which of the two.
use Prim.Native.Nat.{◌+◌, ◌*◌}
use Rattle.sets.proofs.binary.+run_children.Given as goal

abbrev pub decreases-run : goal.decreases-run
decreases-run g l = 2 * l.level + 1

abbrev pub decreases-children : goal.decreases-children
decreases-children g l = 2 * l.level
