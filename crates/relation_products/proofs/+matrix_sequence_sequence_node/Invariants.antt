-- `sequence` runs its program, `sequence_node` that of its nodes, `matrix` that of nodes of no known shape; the measure is the level, then which of them.
use Prim.Native.Nat.{◌+◌, ◌*◌}
use Rattle.relation_products.proofs.+matrix_sequence_sequence_node.Given as goal

abbrev pub decreases-matrix : goal.decreases-matrix
decreases-matrix l = 3 * l.level + 3

abbrev pub decreases-sequence : goal.decreases-sequence
decreases-sequence l = 3 * l.level + 2

abbrev pub decreases-sequence_node : goal.decreases-sequence_node
decreases-sequence_node l = 3 * l.level + 1
