-- `either_output`, `first_input` and `rank_children` run their programs; the measure is the level, then which of the three.
use Prim.Native.Nat.{◌+◌, ◌*◌}
use Rattle.first_paths.proofs.inputs.+either_output_first_input_rank_children.Given as goal

abbrev pub decreases-either_output : goal.decreases-either_output
decreases-either_output l = 3 * l.level + 2

abbrev pub decreases-first_input : goal.decreases-first_input
decreases-first_input l = 3 * l.level + 1

abbrev pub decreases-rank_children : goal.decreases-rank_children
decreases-rank_children l = 3 * l.level
