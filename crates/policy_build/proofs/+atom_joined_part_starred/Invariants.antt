-- The four functions of the build pass build their parts; the measure is the remaining text, and then the rank. The loops keep `Looping`.
use Rattle.memory.specs.Performing.{going}
use Rattle.std.proofs.Common.{◌+◌, ◌-◌, ◌*◌, length}
use Rattle.policy_text.specs.XForms.{x_forms}
use Rattle.policy_text.specs.Grammar.{Starred}
use Rattle.policy_text.proofs.Moves.{rank_number}
use Rattle.policy_build.specs.Building.{after_starred, part_of, ranked, after_rank}
use Rattle.policy_build.proofs.Chains.{Starring, star_joins, rank_joins, join_by}
use Rattle.policy_build.proofs.Loops.{joined, Looping}
use Rattle.policy_build.proofs.+atom_joined_part_starred.Given as goal

abbrev pub decreases-atom : goal.decreases-atom
decreases-atom l = 8 * (length l.text.now - l.at)

abbrev pub decreases-starred : goal.decreases-starred
decreases-starred l = 8 * (length l.text.now - l.at) + 1

abbrev pub decreases-part : goal.decreases-part
decreases-part l = 8 * (length l.text.now - l.at) + 2 * rank_number l.rank

abbrev pub decreases-joined : goal.decreases-joined
decreases-joined l = 8 * (length l.text.now - l.at) + 2 * rank_number l.rank + 1

abbrev pub invariant-starred-loop-nodes : goal.invariant-starred-loop-nodes
invariant-starred-loop-nodes l =
    Looping (Starred x_forms) after_starred star_joins (λ d. Starring) l.k l.text l.at (going l.fn.n) l.fn.nodes l.nodes l.fn.work l.work l.n l.p

abbrev pub decreases-starred-loop-nodes : goal.decreases-starred-loop-nodes
decreases-starred-loop-nodes l = length l.text - l.p.end

abbrev pub invariant-joined-loop-rank : goal.invariant-joined-loop-rank
invariant-joined-loop-rank l =
    Looping (ranked x_forms l.rank) (after_rank l.rank) (rank_joins l.rank) (joined (join_by l.rank) (part_of x_forms l.rank)) l.k l.text l.at
    (going l.fn.n) l.fn.nodes l.nodes l.fn.work l.work l.n l.p

abbrev pub decreases-joined-loop-rank : goal.decreases-joined-loop-rank
decreases-joined-loop-rank l = length l.text - l.p.end
