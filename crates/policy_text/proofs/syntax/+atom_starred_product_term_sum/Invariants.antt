-- The functions of the grammar's parts move the run over what they read. What is left of the text falls, and at one offset the rank;
-- each loop keeps what a rank promises of its parts so far.
use Rattle.std.proofs.Common.{◌+◌, ◌-◌, ◌*◌, length, Ok}
use Rattle.policy_text.specs.XForms.{x_forms}
use Rattle.policy_text.specs.Posts.{JoinPost, continues_starred, continues_product, continues_term}
use Rattle.policy_text.proofs.syntax.+atom_starred_product_term_sum.Given as goal

abbrev pub decreases-atom : goal.decreases-atom
decreases-atom l = 8 * (length l.text.now - l.at)

abbrev pub decreases-starred : goal.decreases-starred
decreases-starred l = 8 * (length l.text.now - l.at) + 1

abbrev pub decreases-product : goal.decreases-product
decreases-product l = 8 * (length l.text.now - l.at) + 2

abbrev pub decreases-term : goal.decreases-term
decreases-term l = 8 * (length l.text.now - l.at) + 3

abbrev pub decreases-sum : goal.decreases-sum
decreases-sum l = 8 * (length l.text.now - l.at) + 4

abbrev pub invariant-product-loop-end : goal.invariant-product-loop-end
invariant-product-loop-end l = JoinPost x_forms continues_starred l.text l.depth l.at (Ok l.end)

abbrev pub decreases-product-loop-end : goal.decreases-product-loop-end
decreases-product-loop-end l = length l.text - l.end

abbrev pub invariant-term-loop-end : goal.invariant-term-loop-end
invariant-term-loop-end l = JoinPost x_forms continues_product l.text l.depth l.at (Ok l.end)

abbrev pub decreases-term-loop-end : goal.decreases-term-loop-end
decreases-term-loop-end l = length l.text - l.end

abbrev pub invariant-sum-loop-end : goal.invariant-sum-loop-end
invariant-sum-loop-end l = JoinPost x_forms continues_term l.text l.depth l.at (Ok l.end)

abbrev pub decreases-sum-loop-end : goal.decreases-sum-loop-end
decreases-sum-loop-end l = length l.text - l.end
