-- What is asked of an end of a relation's pairs: of its outputs where the test is true, else of its inputs.
use Rattle.std.specs.Prelude.{Bool, true, false, ℕ}
use Rattle.model.specs.Programs.{Prog}
use Rattle.model.specs.Recursion.{Op1, node2}
use Rattle.model.specs.Images.{fwd_op, fwd, bwd_op, bwd, push_op, push, pull_op, pull}
use Rattle.memory.specs.Memo.{op_fwd, op_bwd, op_push, op_pull}

-- two numbers in the order of an end
abbrev pub in_order : Bool → ℕ → ℕ → ℕ × ℕ
in_order true a b = (b, a)
in_order false a b = (a, b)

-- what the relation a has there; its operation, and the memo's number of that
abbrev pub range : Bool → ℕ → ℕ → Prog
range true l a = fwd l a
range false l a = bwd l a

abbrev pub range_op : Bool → Op1
range_op true = fwd_op
range_op false = bwd_op

abbrev pub range_number : Bool → ℕ
range_number true = op_fwd
range_number false = op_bwd

-- what it has there for the packets of p at the other end; what is left of that where no shortcut answers, and the memo's number of it
abbrev pub image : Bool → ℕ → ℕ → ℕ → Prog
image true l p a = push l p a
image false l p a = pull l a p

abbrev pub image_node : Bool → ℕ → ℕ → ℕ → Prog
image_node true l p a = node2 push_op l p a
image_node false l p a = node2 pull_op l a p

abbrev pub image_number : Bool → ℕ
image_number true = op_push
image_number false = op_pull
