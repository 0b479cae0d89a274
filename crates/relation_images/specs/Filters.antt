-- A set as a relation: each of its packets leads to itself where the test is true, else every packet leads to it.
use Rattle.std.specs.Prelude.{Bool, true, false, ℕ, [], ◌∷◌}
use Rattle.model.specs.Store.{rel}
use Rattle.model.specs.Programs.{Prog, mk, ◌>>=◌}
use Rattle.model.specs.Recursion.{Op1}
use Rattle.model.specs.Operations.{zero_at_depth}
use Rattle.model.specs.Images.{ifwd_op, ifwd, diagonal_op, diagonal}
use Rattle.memory.specs.Memo.{op_ifwd, op_diagonal}

-- its operation, and the memo's number of that
abbrev pub filter : Bool → ℕ → ℕ → Prog
filter true l p = diagonal l p
filter false l p = ifwd l p

abbrev pub filter_op : Bool → Op1
filter_op true = diagonal_op
filter_op false = ifwd_op

abbrev pub filter_number : Bool → ℕ
filter_number true = op_diagonal
filter_number false = op_ifwd

-- the node of the results for two children of level l
abbrev pub filter_node : Bool → ℕ → ℕ → ℕ → Prog
filter_node true l r0 r1 = zero_at_depth rel l >>= λ z. mk rel (r0 ∷ z ∷ z ∷ r1 ∷ [])
filter_node false l r0 r1 = mk rel (r0 ∷ r1 ∷ r0 ∷ r1 ∷ [])
