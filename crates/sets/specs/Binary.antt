-- The operations on two sets that answer some operands at once and else go on with their children, two and two: of each what it gives on equal and opposite
-- operands, and its tests after that; and each by its number in the memo.
use Rattle.std.specs.Prelude.{◌≡◌, refl, Bool, true, false, ℕ, ◌<◌}
use Rattle.std.proofs.Math.Dec.{lit<}
use Rattle.model.specs.Store.{set, signed}
use Rattle.model.specs.Programs.{same, Prog, ret, ask}
use Rattle.model.specs.Recursion.{Op2, node2, each2}
use Rattle.model.specs.Operations.{constant, union_op, xor_op}
use Rattle.memory.specs.Memo.{memo_program, op_limit, op_set_union, op_set_xor}

abbrev pub Tests : Type 0
Tests = ℕ → ℕ → ℕ → (ℕ → ℕ → Prog) → Prog

-- what equal operands give: the empty set, or the operand
abbrev pub on_equal : Bool → ℕ → ℕ → Prog
on_equal true l a = constant set 0 l
on_equal false l a = ret a

-- opposite operands give the full set where equal ones give the operand; p on others
abbrev pub on_opposite : Bool → ℕ → ℕ → ℕ → Prog → Prog
on_opposite true l a b p = p
on_opposite false l a b p = ask (same a (signed 1 b)) (constant set 1 l) p

abbrev pub binary : Bool → Tests → Op2
binary cancels tests = record {
  first = set;
  second = set;
  short = λ l a b node. ask (same a b) (on_equal cancels l a) (on_opposite cancels l a b (tests l a b node));
  kids = λ l. each2 set;
}

-- an operation is kept in the memo by the number op
pub record KeptAs (op : ℕ) (node : ℕ → ℕ → ℕ → Prog) : Type 0 where
  pub below : op < op_limit
  pub program : (l a b : ℕ) → node l a b ≡ memo_program op l a b

pub union_kept : KeptAs op_set_union (node2 (union_op set))
unfolding memo_program
union_kept = record { below = lit< tt; program = λ l a b. refl }

pub xor_kept : KeptAs op_set_xor (node2 (xor_op set))
unfolding memo_program
xor_kept = record { below = lit< tt; program = λ l a b. refl }
