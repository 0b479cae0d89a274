-- The operations on two relations that answer some operands at once and else go on with their children, two and two: of each what it gives on equal operands,
-- and its tests after that; and each by its number in the memo.
use Rattle.std.specs.Prelude.{◌≡◌, refl, [], ◌∷◌, Bool, true, false, ℕ, ◌<◌}
use Rattle.std.proofs.Math.Dec.{lit<}
use Rattle.model.specs.Store.{rel, Store}
use Rattle.model.specs.Programs.{is_empty, same, has, Prog, ret, ask, mk, ◌>>=◌}
use Rattle.model.specs.Safety.{Safe, ReducesTo}
use Rattle.model.specs.Recursion.{Op2, node2, op2, each2}
use Rattle.model.specs.Operations.{constant, union_op, union, intersect_op, xor_op, difference_op}
use Rattle.memory.specs.Memo.{memo_program, op_limit, op_union, op_intersect, op_xor, op_difference}
use Rattle.model.proofs.Diagonal.{union_lifts as lifts}
use Rattle.memory.proofs.Steps.{false≢true}
use Rattle.relations.specs.Shortcuts.{lattice_tests}

abbrev pub Tests : Type 0
Tests = ℕ → ℕ → ℕ → (ℕ → ℕ → Prog) → Prog

-- what equal operands give: the empty relation, or the operand
abbrev pub on_equal : Bool → ℕ → ℕ → Prog
on_equal true l a = constant rel 0 l
on_equal false l a = ret a

abbrev pub binary : Bool → Tests → Op2
binary cancels tests =
    record { first = rel; second = rel; short = λ l a b node. ask (same a b) (on_equal cancels l a) (tests l a b node); kids = λ l. each2 rel }

abbrev pub intersect_tests : Tests
intersect_tests l a b node = ask (has is_empty rel l a) (ret a) (lattice_tests l a b a b node)

-- an operation is kept in the memo by the number op
pub record KeptAs (op : ℕ) (node : ℕ → ℕ → ℕ → Prog) : Type 0 where
  pub below : op < op_limit
  pub program : (l a b : ℕ) → node l a b ≡ memo_program op l a b

-- one run of f is left of the nodes (a, z, z, a) and (b, z, z, b)
abbrev pub Lifts : (ℕ → ℕ → ℕ → Prog) → Type 0
Lifts f = (l a b z : ℕ) (S : Store) → Safe (each2 rel (f l) (a ∷ z ∷ z ∷ a ∷ []) (b ∷ z ∷ z ∷ b ∷ [])) S
    → ReducesTo (each2 rel (f l) (a ∷ z ∷ z ∷ a ∷ []) (b ∷ z ∷ z ∷ b ∷ [])) (f l a b >>= λ t. mk rel (t ∷ z ∷ z ∷ t ∷ [])) S

pub union_lifts : Lifts (op2 (union_op rel))
unfolding union
union_lifts l a b z S s = lifts l a b z s

pub never_lifts : (f : ℕ → ℕ → ℕ → Prog) → false ≡ true → Lifts f
never_lifts f e = absurd (false≢true e)

pub union_kept : KeptAs op_union (node2 (union_op rel))
unfolding memo_program
union_kept = record { below = lit< tt; program = λ l a b. refl }

pub intersect_kept : KeptAs op_intersect (node2 intersect_op)
unfolding memo_program
intersect_kept = record { below = lit< tt; program = λ l a b. refl }

pub xor_kept : KeptAs op_xor (node2 (xor_op rel))
unfolding memo_program
xor_kept = record { below = lit< tt; program = λ l a b. refl }

pub difference_kept : KeptAs op_difference (node2 difference_op)
unfolding memo_program
difference_kept = record { below = lit< tt; program = λ l a b. refl }
