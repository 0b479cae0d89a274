-- 01, "The operations": "Each operation recurses on the level, which falls by one." The two shapes that this takes, once:
-- an operation is its shortcuts, and what it does with the children of its operands.
use Rattle.std.specs.Prelude.{List, [], ◌∷◌, ℕ, zero, suc, get_or}
use Rattle.model.specs.Store.{Kind, arity}
use Rattle.model.specs.Programs.{same, Prog, panic, ret, ask, look, mk, bind, ◌>>=◌}

-- of one operand: `short` has the level, the operand and what remains where no shortcut answers;
-- `kids` has the children's level, the operation on it, and the children
pub record Op1 : Type 0 where
  pub kind : Kind
  pub short : ℕ → ℕ → Prog → Prog
  pub kids : ℕ → (ℕ → Prog) → List ℕ → Prog

-- the operation where no shortcut answered; the Rust's `get` would panic at level 0
unfoldable pub node1 : Op1 → ℕ → ℕ → Prog
node1 O zero a = panic
node1 O (suc l) a = look O.kind a λ x. O.kids l (λ a. O.short l a (node1 O l a)) x

unfoldable pub op1 : Op1 → ℕ → ℕ → Prog
op1 O l a = O.short l a (node1 O l a)

-- of two operands; the shortcuts say on which operands it recurses, since the Rust puts them in order
pub record Op2 : Type 0 where
  pub first : Kind
  pub second : Kind
  pub short : ℕ → ℕ → ℕ → (ℕ → ℕ → Prog) → Prog
  pub kids : ℕ → (ℕ → ℕ → Prog) → List ℕ → List ℕ → Prog

unfoldable pub node2 : Op2 → ℕ → ℕ → ℕ → Prog
node2 O zero a b = panic
node2 O (suc l) a b = look O.first a λ x. look O.second b λ y. O.kids l (λ a b. O.short l a b (node2 O l)) x y

unfoldable pub op2 : Op2 → ℕ → ℕ → ℕ → Prog
op2 O l a b = O.short l a b (node2 O l)

-- CHILDREN by the Rust's names
abbrev pub x0 : List ℕ → ℕ
x0 x = get_or x 0 0

abbrev pub x1 : List ℕ → ℕ
x1 x = get_or x 1 0

abbrev pub x00 : List ℕ → ℕ
x00 x = get_or x 0 0

abbrev pub x01 : List ℕ → ℕ
x01 x = get_or x 1 0

abbrev pub x10 : List ℕ → ℕ
x10 x = get_or x 2 0

abbrev pub x11 : List ℕ → ℕ
x11 x = get_or x 3 0

-- f 0, .., f (n - 1) in order, then c of their values
abbrev pub for : ℕ → (ℕ → Prog) → (List ℕ → Prog) → Prog
for zero f c = c []
for (suc n) f c = bind (f 0) (λ r. for n (λ d. f (suc d)) (λ rs. c (r ∷ rs)))

-- the operation on each child, or each two children, in order; then the node of the results
abbrev pub each1 : Kind → (ℕ → Prog) → List ℕ → Prog
each1 K f x = for (arity K) (λ d. f (get_or x d 0)) (mk K)

abbrev pub each2 : Kind → (ℕ → ℕ → Prog) → List ℕ → List ℕ → Prog
each2 K f x y = for (arity K) (λ d. f (get_or x d 0) (get_or y d 0)) (mk K)

-- four programs in order, then c of their values
abbrev pub four : Prog → Prog → Prog → Prog → (ℕ → ℕ → ℕ → ℕ → Prog) → Prog
four p q r s c = p >>= λ a. q >>= λ b. r >>= λ d. s >>= λ e. c a b d e

-- p || q, for programs that give 1 or 0
abbrev pub or_else : Prog → Prog → Prog
or_else p q = p >>= λ r. ask (same r 1) (ret 1) q
