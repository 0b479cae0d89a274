-- The programs of relations opened one step, and their numbers in the memo.
use mathlib.Core.Path.{◌≡◌, refl, ap}
use mathlib.Core.List.{List, [], ◌∷◌}
use mathlib.Core.Bool.{Bool}
use Prim.Native.Nat.{ℕ, zero, suc, ◌-◌, ◌≤◌}
use native.Mathlib.Omega.{arith}
use borrow.Author.Tests.{eq-eqb, ne_eqb, le-ltb}
use Rattle.model.specs.Operations.{constant, identity_at_depth, is_zero, complement_op, complement}
use Rattle.model.specs.Programs.{is_empty, same, less, has, Prog, ret, ask, mk, ◌>>=◌}
use Rattle.model.specs.Recursion.{node1, op1, node2, op2}
use Rattle.model.specs.Relations.{flip_op, flip}
use Rattle.model.specs.Store.{rel}
use Rattle.memory.specs.Performing.{Reduces}
use Rattle.memory.specs.Memo.{memo_program, op_complement, op_flip, op_constant, op_identity}
use Rattle.memory.proofs.Steps.{begin, by, yes, no, same_says, less_says}
use Rattle.relations.specs.Binary.{Tests, on_equal, binary}

pub identity_zero : (l : ℕ) → l ≡ 0 → identity_at_depth l ≡ ret 1
unfolding identity_at_depth
identity_zero zero e = refl
identity_zero (suc l) e = absurd (let z : ⊥ = omega arith in z)

pub identity_step : (l : ℕ) → (l ≡ 0 → ⊥)
    → identity_at_depth l ≡ (identity_at_depth (l - 1) >>= λ one. constant rel 0 (l - 1) >>= λ z. mk rel (one ∷ z ∷ z ∷ one ∷ []))
unfolding identity_at_depth
identity_step zero h = absurd (h refl)
identity_step (suc l) h = let e : l ≡ suc l - 1 = omega arith in
    ap (λ n. identity_at_depth n >>= λ one. constant rel 0 n >>= λ z. mk rel (one ∷ z ∷ z ∷ one ∷ [])) e

-- THE NUMBERS of operations on one relation or none; the memo's second operand says nothing of these
module _ (l a b : ℕ) where
  pub complement_memo : node1 complement_op l a ≡ memo_program op_complement l a b
  unfolding memo_program
  complement_memo = refl

  pub flip_memo : node1 flip_op l a ≡ memo_program op_flip l a b
  unfolding memo_program
  flip_memo = refl

  pub constant_memo : constant rel a l ≡ memo_program op_constant l a b
  unfolding memo_program
  constant_memo = refl

  pub identity_memo : identity_at_depth l ≡ memo_program op_identity l a b
  unfolding memo_program
  identity_memo = refl

-- OPERATIONS on two: opened one step
pub binary_is : (cancels : Bool) (tests : Tests) (l a b : ℕ)
    → op2 (binary cancels tests) l a b ≡ ask (same a b) (on_equal cancels l a) (tests l a b (node2 (binary cancels tests) l))
unfolding op2
binary_is cancels tests l a b = refl

-- the test on equal operands answers, or not
module _ {p q q' : Prog} {a b : ℕ} {m w : List ℕ} (e : p ≡ ask (same a b) q q') where
  pub equal : a ≡ b → Reduces rel p q m w
  equal h = yes (by begin e) (same_says (eq-eqb a b h))

  pub differ : (a ≡ b → ⊥) → Reduces rel p q' m w
  differ h = no (by begin e) (same_says (ne_eqb a b h))

-- OPERATIONS on one
pub complement_is : (l a : ℕ) → complement rel l a ≡ ask (less a 2) (ret (1 - a)) (node1 complement_op l a)
unfolding complement op1
complement_is l a = refl

pub complement_left : (l a : ℕ) {m w : List ℕ} → 2 ≤ a → Reduces rel (complement rel l a) (node1 complement_op l a) m w
complement_left l a h = no (by begin (complement_is _ _)) (less_says (le-ltb _ 2 h))

pub is_zero_is : (l a : ℕ) → is_zero rel l a ≡ ask (has is_empty rel l a) (ret 1) (ret 0)
unfolding is_zero
is_zero_is l a = refl

pub flip_is : (l a : ℕ) → flip l a ≡ ask (less a 2) (ret a) (node1 flip_op l a)
unfolding flip op1
flip_is l a = refl

pub flip_left : (l a : ℕ) {m w : List ℕ} → 2 ≤ a → Reduces rel (flip l a) (node1 flip_op l a) m w
flip_left l a h = no (by begin (flip_is _ _)) (less_says (le-ltb _ 2 h))
