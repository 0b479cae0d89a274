-- The programs of sets opened one step, and their numbers in the memo.
use mathlib.Core.Path.{◌≡◌, refl, sym, ap}
use mathlib.Core.List.{[], ◌∷◌}
use mathlib.Core.Bool.{true, false}
use Prim.Native.Nat.{ℕ, zero, suc, ◌+◌, ◌-◌, ◌<◌}
use native.Mathlib.Omega.{arith}
use lib.Dec.{ltb}
use borrow.Author.Tests.{lt-ltb, le-ltb}
use Rattle.model.specs.Operations.{is_zero, complement, union, intersect, difference, raise}
use Rattle.model.specs.Programs.{is_empty, has, panic, ret, ask, look, mk, ◌>>=◌}
use Rattle.model.specs.Recursion.{node2, op2, x0, x1}
use Rattle.model.specs.Sets.{intersects_tests, intersects_op, intersects, ifelse}
use Rattle.model.specs.Store.{set, signed}
use Rattle.memory.specs.Memo.{memo_program, op_intersects, op_ifelse}

-- INTERSECTS
module _ (l a b : ℕ) where
  pub intersects_is : intersects l a b ≡ intersects_tests l a b (node2 intersects_op l)
  unfolding intersects op2
  intersects_is = refl

  pub intersects_memo : node2 intersects_op l a b ≡ memo_program op_intersects l a b
  unfolding memo_program
  intersects_memo = refl

-- COMPLEMENT, and what goes through it: x and y are the other handles of a and b
pub complement_is : (l a : ℕ) {x : ℕ} → x ≡ signed 1 a → complement set l a ≡ ret x
unfolding complement
complement_is l a e = ap ret (sym e)

pub intersect_is : (l a b : ℕ) {x y : ℕ} → x ≡ signed 1 a → y ≡ signed 1 b → intersect set l a b ≡ (union set l x y >>= λ r. ret (signed 1 r))
unfolding intersect
intersect_is l a b e f i = union set l (sym e i) (sym f i) >>= λ r. ret (signed 1 r)

pub difference_is : (l a b : ℕ) {x : ℕ} → x ≡ signed 1 a → difference set l a b ≡ (union set l x b >>= λ r. ret (signed 1 r))
unfolding difference
difference_is l a b e i = union set l (sym e i) b >>= λ r. ret (signed 1 r)

pub is_zero_is : (l a : ℕ) → is_zero set l a ≡ ask (has is_empty set l a) (ret 1) (ret 0)
unfolding is_zero
is_zero_is l a = refl

-- IFELSE
pub ifelse_zero : (l v t e : ℕ) → l ≡ 0 → ifelse l v t e ≡ panic
unfolding ifelse
ifelse_zero zero v t e h = refl
ifelse_zero (suc l) v t e h = absurd (let z : ⊥ = omega arith in z)

pub ifelse_here : (l v t e : ℕ) → (l ≡ 0 → ⊥) → v ≡ 0 → ifelse l v t e ≡ look set t (λ x. look set e (λ y. mk set (x0 y ∷ x1 x ∷ [])))
unfolding ifelse
ifelse_here zero v t e h g = absurd (h refl)
ifelse_here (suc l) zero t e h g = refl
ifelse_here (suc l) (suc v) t e h g = absurd (let z : ⊥ = omega arith in z)

pub ifelse_below : (l v t e : ℕ) → (l ≡ 0 → ⊥) → (v ≡ 0 → ⊥) → ifelse l v t e ≡ look set t (λ x. look set e (λ y.
    ifelse (l - 1) (v - 1) (x0 x) (x0 y) >>= λ r0. ifelse (l - 1) (v - 1) (x1 x) (x1 y) >>= λ r1. mk set (r0 ∷ r1 ∷ [])))
unfolding ifelse
ifelse_below zero v t e h g = absurd (h refl)
ifelse_below (suc l) zero t e h g = absurd (g refl)
ifelse_below (suc l) (suc v) t e h g =
    let i : l ≡ suc l - 1 = omega arith in
    let j : v ≡ suc v - 1 = omega arith in
    λ k. look set t (λ x. look set e (λ y. ifelse (i k) (j k) (x0 x) (x0 y) >>= λ r0. ifelse (i k) (j k) (x1 x) (x1 y) >>= λ r1. mk set (r0 ∷ r1 ∷ [])))

pub ifelse_memo : (l v t e : ℕ) → v < 256 → ifelse l v t e ≡ memo_program (op_ifelse + v) l t e
unfolding memo_program
ifelse_memo l v t e h =
    let f : ltb 16383 (64 + v) ≡ false = le-ltb 16383 (64 + v) (omega arith) in
    let a : ltb 1023 (64 + v) ≡ false = le-ltb 1023 (64 + v) (omega arith) in
    let b : ltb 63 (64 + v) ≡ true = lt-ltb 63 (64 + v) (omega arith) in
    let d : 64 + v - 64 ≡ v = omega arith in
    rw (f, a, b, d)

-- RAISE
pub raise_zero : (n r : ℕ) → n ≡ 0 → raise n r ≡ ret r
unfolding raise
raise_zero zero r e = refl
raise_zero (suc n) r e = absurd (let z : ⊥ = omega arith in z)

pub raise_step : (n r : ℕ) → (n ≡ 0 → ⊥) → raise n r ≡ (mk set (r ∷ r ∷ []) >>= λ t. raise (n - 1) t)
unfolding raise
raise_step zero r h = absurd (h refl)
raise_step (suc n) r h = let e : n ≡ suc n - 1 = omega arith in ap (λ n. mk set (r ∷ r ∷ []) >>= λ t. raise n t) e
