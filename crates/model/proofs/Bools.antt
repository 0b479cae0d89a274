-- Small facts on truth values and bits.
use mathlib.Core.Path.{◌≡◌, refl, sym, ◌∙◌, subst}
use mathlib.Core.Logic.{◌↔◌}
use mathlib.Core.Bool.{Bool, true, false, ◌&&◌}
use Prim.Native.Nat.{ℕ, zero, suc, ◌-◌, ◌<◌}
use native.Mathlib.Omega.{arith}
use lib.Dec.{eqb, T, eqb→eq, eqb_refl}
use borrow.Author.Tests.{eq-eqb}

-- by cases on a test
pub by_test : (P : Bool → Type 0) (b : Bool) → (b ≡ true → P true) → (b ≡ false → P false) → P b
by_test P true t f = t refl
by_test P false t f = f refl

pub no_true : {b : Bool} → b ≡ false → b ≡ true → ⊥
no_true e f = subst T (sym f ∙ e) tt

pub and_T : (p q : Bool) → T (p && q) → T p × T q
and_T true q t = (tt, t)
and_T false q t = absurd t

pub both_T : (p q : Bool) → T p → T q → T (p && q)
both_T true q t u = u
both_T false q t u = absurd t

pub T_true : (b : Bool) → T b → b ≡ true
T_true true t = refl
T_true false t = absurd t

pub and_iff : (a b : Bool) {X Y : Type 0} → (a ≡ true) ↔ X → (b ≡ true) ↔ Y → ((a && b) ≡ true) ↔ (X × Y)
and_iff true b e f = (λ g. (e.0 refl, f.0 g), λ g. f.1 g.1)
and_iff false b e f = (λ g. absurd (no_true refl g), λ g. absurd (no_true refl (e.1 g.0)))

pub eqb_iff : (m n : ℕ) → T (eqb m n) ↔ (m ≡ n)
eqb_iff m n = (eqb→eq m n, λ e. subst (λ x. T (eqb m x)) e (eqb_refl m))

-- a test for 1
pub one_iff : (n : ℕ) → (eqb n 1 ≡ true) ↔ (n ≡ 1)
one_iff n = (λ e. eqb→eq n 1 (subst T (sym e) tt), eq-eqb n 1)

-- two bits that are 1 together are equal
pub bit_eq : (m n : ℕ) → m < 2 → n < 2 → (m ≡ 1) ↔ (n ≡ 1) → m ≡ n
bit_eq zero zero a b e = refl
bit_eq zero (suc n) a b e = absurd (omega (arith, e.1 (omega arith)))
bit_eq (suc m) zero a b e = absurd (omega (arith, e.0 (omega arith)))
bit_eq (suc m) (suc n) a b e = omega arith

pub not_bit : {A : Type 0} (m n : ℕ) → m < 2 → n ≡ 1 - m → (m ≡ 1) ↔ A → (n ≡ 1) ↔ (¬ A)
not_bit m n b e w = (λ x a. omega (arith, w.1 a), λ x. go m b e w x)
  where
    go : {A : Type 0} (m : ℕ) → m < 2 → n ≡ 1 - m → (m ≡ 1) ↔ A → ¬ A → n ≡ 1
    go zero b e w x = omega arith
    go (suc m) b e w x = absurd (x (w.0 (omega arith)))

-- what holds at 0 and 1 holds of a bit; at 0, 1, 2, 3 of a relation's digit
pub on-bits {ℓ} : (X : ℕ → Type ℓ) → X 0 → X 1 → (i : ℕ) → i < 2 → X i
on-bits X a b zero h = a
on-bits X a b (suc zero) h = b
on-bits X a b (suc (suc n)) h = absurd (omega arith)

pub on_digits : (X : ℕ → Type 0) → X 0 → X 1 → X 2 → X 3 → (d : ℕ) → d < 4 → X d
on_digits X a b c e zero h = a
on_digits X a b c e (suc zero) h = b
on_digits X a b c e (suc (suc zero)) h = c
on_digits X a b c e (suc (suc (suc zero))) h = e
on_digits X a b c e (suc (suc (suc (suc n)))) h = absurd (omega arith)
