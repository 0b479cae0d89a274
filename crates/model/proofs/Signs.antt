-- Signs and handle numbers: a sign taken twice is none, a place and its handle find each other.
-- signs
use mathlib.Core.Path.{◌≡◌, refl, sym, ap, ◌∙◌}
use mathlib.Core.List.{List, [], ◌∷◌, map}
use Prim.Native.Nat.{ℕ, zero, suc, ◌+◌, ◌-◌, ◌*◌, ◌/◌, ◌%◌, ◌<◌, ◌≤◌}
use native.Mathlib.Omega.{arith}
use lib.ListN.{length, get_or, length-map}
use Rattle.model.specs.Store.{Kind, set, rel, arity, signed, index, handle_of, with_sign}
use Rattle.model.specs.WellFormed.{Even}

pub signed_twice : (s h : ℕ) → signed s (signed s h) ≡ h
signed_twice zero h = refl
signed_twice (suc s) h = omega arith

pub with_sign_twice : (K : Kind) (s : ℕ) (x : List ℕ) → with_sign K s (with_sign K s x) ≡ x
with_sign_twice rel s x = refl
with_sign_twice set s [] = refl
with_sign_twice set s (a ∷ x) = cc (signed_twice s a, with_sign_twice set s x)

pub signed_parity : (s h : ℕ) → s < 2 → h % 2 ≡ 0 → signed s h % 2 ≡ s
signed_parity zero h b e = e
signed_parity (suc s) h b e = omega arith

pub index_handle : (K : Kind) (s i : ℕ) → index K (handle_of K s i) ≡ i
index_handle rel s i = omega arith
index_handle set zero i = omega arith
index_handle set (suc s) i = omega arith

pub handle_index : (K : Kind) (h : ℕ) → 2 ≤ h → handle_of K (h % 2) (index K h) ≡ h
handle_index rel h b = omega arith
handle_index set h b = go (h % 2) refl
  where
    go : (s : ℕ) → h % 2 ≡ s → signed s (2 * (h / 2 - 1 + 1)) ≡ h
    go zero e = omega arith
    go (suc s) e = omega arith

pub with_sign_handle : (K : Kind) (s i : ℕ) (x : List ℕ) → s < 2 → with_sign K (handle_of K s i % 2) (with_sign K s x) ≡ x
with_sign_handle rel s i x b = refl
with_sign_handle set s i x b = rw (signed_parity s (2 * (i + 1)) b (omega arith)) (with_sign_twice set s x)

pub length_with_sign : (K : Kind) (s : ℕ) (x : List ℕ) → length (with_sign K s x) ≡ length x
length_with_sign rel s x = refl
length_with_sign set s x = length-map x (signed s)

-- a node and its sign are read off the turned node
pub with_sign_inj : (K : Kind) (s t : ℕ) (x y : List ℕ) → s < 2 → t < 2 → length x ≡ arity K → length y ≡ arity K → Even K x → Even K y
    → with_sign K s x ≡ with_sign K t y → (x ≡ y) × (handle_of K s 0 ≡ handle_of K t 0)
with_sign_inj rel s t x y bs bt lx ly ex ey e = (e, refl)
with_sign_inj set s t [] y bs bt lx ly ex ey e = absurd (omega (arith, lx))
with_sign_inj set s t (a ∷ x) [] bs bt lx ly ex ey e = absurd (omega (arith, ly))
with_sign_inj set s t (a ∷ x) (b ∷ y) bs bt lx ly ex ey e =
    let p : signed s a ≡ signed t b = cc in
    let q : s ≡ t = sym (signed_parity s a bs ex) ∙ ap (λ n. n % 2) p ∙ signed_parity t b bt ey in (
      sym (with_sign_twice set s (a ∷ x)) ∙ ap (with_sign set s) (e ∙ ap (λ n. with_sign set n (b ∷ y)) (sym q)) ∙ with_sign_twice set s (b ∷ y),
      ap (λ n. signed n 2) q,
    )

-- what the places of a handle say
pub handle_eq : (K : Kind) (s t i : ℕ) → handle_of K s 0 ≡ handle_of K t 0 → s < 2 → t < 2 → handle_of K s i ≡ handle_of K t i
handle_eq rel s t i e bs bt = refl
handle_eq set zero zero i e bs bt = refl
handle_eq set zero (suc t) i e bs bt = absurd (omega (arith, e))
handle_eq set (suc s) zero i e bs bt = absurd (omega (arith, e))
handle_eq set (suc s) (suc t) i e bs bt = refl

pub get_d_map : (f : ℕ → ℕ) (x : List ℕ) (d : ℕ) → d < length x → get_or (map f x) d 0 ≡ f (get_or x d 0)
get_d_map f [] d h = absurd (omega arith)
get_d_map f (a ∷ x) zero h = refl
get_d_map f (a ∷ x) (suc d) h = get_d_map f x d (omega arith)

pub with_sign_zero : (x : List ℕ) → map (signed 0) x ≡ x
with_sign_zero [] = refl
with_sign_zero (a ∷ x) = ap (λ y. a ∷ y) (with_sign_zero x)
