-- What the first line says, by its length and its digits. From the definitions.
use mathlib.Core.Path.{◌≡◌, refl, sym, ap, subst}
use mathlib.Core.Bool.{Bool, true, false, not, ◌&&◌}
use mathlib.Core.List.{List, [], ◌∷◌}
use Prim.Native.Nat.{ℕ, ◌+◌, ◌-◌, ◌*◌, ◌<◌, ◌≤◌}
use native.Mathlib.Omega.{arith}
use lib.Dec.{T, leb, eqb, leb→le}
use lib.ListN.{length, get_or}
use borrow.Author.Tests.{le-leb, lt-leb, leb-true, eq-eqb, ne_eqb}
use Rattle.std.specs.Prelude.{Option, None}
use Rattle.model.specs.Store.{pick}
use Rattle.model.proofs.Bools.{by_test, no_true, and_T}
use Rattle.policy_text.specs.XForms.{is_digit_byte}
use Rattle.listing.specs.Listing.{at_most_32, one_digit, two_digits, width_of}

-- DIGITS, and other bytes
digit : (a : ℕ) → 48 ≤ a → a ≤ 57 → is_digit_byte a ≡ true
digit a low high = λ i. le-leb 48 a low i && le-leb a 57 high i

other : (a : ℕ) → (48 ≤ a → 57 < a) → is_digit_byte a ≡ false
other a past = by_test (λ b. b && leb a 57 ≡ false) (leb 48 a) (λ e. lt-leb a 57 (past (leb-true 48 a e))) (λ e. refl)

within_digits : (a : ℕ) → is_digit_byte a ≡ true → (48 ≤ a) × (a ≤ 57)
within_digits a e = let t = and_T (leb 48 a) (leb a 57) (subst T (sym e) tt) in (leb→le 48 a t.0, leb→le a 57 t.1)

pub a_digit : (a : ℕ) → 48 ≤ a → a ≤ 57 → at_most_32 (a - 48) ≡ one_digit a
unfolding one_digit
a_digit a low high = ap (λ x. pick x (at_most_32 (a - 48)) None) (sym (digit a low high))

pub no_digit : (a : ℕ) → (48 ≤ a → 57 < a) → None ≡ one_digit a
unfolding one_digit
no_digit a past = ap (λ x. pick x (at_most_32 (a - 48)) None) (sym (other a past))

module _ (a b : ℕ) where
  abbrev said : Option ℕ
  said = at_most_32 (10 * (a - 48) + (b - 48))

  pub both_digits : 49 ≤ a → a ≤ 57 → 48 ≤ b → b ≤ 57 → said ≡ two_digits a b
  unfolding two_digits
  both_digits low high low' high' =
      sym (λ i. pick (not (ne_eqb a 48 (λ e. omega arith) i) && (digit a (omega arith) high i && digit b low' high' i)) said None)

  not_all : (x y z : Bool) → (x ≡ true → y ≡ true → z ≡ true → ⊥) → None ≡ pick (x && (y && z)) said None
  not_all true true true h = absurd (h refl refl refl)
  not_all true true false h = refl
  not_all true false z h = refl
  not_all false y z h = refl

  pub not_both : (49 ≤ a → a ≤ 57 → 48 ≤ b → 57 < b) → None ≡ two_digits a b
  unfolding two_digits
  not_both past = not_all (not (eqb a 48)) (is_digit_byte a) (is_digit_byte b) (λ x y z.
      let tens = within_digits a y in
      let ones = within_digits b z in
      let no_zero : a ≡ 48 → ⊥ = λ e. no_true (ap not (eq-eqb a 48 e)) x in
      let over : 57 < b = past (omega (arith, tens.0, no_zero)) tens.1 ones.0 in
      omega (arith, over, ones.1))

-- LINES of one byte, of two, and others
pub of_one : (l : List ℕ) → length l ≡ 1 → one_digit (get_or l 0 0) ≡ width_of l
unfolding width_of
of_one [] e = absurd (omega arith)
of_one (a ∷ []) e = refl
of_one (a ∷ b ∷ l) e = absurd (omega arith)

pub of_two : (l : List ℕ) → length l ≡ 2 → two_digits (get_or l 0 0) (get_or l 1 0) ≡ width_of l
unfolding width_of
of_two [] e = absurd (omega arith)
of_two (a ∷ []) e = absurd (omega arith)
of_two (a ∷ b ∷ []) e = refl
of_two (a ∷ b ∷ c ∷ l) e = absurd (omega arith)

pub of_others : (l : List ℕ) → (length l ≡ 1 → ⊥) → (length l ≡ 2 → ⊥) → None ≡ width_of l
unfolding width_of
of_others [] n m = refl
of_others (a ∷ []) n m = absurd (n refl)
of_others (a ∷ b ∷ []) n m = absurd (m refl)
of_others (a ∷ b ∷ c ∷ l) n m = refl
