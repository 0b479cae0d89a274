-- The searches and tests of specs/Reading on what is left of a text, by its first bytes; from the definitions.
use mathlib.Core.Path.{◌≡◌, refl, sym, ap, ◌∙◌}
use Prim.Native.Nat.{ℕ, zero, suc, ◌+◌, ◌-◌, ◌*◌, ◌≤◌, ◌<◌}
use native.Mathlib.Numerals.{add-one}
use native.Mathlib.Omega.{arith}
use mathlib.Core.List.{List, [], ◌∷◌}
use mathlib.Core.Bool.{Bool, true, false, cond, not, true≢false}
use mathlib.Core.Logic.{◌⊎◌, inl, inr}
use lib.ListN.{length, take, drop, get_or}
use lib.Seq.{drop-cons}
use lib.Dec.{eqb, leb}
use borrow.Author.Tests.{eq-eqb, ne_eqb}
use Rattle.std.specs.Prelude.{Option, Some, None}
use Rattle.std.specs.List.{find, range_with_len}
use Rattle.std.specs.Option.{option_map}
use Rattle.std.proofs.lemmas.List.{drop_all, length-drop}
use Rattle.std.proofs.lemmas.List.{take_all}
use Rattle.policy_text.specs.XForms.{is_digit_byte, field_number, is_no_field, x_forms}
use Rattle.policy_text.specs.Reading.{first, is_test, open_after, is_clean_inside, is_clean, does_offend}

-- parentheses
pub open_more : (b n : ℕ) → b ≡ 40 → n + 1 ≡ open_after b n
unfolding open_after
open_more b n e = simp (eq-eqb b 40 e)

pub open_fewer : (b n : ℕ) → b ≡ 41 → n - 1 ≡ open_after b n
unfolding open_after
open_fewer b n e = rw e refl

pub open_same : (b n : ℕ) → (b ≡ 40 → ⊥) → (b ≡ 41 → ⊥) → n ≡ open_after b n
unfolding open_after
open_same b n e f = simp (ne_eqb b 40 e, ne_eqb b 41 f)

pub open_most : (b n m : ℕ) → m ≡ open_after b n → m ≤ n + 1
unfolding open_after
open_most b n m e = rw e (by (eqb b 40) (eqb b 41))
  where
    by : (x y : Bool) → cond x (n + 1) (cond y (n - 1) n) ≤ n + 1
    by true y = omega arith
    by false true = omega arith
    by false false = omega arith

pub inside_closed : (s : List ℕ) (n : ℕ) → n ≤ 0 → is_clean_inside s n ≡ true
unfolding is_clean_inside
inside_closed [] n h = refl
inside_closed (b ∷ s) n h = simp (eq-eqb n 0 (omega arith))

-- what follows the first byte, as a slice
abbrev pub rest : List ℕ → ℕ → List ℕ
rest t i = take (length t - i) (drop i t)

pub rest_is : (t : List ℕ) (i : ℕ) → rest t i ≡ drop i t
rest_is t i = take_all (length t - i) (drop i t) (omega (arith, length-drop i t))

tail_is : (b : ℕ) (s : List ℕ) → rest (b ∷ s) 1 ≡ s
tail_is b s = rest_is (b ∷ s) 1

-- a search by std finds the first place
same_found : (r : Option ℕ) → option_map (λ (x : ℕ). x) r ≡ r
same_found None = refl
same_found (Some i) = refl

module _ (P : List ℕ → Bool) (t : List ℕ) where
  search_from : (n i : ℕ) → i + n ≡ length t → find (λ j. P (rest t j)) (range_with_len i n) ≡ first P i (drop i t)
  unfolding first
  search_from zero i h = sym (ap (first P i) (drop_all i t (omega arith)))
  search_from (suc n) i h =
      let e = drop-cons t i 0 (omega arith) in
      let z : drop (suc i) t ≡ drop (i + 1) t = ap (λ (k : ℕ). drop k t) (sym (add-one i)) in
      ap (λ (o : Option ℕ). cond (P (rest t i)) (Some i) o) (search_from n (i + 1) (omega arith))
      ∙ ap (λ (s : List ℕ). cond (P s) (Some i) (first P (i + 1) (drop (i + 1) t))) (rest_is t i ∙ e)
      ∙ ap (λ (s : List ℕ). cond (P (get_or t i 0 ∷ drop (suc i) t)) (Some i) (first P (i + 1) s)) (sym z)
      ∙ sym (ap (first P i) e)

  pub search_is : (r : Option ℕ) → option_map (λ (x : ℕ). x) r ≡ find (λ j. P (rest t j)) (range_with_len 0 (length t)) → r ≡ first P 0 t
  search_is r e = sym (same_found r) ∙ e ∙ search_from (length t) 0 (omega arith)

-- the number N of a field
pub number_none : (t : List ℕ) → length t < 1 → 0 ≡ field_number t
unfolding field_number
number_none [] h = refl
number_none (b ∷ s) h = absurd (omega arith)

pub number_two : (t : List ℕ) (a b : ℕ) → 2 ≤ length t → true ≡ is_digit_byte (get_or t 1 0) → a ≡ get_or t 0 0 - 48 → b ≡ get_or t 1 0 - 48
    → a * 10 + b ≡ field_number t
unfolding field_number
number_two [] a b h d e f = absurd (omega arith)
number_two (x ∷ []) a b h d e f = absurd (omega arith)
number_two (x ∷ y ∷ s) a b h d e f = rw (e, f) (ap (λ (z : Bool). cond z ((x - 48) * 10 + (y - 48)) (x - 48)) d)

pub number_short : (t : List ℕ) (a : ℕ) → (2 ≤ length t → false ≡ is_digit_byte (get_or t 1 0)) → a ≡ get_or t 0 0 - 48 → a ≡ field_number t
unfolding field_number
number_short [] a d e = e
number_short (x ∷ []) a d e = e
number_short (x ∷ y ∷ s) a d e = e ∙ ap (λ (z : Bool). cond z ((x - 48) * 10 + (y - 48)) (x - 48)) (d (omega arith))

pub no_field_here : (k : ℕ) (t : List ℕ) (n : ℕ) → 1 ≤ length t → get_or t 0 0 ≡ 120 → n ≡ field_number (rest t 1) → leb k n ≡ is_no_field k t
unfolding is_no_field
no_field_here k [] n h e f = absurd (omega arith)
no_field_here k (b ∷ s) n h e f = rw (f ∙ ap field_number (tail_is b s)) (simp (eq-eqb b 120 e))

pub no_field_not : (k : ℕ) (t : List ℕ) → (1 ≤ length t → get_or t 0 0 ≡ 120 → ⊥) → false ≡ is_no_field k t
unfolding is_no_field
no_field_not k [] h = refl
no_field_not k (b ∷ s) h = simp (ne_eqb b 120 (h (omega arith)))

module _ (t : List ℕ) (at : ℕ) (h : at < length t) where
  left : drop at t ≡ get_or t at 0 ∷ drop (at + 1) t
  left = drop-cons t at 0 h ∙ ap (λ (k : ℕ). get_or t at 0 ∷ drop k t) (sym (add-one at))

  -- a test or an assignment
  test_next : is_test (drop at t) ≡ cond (eqb (get_or t at 0) 58) false (cond (eqb (get_or t at 0) 61) true (is_test (drop (at + 1) t)))
  unfolding is_test
  test_next = ap is_test left

  pub test_colon : get_or t at 0 ≡ 58 → is_test (drop at t) ≡ false
  test_colon e = test_next ∙ simp (eq-eqb _ _ e)

  pub test_equals : (get_or t at 0 ≡ 58 → ⊥) → get_or t at 0 ≡ 61 → is_test (drop at t) ≡ true
  test_equals f e = test_next ∙ simp (ne_eqb _ _ f, eq-eqb _ _ e)

  pub test_later : (get_or t at 0 ≡ 58 → ⊥) → (get_or t at 0 ≡ 61 → ⊥) → is_test (drop at t) ≡ is_test (drop (at + 1) t)
  test_later f e = test_next ∙ simp (ne_eqb _ _ f, ne_eqb _ _ e)

  -- a parenthesis
  inside_next : (n : ℕ) → (n ≡ 0 → ⊥) → is_clean_inside (drop at t) n
      ≡ cond (eqb (get_or t at 0) 58) false (cond (eqb (get_or t at 0) 42) false (cond (eqb (get_or t at 0) 84) false
      (is_clean_inside (drop (at + 1) t) (open_after (get_or t at 0) n))))
  unfolding is_clean_inside
  inside_next n k = ap (λ (s : List ℕ). is_clean_inside s n) left ∙ simp (ne_eqb n 0 k)

  pub inside_not : (n : ℕ) → (n ≡ 0 → ⊥) → (get_or t at 0 ≡ 58) ⊎ ((get_or t at 0 ≡ 42) ⊎ (get_or t at 0 ≡ 84)) → is_clean_inside (drop at t) n ≡ false
  inside_not n k e = inside_next n k ∙ by (eqb (get_or t at 0) 58) (eqb (get_or t at 0) 42) (eqb (get_or t at 0) 84) e refl refl refl
    where
      r : Bool
      r = is_clean_inside (drop (at + 1) t) (open_after (get_or t at 0) n)

      by : (x y z : Bool) → (get_or t at 0 ≡ 58) ⊎ ((get_or t at 0 ≡ 42) ⊎ (get_or t at 0 ≡ 84))
          → eqb (get_or t at 0) 58 ≡ x → eqb (get_or t at 0) 42 ≡ y → eqb (get_or t at 0) 84 ≡ z → cond x false (cond y false (cond z false r)) ≡ false
      by true y z e f g i = refl
      by false true z e f g i = refl
      by false false true e f g i = refl
      by false false false (inl e) f g i = absurd (true≢false (sym (eq-eqb _ _ e) ∙ f))
      by false false false (inr (inl e)) f g i = absurd (true≢false (sym (eq-eqb _ _ e) ∙ g))
      by false false false (inr (inr e)) f g i = absurd (true≢false (sym (eq-eqb _ _ e) ∙ i))

  pub inside_later : (n m : ℕ) → (n ≡ 0 → ⊥) → (get_or t at 0 ≡ 58 → ⊥) → (get_or t at 0 ≡ 42 → ⊥) → (get_or t at 0 ≡ 84 → ⊥)
      → m ≡ open_after (get_or t at 0) n → is_clean_inside (drop at t) n ≡ is_clean_inside (drop (at + 1) t) m
  inside_later n m k f e i g = rw g (inside_next n k ∙ simp (ne_eqb _ _ f, ne_eqb _ _ e, ne_eqb _ _ i))

-- the end of a text
pub test_none : (t : List ℕ) (at : ℕ) → length t ≤ at → is_test (drop at t) ≡ true
unfolding is_test
test_none t at h = ap is_test (drop_all at t h)

pub inside_none : (t : List ℕ) (at n : ℕ) → length t ≤ at → is_clean_inside (drop at t) n ≡ true
unfolding is_clean_inside
inside_none t at n h = ap (λ (s : List ℕ). is_clean_inside s n) (drop_all at t h)

-- an operand
clean_next : (t : List ℕ) → 1 ≤ length t
    → is_clean x_forms t
    ≡ cond (eqb (get_or t 0 0) 40) (is_clean_inside (rest t 1) 1) (cond (eqb (get_or t 0 0) 120) (is_test (rest t 1))
    (cond (eqb (get_or t 0 0) 33) (is_clean x_forms (rest t 1)) (not (eqb (get_or t 0 0) 84))))
unfolding is_clean
clean_next [] h = absurd (omega arith)
clean_next (b ∷ s) h = ap
    (λ (r : List ℕ). cond (eqb b 40) (is_clean_inside r 1) (cond (eqb b 120) (is_test r) (cond (eqb b 33) (is_clean x_forms r) (not (eqb b 84)))))
    (sym (tail_is b s))

pub clean_none : (t : List ℕ) → length t < 1 → is_clean x_forms t ≡ true
unfolding is_clean
clean_none [] h = refl
clean_none (b ∷ s) h = absurd (omega arith)

pub clean_paren : (t : List ℕ) → 1 ≤ length t → get_or t 0 0 ≡ 40 → is_clean x_forms t ≡ is_clean_inside (rest t 1) 1
clean_paren t h e = clean_next t h ∙ simp (eq-eqb _ _ e)

pub clean_name : (t : List ℕ) → 1 ≤ length t → get_or t 0 0 ≡ 120 → is_clean x_forms t ≡ is_test (rest t 1)
clean_name t h e = clean_next t h ∙ rw e refl

pub clean_bang : (t : List ℕ) → 1 ≤ length t → get_or t 0 0 ≡ 33 → is_clean x_forms t ≡ is_clean x_forms (rest t 1)
clean_bang t h e = clean_next t h ∙ rw e refl

pub clean_full : (t : List ℕ) → 1 ≤ length t → get_or t 0 0 ≡ 84 → is_clean x_forms t ≡ false
clean_full t h e = clean_next t h ∙ rw e refl

pub clean_leaf : (t : List ℕ) → 1 ≤ length t → (get_or t 0 0 ≡ 40 → ⊥) → (get_or t 0 0 ≡ 120 → ⊥) → (get_or t 0 0 ≡ 33 → ⊥) → (get_or t 0 0 ≡ 84 → ⊥)
    → is_clean x_forms t ≡ true
clean_leaf t h f e g i = clean_next t h ∙ simp (ne_eqb _ _ f, ne_eqb _ _ e, ne_eqb _ _ g, ne_eqb _ _ i)

pub offends_here : (t : List ℕ) (r : Bool) → 1 ≤ length t → get_or t 0 0 ≡ 33 → r ≡ is_clean x_forms (rest t 1) → not r ≡ does_offend x_forms t
unfolding does_offend
offends_here [] r h e f = absurd (omega arith)
offends_here (b ∷ s) r h e f = rw (f ∙ ap (is_clean x_forms) (tail_is b s)) (simp (eq-eqb b 33 e))

pub offends_not : (t : List ℕ) → (1 ≤ length t → get_or t 0 0 ≡ 33 → ⊥) → false ≡ does_offend x_forms t
unfolding does_offend
offends_not [] h = refl
offends_not (b ∷ s) h = simp (ne_eqb b 33 (h (omega arith)))
