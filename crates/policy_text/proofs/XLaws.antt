-- The x forms are a lexicon: by the bytes of N, of which there are at most two.
use mathlib.Core.Path.{◌≡◌, refl, sym, ap, ◌∙◌}
use mathlib.Core.Logic.{◌⊎◌, inl, inr}
use Prim.Native.Nat.{ℕ, ◌+◌, ◌-◌, ◌*◌, ◌≤◌, ◌<◌}
use native.Mathlib.Omega.{arith}
use mathlib.Core.List.{List, [], ◌∷◌, ◌++◌}
use mathlib.Core.Bool.{Bool, true, false, cond, ◌&&◌, and-false, true≢false}
use lib.Dec.{leb, eqb}
use lib.ListN.{length}
use borrow.Author.Tests.{eqb-true, eqb-false, ne_eqb, le-leb, leb-true}
use Rattle.policy_text.specs.Lexicon.{unspelt, field, Digit, Letter, Lawful, Bounds}
use Rattle.policy_text.specs.XForms.{Field, f_zero, f_one, f_two, XForm, x_form, is_digit_byte, has_tens, does_x_begin, is_x_whole, field_number, is_no_field}
use Rattle.policy_text.specs.XForms.{x_forms}

both : (x y : Bool) → x && y ≡ true → (x ≡ true) × (y ≡ true)
both true y h = (refl, h)
both false y h = absurd (true≢false (sym h))

all_true : (x y : Bool) → x ≡ true → y ≡ true → x && y ≡ true
all_true true y h k = k
all_true false y h k = h

pub is_digit : (b : ℕ) → is_digit_byte b ≡ true → Digit b
is_digit b h = let p = both (leb 48 b) (leb b 57) h in (leb-true 48 b p.0, leb-true b 57 p.1)

is_tens : (b : ℕ) → has_tens b ≡ true → (49 ≤ b) × (b ≤ 57)
is_tens b h = let p = both (leb 49 b) (leb b 57) h in (leb-true 49 b p.0, leb-true b 57 p.1)

pub digit_true : (b : ℕ) → 48 ≤ b → b ≤ 57 → is_digit_byte b ≡ true
digit_true b h k = simp (le-leb _ _ h, le-leb _ _ k)

pub digit_false : (b : ℕ) → b < 48 ⊎ 57 < b → is_digit_byte b ≡ false
digit_false b h = by (is_digit_byte b) refl
  where
    by : (x : Bool) → is_digit_byte b ≡ x → x ≡ false
    by true e = let d = is_digit b e in absurd (omega (arith, d.0, d.1, h))
    by false e = refl

pub tens_true : (b : ℕ) → 49 ≤ b → b ≤ 57 → has_tens b ≡ true
tens_true b h k = simp (le-leb _ _ h, le-leb _ _ k)

-- a digit alone, and two
one_digit : (x a : ℕ) → eqb x 120 && is_digit_byte a ≡ true → XForm (x ∷ a ∷ []) (a - 48)
one_digit x a h =
    let p = both (eqb x 120) (is_digit_byte a) h in
    let d = is_digit a p.1 in
    rw (eqb-true x 120 p.0) (x_form (by (eqb a 48) refl d.0 d.1))
  where
    by : (z : Bool) → eqb a 48 ≡ z → 48 ≤ a → a ≤ 57 → Field (a ∷ []) (a - 48)
    by true e k l = rw (eqb-true a 48 e) f_zero
    by false e k l = f_one {a = a} (omega (arith, eqb-false a 48 e)) l

two_digits : (x a b : ℕ) → eqb x 120 && (has_tens a && is_digit_byte b) ≡ true → XForm (x ∷ a ∷ b ∷ []) ((a - 48) * 10 + (b - 48))
two_digits x a b h =
    let p = both (eqb x 120) (has_tens a && is_digit_byte b) h in
    let q = both (has_tens a) (is_digit_byte b) p.1 in
    let d = is_tens a q.0 in
    let e = is_digit b q.1 in
    rw (eqb-true x 120 p.0) (x_form (f_two d.0 d.1 e.0 e.1))

x_begun : (s : List ℕ) → does_x_begin s ≡ true → (w : List ℕ) × (n : ℕ) × XForm (s ++ w) n
unfolding does_x_begin
x_begun [] h = (120 ∷ 48 ∷ [], 0, x_form f_zero)
x_begun (x ∷ []) h = (48 ∷ [], 0, rw (eqb-true x 120 h) (x_form f_zero))
x_begun (x ∷ a ∷ []) h = ([], a - 48, one_digit x a h)
x_begun (x ∷ a ∷ b ∷ []) h = ([], (a - 48) * 10 + (b - 48), two_digits x a b h)
x_begun (x ∷ a ∷ b ∷ c ∷ s) h = absurd (true≢false (sym h))

-- what begins an x form, cut
tens_digit : (x a : ℕ) (y : Bool) → eqb x 120 && (has_tens a && y) ≡ true → eqb x 120 && is_digit_byte a ≡ true
tens_digit x a y h =
    let p = both (eqb x 120) (has_tens a && y) h in
    let d = is_tens a (both (has_tens a) y p.1).0 in
    all_true (eqb x 120) (is_digit_byte a) p.0 (digit_true a (omega (arith, d.0)) d.1)

x_prefix : (s w : List ℕ) → does_x_begin (s ++ w) ≡ true → does_x_begin s ≡ true
unfolding does_x_begin
x_prefix [] w h = refl
x_prefix (x ∷ []) [] h = h
x_prefix (x ∷ []) (a ∷ []) h = (both (eqb x 120) (is_digit_byte a) h).0
x_prefix (x ∷ []) (a ∷ b ∷ []) h = (both (eqb x 120) (has_tens a && is_digit_byte b) h).0
x_prefix (x ∷ []) (a ∷ b ∷ c ∷ w) h = absurd (true≢false (sym h))
x_prefix (x ∷ a ∷ []) [] h = h
x_prefix (x ∷ a ∷ []) (b ∷ []) h = tens_digit x a (is_digit_byte b) h
x_prefix (x ∷ a ∷ []) (b ∷ c ∷ w) h = absurd (true≢false (sym h))
x_prefix (x ∷ a ∷ b ∷ []) [] h = h
x_prefix (x ∷ a ∷ b ∷ []) (c ∷ w) h = absurd (true≢false (sym h))
x_prefix (x ∷ a ∷ b ∷ c ∷ s) w h = absurd (true≢false (sym h))

x_spells_begins : {s : List ℕ} {n : ℕ} → XForm s n → does_x_begin s ≡ true
unfolding does_x_begin
x_spells_begins (x_form f_zero) = refl
x_spells_begins (x_form (f_one {a = a} g h)) = digit_true a (omega arith) h
x_spells_begins (x_form (f_two {a = a} {b = b} g h i j)) = all_true (has_tens a) (is_digit_byte b) (tens_true a g h) (digit_true b i j)

unspelt≢field : {n : ℕ} → unspelt ≡ field n → ⊥
unspelt≢field e = let z : ◌≡◌ {A = ℕ} 0 1 = cc in omega arith

field_same : {m n : ℕ} → field m ≡ field n → m ≡ n
field_same e = cc

if_field : (c : Bool) (s : List ℕ) (m n : ℕ) → (c ≡ true → XForm s m) → cond c (field m) unspelt ≡ field n → XForm s n
if_field true s m n f e = rw (← (field_same e)) (f refl)
if_field false s m n f e = absurd (unspelt≢field e)

x_spelt : (s : List ℕ) (n : ℕ) → is_x_whole s ≡ field n → XForm s n
unfolding is_x_whole
x_spelt [] n e = absurd (unspelt≢field e)
x_spelt (x ∷ []) n e = absurd (unspelt≢field e)
x_spelt (x ∷ a ∷ []) n e = if_field (eqb x 120 && is_digit_byte a) (x ∷ a ∷ []) (a - 48) n (one_digit x a) e
x_spelt (x ∷ a ∷ b ∷ []) n e = if_field (eqb x 120 && (has_tens a && is_digit_byte b)) (x ∷ a ∷ b ∷ []) ((a - 48) * 10 + (b - 48)) n (two_digits x a b) e
x_spelt (x ∷ a ∷ b ∷ c ∷ s) n e = absurd (unspelt≢field e)

x_whole : {s : List ℕ} {n : ℕ} → XForm s n → is_x_whole s ≡ field n
unfolding is_x_whole
x_whole (x_form f_zero) = refl
x_whole (x_form (f_one {a = a} g h)) = ap (λ (c : Bool). cond c (field (a - 48)) unspelt) (digit_true a (omega arith) h)
x_whole (x_form (f_two {a = a} {b = b} g h i j)) =
    ap (λ (c : Bool). cond c (field ((a - 48) * 10 + (b - 48))) unspelt) (all_true (has_tens a) (is_digit_byte b) (tens_true a g h) (digit_true b i j))

x_some : {s : List ℕ} {n : ℕ} → XForm s n → s ≡ [] → ⊥
x_some (x_form g) e = omega (arith, ap length e)

-- a byte that makes an x form longer is a digit
x_digit : (x : ℕ) (s : List ℕ) (b : ℕ) → does_x_begin (x ∷ (s ++ (b ∷ []))) ≡ true → Digit b
unfolding does_x_begin
x_digit x [] b h = is_digit b (both (eqb x 120) (is_digit_byte b) h).1
x_digit x (a ∷ []) b h = is_digit b (both (has_tens a) (is_digit_byte b) (both (eqb x 120) (has_tens a && is_digit_byte b) h).1).1
x_digit x (a ∷ c ∷ []) b h = absurd (true≢false (sym h))
x_digit x (a ∷ c ∷ d ∷ s) b h = absurd (true≢false (sym h))

x_letter : (b : ℕ) → does_x_begin (b ∷ []) ≡ true → Letter b
unfolding does_x_begin
x_letter b h = let e = eqb-true b 120 h in (omega arith, omega arith)

x_word : (s : List ℕ) (b : ℕ) → does_x_begin (s ++ (b ∷ [])) ≡ true → Letter b ⊎ Digit b
x_word [] b h = inl (x_letter b h)
x_word (x ∷ s) b h = inr (x_digit x s b h)

pub x_lawful : Lawful x_forms
unfolding does_x_begin
x_lawful = record {
  begun = x_begun;
  begins = λ s w n g. x_prefix s w (x_spells_begins g);
  spelt = x_spelt;
  whole = λ s n g. x_whole g;
  some = λ n g. x_some g refl;
  letter = x_letter;
  starts = λ b s n g. x_prefix (b ∷ []) s (x_spells_begins g);
  starts_letter = x_letter;
  word = x_word;
}

-- N as its bytes give it, before a byte that is no digit
pub number_field : {f : List ℕ} {n : ℕ} (c : ℕ) (s : List ℕ) → is_digit_byte c ≡ false → Field f n → field_number (f ++ (c ∷ s)) ≡ n
unfolding field_number
number_field c s h f_zero = ap (λ (b : Bool). cond b (0 * 10 + (c - 48)) 0) h
number_field c s h (f_one {a = a} g k) = ap (λ (b : Bool). cond b ((a - 48) * 10 + (c - 48)) (a - 48)) h
number_field c s h (f_two {a = a} {b = b} g k i j) = simp (le-leb 48 b i, le-leb b 57 j)

x_here : (k : ℕ) {s : List ℕ} {n : ℕ} (c : ℕ) (r : List ℕ) → XForm s n → (c ≡ 61) ⊎ (c ≡ 58) → is_no_field k (s ++ (c ∷ r)) ≡ leb k n
unfolding is_no_field
x_here k c r (x_form g) (inl e) = rw e (ap (leb k) (number_field 61 r refl g))
x_here k c r (x_form g) (inr e) = rw e (ap (leb k) (number_field 58 r refl g))

pub x_bounds : (k : ℕ) → Bounds x_forms k
unfolding is_no_field does_x_begin
x_bounds k = record {
  here = λ s n c r g e. x_here k c r g e;
  inner = λ a s b r h. let d = x_digit a s b h in ap (λ (z : Bool). z && leb k (field_number r)) (ne_eqb b 120 (λ e. omega (arith, d.1)));
  elsewhere = λ b r h. ap (λ (z : Bool). z && leb k (field_number r)) h;
}

-- the states that `read_field` goes through
pub zero_whole : is_x_whole (120 ∷ 48 ∷ []) ≡ field 0
unfolding is_x_whole
zero_whole = refl

pub one_whole : (a : ℕ) → is_digit_byte a ≡ true → is_x_whole (120 ∷ a ∷ []) ≡ field (a - 48)
unfolding is_x_whole
one_whole a h = ap (λ (c : Bool). cond c (field (a - 48)) unspelt) h

pub two_whole : (a b : ℕ) → has_tens a ≡ true → is_digit_byte b ≡ true → is_x_whole (120 ∷ a ∷ b ∷ []) ≡ field ((a - 48) * 10 + (b - 48))
unfolding is_x_whole
two_whole a b h k = ap (λ (c : Bool). cond c (field ((a - 48) * 10 + (b - 48))) unspelt) (all_true (has_tens a) (is_digit_byte b) h k)

-- a byte that is no digit makes no x form of one digit longer
pub one_closed : (a c : ℕ) → is_digit_byte c ≡ false → does_x_begin (120 ∷ a ∷ c ∷ []) ≡ false
unfolding does_x_begin
one_closed a c h = ap (λ (z : Bool). has_tens a && z) h ∙ and-false (has_tens a)
