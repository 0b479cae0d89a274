-- The x forms, `x` and a number N: the lexicon of document 01.
use Rattle.std.specs.Prelude.{ℕ, ◌≤◌, ◌+◌, ◌-◌, ◌*◌, List, [], ◌∷◌, Bool, true, false, cond, ◌&&◌, leb, eqb}
use Rattle.policy_text.specs.Lexicon.{Whole, unspelt, field, Lexicon}

-- N: "one or two decimal digits without a leading zero"
pub data Field : List ℕ → ℕ → Type 0 where
  f_zero : Field (48 ∷ []) 0
  f_one : {a : ℕ} → 49 ≤ a → a ≤ 57 → Field (a ∷ []) (a - 48)
  f_two : {a b : ℕ} → 49 ≤ a → a ≤ 57 → 48 ≤ b → b ≤ 57 → Field (a ∷ b ∷ []) ((a - 48) * 10 + (b - 48))

-- `x` and N
pub data XForm : List ℕ → ℕ → Type 0 where
  x_form : {f : List ℕ} {n : ℕ} → Field f n → XForm (120 ∷ f) n

abbrev pub is_digit_byte : ℕ → Bool
is_digit_byte b = leb 48 b && leb b 57

-- a digit that another may follow
abbrev pub has_tens : ℕ → Bool
has_tens b = leb 49 b && leb b 57

unfoldable pub does_x_begin : List ℕ → Bool
does_x_begin [] = true
does_x_begin (x ∷ []) = eqb x 120
does_x_begin (x ∷ a ∷ []) = eqb x 120 && is_digit_byte a
does_x_begin (x ∷ a ∷ b ∷ []) = eqb x 120 && (has_tens a && is_digit_byte b)
does_x_begin (x ∷ a ∷ b ∷ c ∷ s) = false

unfoldable pub is_x_whole : List ℕ → Whole
is_x_whole [] = unspelt
is_x_whole (x ∷ []) = unspelt
is_x_whole (x ∷ a ∷ []) = cond (eqb x 120 && is_digit_byte a) (field (a - 48)) unspelt
is_x_whole (x ∷ a ∷ b ∷ []) = cond (eqb x 120 && (has_tens a && is_digit_byte b)) (field ((a - 48) * 10 + (b - 48))) unspelt
is_x_whole (x ∷ a ∷ b ∷ c ∷ s) = unspelt

-- N, one or two digits
unfoldable pub field_number : List ℕ → ℕ
field_number [] = 0
field_number (a ∷ []) = a - 48
field_number (a ∷ b ∷ s) = cond (is_digit_byte b) ((a - 48) * 10 + (b - 48)) (a - 48)

-- `x` before an N that is k or more
unfoldable pub is_no_field : ℕ → List ℕ → Bool
is_no_field k [] = false
is_no_field k (b ∷ s) = eqb b 120 && leb k (field_number s)

abbrev pub x_forms : Lexicon
x_forms = record { Spells = XForm; does_begin = does_x_begin; is_whole = is_x_whole; does_start = λ b. eqb b 120; is_outside = is_no_field }
