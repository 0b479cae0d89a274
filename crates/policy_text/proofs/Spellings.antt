-- What a lexicon's laws say of the bytes of a spelling.
use mathlib.Core.Path.{◌≡◌, refl}
use mathlib.Core.Logic.{◌⊎◌, inl, inr}
use Prim.Native.Nat.{ℕ, ◌<◌}
use native.Mathlib.Omega.{arith}
use mathlib.Core.List.{List, [], ◌∷◌, ◌++◌, append_assoc, append-nil}
use mathlib.Core.Bool.{Bool, true, false}
use Rattle.policy_text.specs.Lexicon.{Lexicon, Digit, Letter, Lawful}

-- a byte that a spelling has: no sign of the grammar
pub word_above : {b : ℕ} → Letter b ⊎ Digit b → 42 < b
word_above (inl h) = omega (arith, h.0)
word_above (inr h) = omega (arith, h.0)

pub word_not : {b : ℕ} → Letter b ⊎ Digit b → (b ≡ 61) ⊎ (b ≡ 58) → ⊥
word_not (inl h) (inl e) = omega (arith, h.0)
word_not (inl h) (inr e) = omega (arith, h.0)
word_not (inr h) (inl e) = omega (arith, h.1)
word_not (inr h) (inr e) = omega (arith, h.1)

pub word_no_full : {b : ℕ} → Letter b ⊎ Digit b → b ≡ 84 → ⊥
word_no_full (inl h) e = omega (arith, h.0)
word_no_full (inr h) e = omega (arith, h.1)

module _ {X : Lexicon} (laws : Lawful X) where
  -- what begins a spelling, cut
  pub prefix : (s w : List ℕ) → X.does_begin (s ++ w) ≡ true → X.does_begin s ≡ true
  prefix s w h = let u = laws.begun (s ++ w) h in laws.begins s (w ++ u.0) u.1 (rw (← (append_assoc s w u.0)) u.2)

  pub whole_begins : (s : List ℕ) (n : ℕ) → X.Spells s n → X.does_begin s ≡ true
  whole_begins s n g = laws.begins s [] n (rw append-nil g)

  -- `=` and `:` make no spelling longer
  pub not_before : (s : List ℕ) (c : ℕ) → (c ≡ 61) ⊎ (c ≡ 58) → X.does_begin (s ++ (c ∷ [])) ≡ false
  not_before s c e = by (X.does_begin (s ++ (c ∷ []))) refl
    where
      by : (x : Bool) → X.does_begin (s ++ (c ∷ [])) ≡ x → x ≡ false
      by true h = absurd (word_not (laws.word s c h) e)
      by false h = refl

  -- a byte that is no letter begins no spelling
  pub no_letter : (b : ℕ) → (Letter b → ⊥) → X.does_begin (b ∷ []) ≡ false
  no_letter b h = by (X.does_begin (b ∷ [])) refl
    where
      by : (x : Bool) → X.does_begin (b ∷ []) ≡ x → x ≡ false
      by true e = absurd (h (laws.letter b e))
      by false e = refl
