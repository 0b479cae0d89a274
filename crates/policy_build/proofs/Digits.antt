-- A field's number is read from its digits: there are none, one or two of them.
use mathlib.Core.Path.{◌≡◌, sym, ap, ◌∙◌}
use mathlib.Core.List.{List, ◌++◌}
use mathlib.Core.Bool.{Bool, true, false}
use Prim.Native.Nat.{ℕ, ◌+◌, ◌-◌, ◌*◌, ◌≤◌, ◌<◌}
use native.Mathlib.Omega.{arith}
use lib.ListN.{length, get_or, drop}
use Rattle.memory.proofs.Steps.{false≢true}
use Rattle.policy_text.specs.Lexicon.{Digit}
use Rattle.policy_text.specs.XForms.{Field, f_zero, f_one, f_two, is_digit_byte}
use Rattle.policy_text.proofs.XLaws.{is_digit as digit-is, digit_true}
use Rattle.policy_build.specs.Items.{ReadsNumber}
use Rattle.policy_build.specs.declared.items.Number.{Number}
use Rattle.policy_build.proofs.Suffixes.{first_of, first_is, next}

-- a byte that is a digit, and one that is not, by what a test said
pub is_digit : {r : Bool} (b : ℕ) → r ≡ is_digit_byte b → r ≡ true → Digit b
is_digit b e f = digit-is b (sym e ∙ f)

pub no_digit : {r : Bool} (b : ℕ) → r ≡ is_digit_byte b → r ≡ false → ¬ Digit b
no_digit b e f d = false≢true (sym f ∙ e ∙ digit_true b d.0 d.1)

abbrev number : ℕ → ℕ → Number
number v e = record { value = v; end = e }

module _ {t : List ℕ} {at : ℕ} where
  pub reads_none : at ≤ length t → ¬ Digit (get_or t at 0) → ReadsNumber t at (number 0 at)
  reads_none l n = record { from = omega arith; within = l; reads = λ rest F h x. absurd (n (go rest F h)) }
    where
      go : {f : List ℕ} {n : ℕ} (rest : List ℕ) → Field f n → drop at t ≡ f ++ rest → Digit (get_or t at 0)
      go rest f_zero h = let e = first_is t at h in (omega (arith, e), omega (arith, e))
      go rest (f_one a b) h = let e = first_is t at h in (omega (arith, e, a), omega (arith, e, b))
      go rest (f_two a b c d) h = let e = first_is t at h in (omega (arith, e, a), omega (arith, e, b))

  pub reads_one : {v : ℕ} → at + 1 ≤ length t → v ≡ get_or t at 0 - 48 → ¬ Digit (get_or t (at + 1) 0) → ReadsNumber t at (number v (at + 1))
  reads_one {v} l q n = record { from = omega arith; within = l; reads = λ rest F h x. go rest F h }
    where
      go : {f : List ℕ} {n : ℕ} (rest : List ℕ) → Field f n → drop at t ≡ f ++ rest → (v ≡ n) × (drop (at + 1) t ≡ rest)
      go rest f_zero h = let e = first_is t at h in (omega (arith, e, q), next t at h)
      go rest (f_one x y) h = let e = first_is t at h in (q ∙ ap (λ z. z - 48) e, next t at h)
      go rest (f_two x y c d) h = let e = first_is t (at + 1) (next t at h) in absurd (n (omega (arith, e, c), omega (arith, e, d)))

  pub reads_two : {v : ℕ} → at + 1 + 1 ≤ length t → v ≡ (get_or t at 0 - 48) * 10 + (get_or t (at + 1) 0 - 48) → Digit (get_or t (at + 1) 0)
      → ReadsNumber t at (number v (at + 1 + 1))
  reads_two {v} l q n = record { from = omega arith; within = l; reads = λ rest F h x. go rest F h x }
    where
      go : {f : List ℕ} {n : ℕ} (rest : List ℕ) → Field f n → drop at t ≡ f ++ rest → 57 < get_or rest 0 0 → (v ≡ n) × (drop (at + 1 + 1) t ≡ rest)
      go rest f_zero h x = let e = first_of t (at + 1) (next t at h) in absurd (omega (arith, e, x, n.1))
      go rest (f_one a b) h x = let e = first_of t (at + 1) (next t at h) in absurd (omega (arith, e, x, n.1))
      go rest (f_two {a = i} {b = j} a b c d) h x = let e = next t at h in (
        q ∙ ap (λ z. (z - 48) * 10 + (get_or t (at + 1) 0 - 48)) (first_is t at h) ∙ ap (λ z. (i - 48) * 10 + (z - 48)) (first_is t (at + 1) e),
        next t (at + 1) e,
      )
