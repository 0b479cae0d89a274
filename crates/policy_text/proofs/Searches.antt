-- The first place that a search finds: it passes the test, and none before it does; from the definition.
use mathlib.Core.Path.{◌≡◌, refl, sym, ap, ◌∙◌}
use Prim.Native.Nat.{ℕ, zero, suc, ◌+◌, ◌<◌}
use native.Mathlib.Omega.{arith}
use native.Mathlib.Nat.{zero-add}
use native.Mathlib.Decide.{dec_lt}
use mathlib.Core.List.{List, [], ◌∷◌, append-nil}
use mathlib.Core.Bool.{Bool, true, false, cond, not, ◌&&◌, true≢false}
use lib.ListN.{length, drop}
use Rattle.policy_text.specs.Reading.{first}
use Rattle.std.specs.Prelude.{Option, Some, None}
use Rattle.policy_text.proofs.Counts.{none}

-- the first place that passes a test
pub record FirstAt (P : List ℕ → Bool) (t : List ℕ) (m : ℕ) : Type 0 where
  pub inside : m < length t
  pub here : P (drop m t) ≡ true
  pub before : (j : ℕ) → j < m → P (drop j t) ≡ false
  pub some : none P t [] ≡ false

unfoldable pub FirstOf : (List ℕ → Bool) → ℕ → List ℕ → Option ℕ → Type 0
FirstOf P i t None = none P t [] ≡ true
FirstOf P i t (Some j) = (m : ℕ) × (j ≡ i + m) × FirstAt P t m

none_cons : (P : List ℕ → Bool) (b : ℕ) (s : List ℕ) → none P (b ∷ s) [] ≡ not (P (b ∷ s)) && none P s []
unfolding none
none_cons P b s = ap (λ (w : List ℕ). not (P (b ∷ w)) && none P s []) (append-nil s)

none_later : (P : List ℕ → Bool) (b : ℕ) (s : List ℕ) → P (b ∷ s) ≡ false → none P (b ∷ s) [] ≡ none P s []
none_later P b s e = none_cons P b s ∙ ap (λ (x : Bool). not x && none P s []) e

first_of_later : (P : List ℕ → Bool) (i b : ℕ) (s : List ℕ) → P (b ∷ s) ≡ false → (f : Option ℕ) → FirstOf P (i + 1) s f → FirstOf P i (b ∷ s) f
unfolding FirstOf
first_of_later P i b s e None h = none_later P b s e ∙ h
first_of_later P i b s e (Some j) (m, k, h) = (
  suc m,
  omega arith,
  record { inside = (let l = h.inside in omega arith); here = h.here; before = before; some = none_later P b s e ∙ h.some },
)
  where
    before : (l : ℕ) → l < suc m → P (drop l (b ∷ s)) ≡ false
    before zero g = e
    before (suc l) g = h.before l (omega arith)

pub first_of : (P : List ℕ → Bool) (i : ℕ) (t : List ℕ) → FirstOf P i t (first P i t)
unfolding first FirstOf none
first_of P i [] = refl
first_of P i (b ∷ s) = by (P (b ∷ s)) refl (first_of P (i + 1) s)
  where
    by : (x : Bool) → P (b ∷ s) ≡ x → FirstOf P (i + 1) s (first P (i + 1) s) → FirstOf P i (b ∷ s) (cond x (Some i) (first P (i + 1) s))
    by true e h = (
      0,
      omega arith,
      record {
        inside = omega arith;
        here = e;
        before = λ j l. absurd (omega arith);
        some = none_cons P b s ∙ ap (λ (x : Bool). not x && none P s []) e;
      },
    )
    by false e h = first_of_later P i b s e (first P (i + 1) s) h

pub first_nowhere : (P : List ℕ → Bool) (t : List ℕ) → none P t [] ≡ true → first P 0 t ≡ None
unfolding FirstOf
first_nowhere P t h = by (first P 0 t) (first_of P 0 t)
  where
    by : (f : Option ℕ) → FirstOf P 0 t f → f ≡ None
    by None x = refl
    by (Some j) x = absurd (true≢false (sym h ∙ x.2.some))

-- there is one first place
one_first : (P : List ℕ → Bool) (t : List ℕ) (i j : ℕ) → FirstAt P t i → FirstAt P t j → i ≡ j
one_first P t i j f g = by (dec_lt i j) (dec_lt j i)
  where
    by : Dec (i < j) → Dec (j < i) → i ≡ j
    by (yes h) d = absurd (true≢false (sym f.here ∙ g.before i h))
    by (no h) (yes l) = absurd (true≢false (sym g.here ∙ f.before j l))
    by (no h) (no l) = omega arith

pub first_is : (P : List ℕ → Bool) (t : List ℕ) (i : ℕ) → FirstAt P t i → first P 0 t ≡ Some i
unfolding FirstOf
first_is P t i f = by (first P 0 t) (first_of P 0 t)
  where
    by : (x : Option ℕ) → FirstOf P 0 t x → x ≡ Some i
    by None n = absurd (true≢false (sym n ∙ f.some))
    by (Some j) n = ap Some (n.1 ∙ zero-add n.0 ∙ one_first P t n.0 i n.2 f)
