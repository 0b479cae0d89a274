-- The first line of a text, up to the first newline or the end, and the lines after it. From `lines`, byte by byte.
use mathlib.Core.Path.{◌≡◌, refl, sym, ap, ◌∙◌}
use mathlib.Core.Bool.{cond, not}
use mathlib.Core.List.{List, [], ◌∷◌, ◌++◌}
use Prim.Native.Nat.{ℕ, suc, ◌+◌, ◌<◌, ◌≤◌}
use native.Mathlib.Omega.{arith}
use native.Mathlib.Numerals.{one-add}
use lib.Dec.{eqb, ltb}
use lib.ListN.{length, get_or, take, drop, get_or-append, get_or-eq_default}
use lib.Seq.{drop-append_seam}
use borrow.Author.Tests.{ltb-true, ltb-false}
use Rattle.std.specs.List.{position_or_len, IsFirstMatchOrLen}
use Rattle.std.specs.Prelude.{min}
use Rattle.std.proofs.lemmas.List.{take-append-le, drop_min}
use Rattle.std.proofs.lemmas.List.Sums.{position_or_len_is}
use Rattle.model.proofs.Bools.{by_test, no_true}
use Rattle.listing.specs.Lines.{onto, lines}

-- how long the first line is
abbrev pub first_length : List ℕ → ℕ
first_length t = position_or_len (λ b. eqb b 10) t

-- a byte that is no newline, before a text
onto_first : (b : ℕ) (t : List ℕ) → onto b (lines t) ≡ (b ∷ take (first_length t) t) ∷ lines (drop (suc (first_length t)) t)
unfolding onto lines
onto_first b [] = refl
onto_first b (c ∷ s) =
    by_test
    (λ x. onto b (cond x ([] ∷ lines s) (onto c (lines s)))
    ≡ (b ∷ take (cond (not x) (1 + first_length s) 0) (c ∷ s)) ∷ lines (drop (suc (cond (not x) (1 + first_length s) 0)) (c ∷ s)))
    (eqb c 10)
    (λ e. refl)
    (λ e. ap (onto b) (onto_first c s)
    ∙ ap (λ (n : ℕ). (b ∷ take n (c ∷ s)) ∷ lines (drop (suc n) (c ∷ s))) (sym (one-add (first_length s))))

first_of : (b : ℕ) (t : List ℕ) → lines (b ∷ t) ≡ take (first_length (b ∷ t)) (b ∷ t) ∷ lines (drop (suc (first_length (b ∷ t))) (b ∷ t))
unfolding onto lines
first_of b t =
    by_test
    (λ x. cond x ([] ∷ lines t) (onto b (lines t))
    ≡ take (cond (not x) (1 + first_length t) 0) (b ∷ t) ∷ lines (drop (suc (cond (not x) (1 + first_length t) 0)) (b ∷ t)))
    (eqb b 10)
    (λ e. refl)
    (λ e. onto_first b t ∙ ap (λ (n : ℕ). take n (b ∷ t) ∷ lines (drop (suc n) (b ∷ t))) (sym (one-add (first_length t))))

-- a text that is not at its end
pub some_line : (t : List ℕ) (n : ℕ) → 0 < length t → n ≡ first_length t → lines t ≡ take n t ∷ lines (drop (suc n) t)
some_line [] n some e = absurd (omega arith)
some_line (b ∷ t) n some e = first_of b t ∙ ap (λ (i : ℕ). take i (b ∷ t) ∷ lines (drop (suc i) (b ∷ t))) (sym e)

-- a place where a text has its first newline, or its length where it has none
module _ (t : List ℕ) {i : ℕ} (first : IsFirstMatchOrLen (λ b. eqb b 10) t i) where
  most : i ≤ length t
  most = by_test (λ _. i ≤ length t) (ltb (length t) i)
      (λ e. absurd (no_true (first.0 (length t) 10 (omega arith) (ltb-true (length t) i e))
      (ap (λ (b : ℕ). eqb b 10) (get_or-eq_default t 10 {n = length t} (omega arith)))))
      (λ e. ltb-false (length t) i e)

  first_is : i ≡ first_length t
  first_is = sym (position_or_len_is (λ b. eqb b 10) t i 0 most (λ k below. first.0 k 0 (omega arith) below) (λ inside. first.1 inside 0))

-- THE NEXT LINE of the text t: the piece x is that line and its newline, where it has one, and the text r comes after it
module _ {t : List ℕ} (x r : List ℕ) {i : ℕ} (cut : t ≡ x ++ r) (long : length x ≡ min (i + 1) (length t))
    (first : IsFirstMatchOrLen (λ b. eqb b 10) t i)
  where
    within : i ≤ length x
    within = omega (arith, most t first, long)

    same_byte : (k : ℕ) → k < length x → get_or x k 0 ≡ get_or t k 0
    same_byte k h = sym (ap (λ (l : List ℕ). get_or l k 0) cut ∙ get_or-append x r 0 k h)

    -- the piece has its first newline where the text has it
    piece_length : first_length x ≡ i
    piece_length = position_or_len_is (λ b. eqb b 10) x i 0 within
        (λ k below. ap (λ (b : ℕ). eqb b 10) (same_byte k (omega (arith, within, below))) ∙ first.0 k 0 (omega arith) below)
        (λ inside. ap (λ (b : ℕ). eqb b 10) (same_byte i inside) ∙ first.1 (omega (arith, inside, long)) 0)

    after : drop (suc i) t ≡ r
    after =
        let next : suc i ≡ i + 1 = omega arith in
        ap (λ (k : ℕ). drop k t) next ∙ (sym (drop_min (i + 1) t) ∙ (ap (λ (k : ℕ). drop k t) (sym long) ∙ (ap (λ (l : List ℕ). drop (length x) l) cut
        ∙ drop-append_seam x r)))

    before : take i t ≡ take i x
    before = ap (λ (l : List ℕ). take i l) cut ∙ take-append-le i x r within

    pub next_line : {n : ℕ} → 0 < length t → n ≡ first_length x → lines t ≡ take n x ∷ lines r
    next_line {n} some is =
        some_line t i some (first_is t first)
        ∙ λ j. (before ∙ ap (λ (k : ℕ). take k x) (sym (is ∙ piece_length))) j ∷ lines (after j)
