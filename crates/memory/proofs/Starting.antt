-- Working memory at the start: cleared it is right for any well-formed store, and with another index it is right for the nodes that this is of.
use mathlib.Core.Path.{◌≡◌, refl, sym, subst, ◌∙◌}
use mathlib.Core.List.{List}
use Prim.Native.Nat.{ℕ, zero, suc, ◌+◌, ◌*◌, ◌<◌, ◌≤◌}
use native.Mathlib.Omega.{arith}
use lib.ListN.{length, get_or, replicate}
use Rattle.model.specs.Store.{Kind, arity, Store, nodes, handle_of}
use Rattle.model.specs.WellFormed.{WellFormed}
use Rattle.memory.specs.Rows.{row, plain}
use Rattle.memory.specs.Finding.{IndexApart, Emptied}
use Rattle.memory.specs.Working.{memo_size, words_at, last_in, Indexed, Known, Entry, Right}
use Rattle.memory.proofs.Known.{known_nothing}
use Rattle.memory.proofs.Parts.{words_same, entry_same}

-- a store that is the same with other nodes taken for its own, which the index is then of
pub right_indexed : {J K : Kind} {B C : Store} {w w' m m' : List ℕ} {n n' : ℕ} → plain J C m' n' ≡ plain K B m n
    → Right K B w m n → Indexed (row (arity J) m') w' n' → IndexApart w w' → Right J C w' m' n'
right_indexed {J} {K} {B} {C} {w} {w'} {m} {m'} {n} {n'} e R X E = record {
  fields = R.fields;
  formed = subst (WellFormed R.fields) (sym e) R.formed;
  memo = λ j f.
      let g : 2 * j + 1 < memo_size (length w) = subst (λ k. 2 * j + 1 < memo_size k) E.work_length f in
      entry_same w w' (plain J C m' n') E.memo j g (subst (λ S. Entry (get_or w (2 * j) 0) (get_or w (2 * j + 1) 0) S) (sym e) (R.memo j g));
  index = X;
  words = λ I i a b.
      subst (λ v. Known I (plain J C m' n') (handle_of I 0 i) v) (sym (words_same w w' E.work_length E.words I i))
      (subst (λ S. Known I S (handle_of I 0 i) (get_or w (words_at I (length w) + i) 0)) (sym e)
      (R.words I i a (subst (λ S. i < length (nodes I S)) e b)));
  unset = λ I i a b. words_same w w' E.work_length E.words I i ∙ R.unset I i (subst (λ S. length (nodes I S) ≤ i) e a) b;
}

-- with none of the other nodes yet
pub right_turned : {J K : Kind} {B C : Store} {w w' m m' : List ℕ} {n : ℕ} → plain J C m' 0 ≡ plain K B m n
    → Right K B w m n → Emptied w w' → Right J C w' m' 0
right_turned {J} {m' = m'} e R E = right_indexed e R (E.index (row (arity J) m')) E.apart

zero_at : (n i : ℕ) → ◌≡◌ {A = ℕ} (get_or (replicate n 0) i 0) 0
zero_at zero i = refl
zero_at (suc n) zero = refl
zero_at (suc n) (suc i) = zero_at n i

pub right_cleared : {K : Kind} {B : Store} {m : List ℕ} (n k : ℕ) → WellFormed k (plain K B m 0) → Right K B (replicate n 0) m 0
unfolding Entry last_in
right_cleared {K} {B} {m} n k F = record {
  fields = k;
  formed = F;
  memo = λ j f p. absurd (let z : ⊥ = omega (arith, zero_at n (2 * j + 1)) in z);
  index = λ f. record { heads = λ b l. zero_at n (memo_size (length (replicate n 0)) + b); links = λ i l. absurd (let z : ⊥ = omega arith in z) };
  words = λ J i a b. known_nothing _ (zero_at n (words_at J (length (replicate n 0)) + i));
  unset = λ J i a b. zero_at n (words_at J (length (replicate n 0)) + i);
}
