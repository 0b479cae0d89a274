-- The index turned to other nodes: emptied, then entered node after node; the store is the same with either kind's nodes taken first.
use mathlib.Core.Path.{◌≡◌, refl, ◌∙◌, subst}
use mathlib.Core.List.{List}
use Prim.Native.Nat.{ℕ, ◌+◌}
use lib.ListN.{take, drop}
use Rattle.model.specs.Store.{Kind, set, rel, Store}
use Rattle.memory.specs.Performing.{other}
use Rattle.memory.specs.Finding.{IndexApart, Emptied}
use Rattle.memory.specs.Rows.{row, plain}
use Rattle.memory.specs.Working.{memo_size, Indexed, index_size}
use Rattle.memory.proofs.Starting.{right_indexed}
use Rattle.store_check.specs.Reindexing.{Reindexed}

-- all but the index stays
apart_then : {w₀ w w' : List ℕ} → IndexApart w₀ w → IndexApart w w' → IndexApart w₀ w'
apart_then {w = w} {w' = w'} A E = record {
  memo = subst (λ l. take (memo_size l) w' ≡ take (memo_size l) w) A.work_length E.memo ∙ A.memo;
  words = subst (λ l. drop (memo_size l + index_size) w' ≡ drop (memo_size l + index_size) w) A.work_length E.words ∙ A.words;
  work_length = E.work_length ∙ A.work_length;
}

-- the index is of the first i nodes; w₀ is the working memory as the loop over them found it
pub record Entering (node : ℕ → List ℕ) (w₀ w : List ℕ) (i : ℕ) : Type 0 where
  pub index : Indexed node w i
  pub apart : IndexApart w₀ w

turned : (K : Kind) (B : Store) (m o : List ℕ) (n j : ℕ) → plain K (plain (other K) B o j) m n ≡ plain (other K) (plain K B m n) o j
turned set B m o n j = refl
turned rel B m o n j = refl

pub entered_all : {c n i : ℕ} {m w w₀ w' : List ℕ} → Emptied w w₀ → Entering (row c m) w₀ w' i → i ≡ n → Reindexed c n m w w'
entered_all {c} {n} {i} {m} {w} {w₀} {w'} E A q = record {
  right = λ K B o j e R. right_indexed (turned K B m o n j) R
      (subst (λ c. Indexed (row c m) w' n) e (subst (λ i. Indexed (row c m) w' i) q A.index)) all_else;
  work_length = all_else.work_length;
}
  where
    all_else : IndexApart w w'
    all_else = apart_then E.apart A.apart
