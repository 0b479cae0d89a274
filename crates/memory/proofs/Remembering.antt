-- The working memory stays right: where the memo keeps the answer of a finished run, and where a number outside a part changes.
-- a part of the working memory goes by its own numbers
use mathlib.Core.Path.{◌≡◌, refl, sym, ap, ◌∙◌, subst}
use mathlib.Core.Logic.{inl, inr}
use mathlib.Core.List.{List}
use mathlib.Core.Bool.{true}
use Rattle.std.specs.Prelude.{Option, Some, None}
use Prim.Native.Nat.{ℕ, ◌+◌, ◌*◌, ◌<◌, ◌≤◌}
use native.Mathlib.Nat.{add_assoc}
use lib.ListN.{length, get_or, drop}
use Rattle.model.specs.Programs.{Prog, ret, Ran, run}
use Rattle.model.specs.Safety.{Safe, Settled}
use Rattle.model.specs.Store.{Kind, set, rel, Store, handle_of}
use Rattle.model.proofs.Settle.{settled}
use Rattle.memory.specs.declared.Lookup.{Lookup}
use Rattle.memory.specs.Performing.{RunState, ended, Ready, Condition, PerformsOn, ReducesOn, LooksUpOn, Recalls, lookup, LooksIn, KeepsEntry, Remembered}
use Rattle.memory.specs.Memo.{memo_program}
use Rattle.memory.specs.Rows.{plain}
use Rattle.memory.specs.Working.{memo_size, links_at, words_at, Indexed, Known, Entry, Remembers, index_size, set_words_from, part_size}
use Rattle.memory.proofs.Entries.{says_entry}
use Rattle.memory.proofs.Parts.{drop_at_same}
use Rattle.memory.proofs.Steps.{was_ok, done_ran, turn, called, answer}

-- index and words are behind the memo
module _ (w w' : List ℕ) (long : length w' ≡ length w) (rest : drop (memo_size (length w)) w' ≡ drop (memo_size (length w)) w) where
  behind : (i : ℕ) → get_or w' (memo_size (length w') + i) 0 ≡ get_or w (memo_size (length w) + i) 0
  behind i = ap (λ l. get_or w' (memo_size l + i) 0) long ∙ drop_at_same (memo_size (length w)) w w' rest i

  pub index_behind : {node : ℕ → List ℕ} {n : ℕ} → Indexed node w n → Indexed node w' n
  index_behind {node} {n} h l = let c = h (subst (λ n. links_at n + part_size ≤ n) long l) in record {
    heads = λ b i. behind b ∙ c.heads b i;
    links = λ i j.
        ap (λ k. get_or w' k 0) (add_assoc (memo_size (length w')) part_size i) ∙ behind (part_size + i)
        ∙ ap (λ k. get_or w k 0) (sym (add_assoc (memo_size (length w)) part_size i)) ∙ c.links i j;
  }

  pub word_behind : (J : Kind) (i : ℕ) → get_or w' (words_at J (length w') + i) 0 ≡ get_or w (words_at J (length w) + i) 0
  word_behind rel i =
      ap (λ k. get_or w' k 0) (add_assoc (memo_size (length w')) index_size i) ∙ behind (index_size + i)
      ∙ ap (λ k. get_or w k 0) (sym (add_assoc (memo_size (length w)) index_size i))
  word_behind set i =
      ap (λ k. get_or w' k 0) (add_assoc (memo_size (length w')) set_words_from i) ∙ behind (set_words_from + i)
      ∙ ap (λ k. get_or w k 0) (sym (add_assoc (memo_size (length w)) set_words_from i))

pub memo_kept : {op l a b h : ℕ} {w w' : List ℕ} {S : Store} → KeepsEntry w w' op l a b h → Settled (memo_program op l a b) S h → Remembers w S
    → Remembers w' S
memo_kept {w = w} {w'} {S} k s m j f =
    let g : 2 * j + 1 < memo_size (length w) = subst (λ n. 2 * j + 1 < memo_size n) k.work_length f in
    elim (k.entries j g) [
      | inl e ↦ subst (λ x. Entry x (get_or w' (2 * j + 1) 0) S) (sym e.0) (subst (λ y. Entry (get_or w (2 * j) 0) y S) (sym e.1) (m j g))
      | inr e ↦ says_entry _ _ _ _ _ _ _ e s
    ]

-- a call that runs p may keep h as the answer of an operation of the memo's table, which is settled with it wherever p is with its own answer
pub performs_keep : {Q : Condition} {K : Kind} {p : Prog} {s r : RunState} {m m' w w₁ w₂ : List ℕ} (op l a b h : ℕ)
    → ((S : Store) → Settled p S r.h → Settled (memo_program op l a b) S h) → PerformsOn Q K p s m m' w w₁ r
    → (r.ok ≡ true → KeepsEntry w₁ w₂ op l a b h) → length w₂ ≡ length w₁ → PerformsOn Q K p s m m' w w₂ r
performs_keep {Q} {K} {p} {s} {r} {m} {m'} {w} {w₁} {w₂} op l a b h e d k long = record {
  runs = λ B q R. let c = d.runs B q R in record {
    okay = c.okay;
    done = λ t. let f = c.done t in let g = k t in record {
      store = f.store;
      value = f.value;
      work = record {
        fields = f.work.fields;
        formed = f.work.formed;
        memo = memo_kept g (e _ (answer B q R t)) f.work.memo;
        index = index_behind w₁ w₂ g.work_length g.rest f.work.index;
        words = λ J i x y. subst (λ v. Known J (plain K B m' r.n) (handle_of J 0 i) v) (sym (word_behind w₁ w₂ g.work_length g.rest J i))
            (f.work.words J i x y);
        unset = λ J i x y. word_behind w₁ w₂ g.work_length g.rest J i ∙ f.work.unset J i x y;
      };
    };
    writes = c.writes;
    work_length = long ∙ c.work_length;
  };
}
  where
    answer : (B : Store) → Q B → Ready K p B s m w → r.ok ≡ true → Settled p (plain K B m' r.n) r.h
    answer B q R t = let c = d.runs B q R in
        subst (λ (Q : Ran). Settled p Q.store Q.value) (sym (done_ran c t)) (settled p (plain K B m s.n) (R.live (was_ok c t)).safe)

-- the memo kept the answer of a finished run
pub remembered : {n op l a b h : ℕ} {w w' : List ℕ} → KeepsEntry w w' op l a b h → Remembered (ended n (Some h)) op l a b w w'
remembered k = record { kept = λ t. k; work_length = k.work_length }

-- one that runs such an operation may keep its own answer
pub performs_remember : {Q : Condition} {K : Kind} {p : Prog} {s r : RunState} {m m' w w₁ w₂ : List ℕ} (op l a b : ℕ) → p ≡ memo_program op l a b
    → PerformsOn Q K p s m m' w w₁ r → Remembered r op l a b w₁ w₂ → PerformsOn Q K p s m m' w w₂ r
performs_remember {r = r} op l a b e d k = performs_keep op l a b r.h (λ S f. subst (λ q. Settled q S r.h) e f) d k.kept k.work_length

-- what is left is done and kept in the memo
pub called_remembered : {Q : Condition} {K : Kind} {p n : Prog} {s r q : RunState} {m m' w w₁ w₂ : List ℕ} (op l a b : ℕ) → n ≡ memo_program op l a b
    → ReducesOn Q K p n m w → PerformsOn Q K n s m m' w w₁ r → (q ≡ r) × Remembered r op l a b w₁ w₂ → PerformsOn Q K p s m m' w w₂ q
called_remembered {Q} {K} {p} {s = s} {m = m} {m' = m'} {w = w} {w₂ = w₂} op l a b e u d k =
    subst (λ z. PerformsOn Q K p s m m' w w₂ z) (sym k.0) (called u (performs_remember op l a b e d k.1))

-- the same where it gave h
pub called_kept : {Q : Condition} {K : Kind} {p q : Prog} {s : RunState} {n h : ℕ} {r : Option ℕ} {m m' w w₁ w₂ : List ℕ} (op l a b : ℕ)
    → q ≡ memo_program op l a b → ReducesOn Q K p q m w → PerformsOn Q K q s m m' w w₁ (ended n r) → r ≡ Some h → KeepsEntry w₁ w₂ op l a b h
    → PerformsOn Q K p s m m' w w₂ (ended n (Some h))
called_kept {Q} {K} {q = q} {s} {n} {m = m} {m'} {w} {w₁} op l a b e u d f k =
    called_remembered op l a b e u (subst (λ x. PerformsOn Q K q s m m' w w₁ (ended n x)) f d) (refl, remembered k)

-- the memo knows the answer of what is left
pub recalled : {Q : Condition} {K : Kind} {p q : Prog} {m w : List ℕ} {h : ℕ} {r : Option ℕ} (op l a b : ℕ) → q ≡ memo_program op l a b → ReducesOn Q K p q m w
    → Recalls w op l a b r → r ≡ Some h → ReducesOn Q K p (ret h) m w
unfolding run Safe
recalled {K = K} {m = m} {h = h} op l a b e u k f = turn u (λ B c n i x R. record {
  runs = ap (λ z. run z (plain K B m n)) e ∙ k.recalls (plain K B m n) h R.memo f;
  safe = tt;
})

-- shortcuts that leave a node ask the memo
pub answer_recalled : {Q : Condition} {K : Kind} {p : Prog} {node : ℕ → ℕ → Prog} {m w : List ℕ} {r : Lookup} (op l a b : ℕ) → node a b ≡ memo_program op l a b
    → ReducesOn Q K p (node a b) m w → LooksIn w op l a b r → LooksUpOn Q K p node m w r
answer_recalled {Q} {K} {p} {node} {m} {w} op l a b e u k = subst (LooksUpOn Q K p node m w) (sym k.is) (go k.held refl)
  where
    go : (x : Option ℕ) → k.held ≡ x → LooksUpOn Q K p node m w (lookup x a b)
    go (Some h) f = answer (recalled op l a b e u k.recalls f)
    go None f = record { answers = u.left }
