-- The grammar of policy texts: which bytes are a sum, a term, a product, a starred item or an atom, and of which policy; 01, "The text
-- at the entry", and 02, M-104. The number is how many `(` and `!` may be around an atom, counted from this part of the text inwards.
use Rattle.std.specs.Prelude.{ℕ, suc, ◌≤◌, ◌<◌, length, take, List, [], ◌∷◌, ◌++◌, Bool, true, false}
use Rattle.model.specs.Policies.{Mix, Policy}
use Rattle.policy_text.specs.Lexicon.{Lexicon}

-- b: "`0` or `1`"
pub data Bit : ℕ → Bool → Type 0 where
  b_zero : Bit 48 false
  b_one : Bit 49 true

-- the bytes `&`, `-` and `^`
pub data MixSign : ℕ → Mix → Type 0 where
  m_both : MixSign 38 Mix.both
  m_minus : MixSign 45 Mix.minus
  m_either : MixSign 94 Mix.either

mutual
  -- `0`, `1`, `T`, a field with `=b` or `:=b`, `!` and an atom, `(` sum `)`
  pub data Atom (X : Lexicon) : ℕ → List ℕ → Policy → Type 0 where
    a_zero : {d : ℕ} → Atom X d (48 ∷ []) Policy.fail
    a_one : {d : ℕ} → Atom X d (49 ∷ []) Policy.skip
    a_full : {d : ℕ} → Atom X d (84 ∷ []) Policy.full
    a_test : {d n c : ℕ} {s : List ℕ} {v : Bool} → X.Spells s n → Bit c v → Atom X d (s ++ (61 ∷ c ∷ [])) (Policy.tests n v)
    a_assign : {d n c : ℕ} {s : List ℕ} {v : Bool} → X.Spells s n → Bit c v → Atom X d (s ++ (58 ∷ 61 ∷ c ∷ [])) (Policy.assigns n v)
    a_neg : {d e : ℕ} {s : List ℕ} {p : Policy} → e < d → Atom X e s p → Atom X d (33 ∷ s) (Policy.negates p)
    a_paren : {d e : ℕ} {s : List ℕ} {p : Policy} → e < d → Sum X e s p → Atom X d (40 ∷ (s ++ (41 ∷ []))) p

  -- an atom and then any number of `*`
  pub data Starred (X : Lexicon) : ℕ → List ℕ → Policy → Type 0 where
    s_atom : {d : ℕ} {s : List ℕ} {p : Policy} → Atom X d s p → Starred X d s p
    s_star : {d : ℕ} {s : List ℕ} {p : Policy} → Starred X d s p → Starred X d (s ++ (42 ∷ [])) (Policy.stars p)

  -- starred items joined by `;`, from the left
  pub data Product (X : Lexicon) : ℕ → List ℕ → Policy → Type 0 where
    p_one : {d : ℕ} {s : List ℕ} {p : Policy} → Starred X d s p → Product X d s p
    p_seq : {d : ℕ} {s t : List ℕ} {p q : Policy} → Product X d s p → Starred X d t q → Product X d (s ++ (59 ∷ t)) (Policy.seq p q)

  -- products joined by `&`, `-` and `^`, one level, from the left
  pub data Term (X : Lexicon) : ℕ → List ℕ → Policy → Type 0 where
    t_one : {d : ℕ} {s : List ℕ} {p : Policy} → Product X d s p → Term X d s p
    t_mix : {d c : ℕ} {s t : List ℕ} {m : Mix} {p q : Policy} → MixSign c m → Term X d s p → Product X d t q → Term X d (s ++ (c ∷ t)) (Policy.mixes m p q)

  -- terms joined by `+`, from the left
  pub data Sum (X : Lexicon) : ℕ → List ℕ → Policy → Type 0 where
    u_one : {d : ℕ} {s : List ℕ} {p : Policy} → Term X d s p → Sum X d s p
    u_plus : {d : ℕ} {s t : List ℕ} {p q : Policy} → Sum X d s p → Term X d t q → Sum X d (s ++ (43 ∷ t)) (Policy.plus p q)

-- some ending makes the text follow the grammar
unfoldable pub Completable : Lexicon → ℕ → List ℕ → Type 0
Completable X d t = (w : List ℕ) × (p : Policy) × Sum X d (t ++ w) p

-- 7: up to i the text can be completed, and one byte further it cannot, however deep it may nest; or it ends at i too soon
pub record NotPolicy (X : Lexicon) (t : List ℕ) (i : ℕ) : Type 0 where
  pub inside : i ≤ length t
  pub before : Completable X 32 (take i t)
  pub cannot : i < length t → (d : ℕ) → Completable X d (take (suc i) t) → ⊥
  pub not_whole : (d : ℕ) (p : Policy) → Sum X d t p → ⊥

-- 9: up to i the text can be completed, and one byte further only where it may nest deeper than 32
pub record TooDeep (X : Lexicon) (t : List ℕ) (i : ℕ) : Type 0 where
  pub inside : i < length t
  pub before : Completable X 32 (take i t)
  pub cannot : Completable X 32 (take (suc i) t) → ⊥
  pub deeper : Completable X 33 (take (suc i) t)
