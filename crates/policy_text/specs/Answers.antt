-- Document 01's number and values for every case of a reading; and what a reading says of a text, in terms of the grammar and of its tree alone.
use Rattle.std.specs.Prelude.{◌≡◌, ℕ, ◌≤◌, ◌<◌, List, [], ◌∷◌, ◌++◌, true, false, length, drop, Ok, Err}
use Rattle.model.specs.Policies.{Policy, is_predicate, only_negates_predicates, has_fields_below}
use Rattle.policy_text.specs.Lexicon.{Lexicon}
use Rattle.policy_text.specs.Grammar.{Atom, Sum, NotPolicy, TooDeep}
use Rattle.policy_text.specs.Machine.{Out, accept, bad, deep, reads}
use Rattle.policy_text.specs.Misreads.{fault_number, Reading}
use Rattle.policy_text.specs.declared.Fault.{Fault}

-- 01, "What each operation declines, in order": the refusal's number, or 0
abbrev pub reading_refusal : Reading → ℕ
reading_refusal (Ok u) = 0
reading_refusal (Err m) = fault_number m.fault

-- the refusal's offset; nothing with a policy
abbrev pub reading_values : Reading → List ℕ
reading_values (Ok u) = []
reading_values (Err m) = m.at ∷ []

-- a text begins with the spelling of a field, before the `=` of a test or the `:` of an assignment
pub data Names (X : Lexicon) (n : ℕ) : List ℕ → Type 0 where
  names_test : {f : List ℕ} (s : List ℕ) → X.Spells f n → Names X n (f ++ (61 ∷ s))
  names_assign : {f : List ℕ} (s : List ℕ) → X.Spells f n → Names X n (f ++ (58 ∷ s))

-- a text begins with `!` and an atom, its operand
pub data Negates (X : Lexicon) (p : Policy) : List ℕ → Type 0 where
  negated : {d : ℕ} {s : List ℕ} (r : List ℕ) → Atom X d s p → Negates X p (33 ∷ (s ++ r))

-- 5: "at the first `x` whose N is k or more", in a policy that names such a field
pub record NoField (X : Lexicon) (k : ℕ) (t : List ℕ) (i : ℕ) : Type 0 where
  pub policy : Policy
  pub follows : Sum X 32 t policy
  pub not_below : has_fields_below k policy ≡ false
  pub inside : i < length t
  pub field : ℕ
  pub here : Names X field (drop i t)
  pub above : k ≤ field
  pub none_before : (j n : ℕ) → j < i → Names X n (drop j t) → n < k

-- 8: "at the first offending `!`", in a policy of fields below k with `:=`, `*` or `T` in the operand of a `!`
pub record NotPredicate (X : Lexicon) (k : ℕ) (t : List ℕ) (i : ℕ) : Type 0 where
  pub policy : Policy
  pub follows : Sum X 32 t policy
  pub below : has_fields_below k policy ≡ true
  pub negates_other : only_negates_predicates policy ≡ false
  pub inside : i < length t
  pub operand : Policy
  pub here : Negates X operand (drop i t)
  pub other : is_predicate operand ≡ false
  pub none_before : (j : ℕ) (p : Policy) → j < i → Negates X p (drop j t) → is_predicate p ≡ true

-- 01's rules but the length, which is 10: a text "follows the grammar, nests no atom deeper than 32, names only fields below k and has
-- neither `:=` nor `*` in the operand of a `!`", `T` counted with them
pub record KeepsRules (X : Lexicon) (k : ℕ) (t : List ℕ) : Type 0 where
  pub policy : Policy
  pub follows : Sum X 32 t policy
  pub below : has_fields_below k policy ≡ true
  pub negates_predicates : only_negates_predicates policy ≡ true

-- what a fault at an offset says of a text
unfoldable pub Faulty : Lexicon → ℕ → List ℕ → Fault → ℕ → Type 0
Faulty X k t Fault.NotPolicy i = NotPolicy X t i
Faulty X k t Fault.TooDeep i = TooDeep X t i
Faulty X k t Fault.NoField i = NoField X k t i
Faulty X k t Fault.NotPredicate i = NotPredicate X k t i

unfoldable pub Says : Lexicon → ℕ → List ℕ → Reading → Type 0
Says X k t (Ok u) = KeepsRules X k t
Says X k t (Err m) = Faulty X k t m.fault m.at

-- the policy of a text that follows the grammar
unfoldable pub tree_of : Out → Policy
tree_of (accept p) = p
tree_of (bad i) = Policy.fail
tree_of (deep i) = Policy.fail

unfoldable pub tree : Lexicon → List ℕ → Policy
tree X t = tree_of (reads X t)
