-- What each reading says of its text, and that a text keeps the rules exactly when it reads as a policy; from the machine's laws, the
-- rules' and where each spelling and each `!` is.
use mathlib.Core.Path.{◌≡◌, refl, sym, ap, subst, ◌∙◌}
use mathlib.Core.Logic.{◌↔◌}
use Prim.Native.Nat.{ℕ, ◌≤◌}
use native.Mathlib.Nat.{zero-add}
use mathlib.Core.List.{List, [], ◌∷◌, ◌++◌}
use mathlib.Core.Bool.{Bool, true, false, not, ◌&&◌, true≢false}
use native.Mathlib.Omega.{arith}
use mathlib.Core.Logic.{inl, inr}
use lib.Dec.{leb}
use borrow.Author.Tests.{ne_eqb, leb-true, leb-false}
use Rattle.model.specs.Policies.{Policy, is_predicate, only_negates_predicates, has_fields_below}
use Rattle.policy_text.specs.Lexicon.{Lexicon, Lawful, Bounds}
use Rattle.policy_text.specs.Grammar.{Sum}
use Rattle.policy_text.specs.Machine.{Out, accept, bad, deep, reads}
use Rattle.policy_text.specs.Reading.{first, is_clean, does_offend, rules, reading_of, reading}
use Rattle.policy_text.specs.Answers.{Names, names_test, names_assign, Negates, negated, NoField, NotPredicate, KeepsRules, Faulty, Says, tree_of, tree}
use Rattle.std.specs.Prelude.{Option, Some, None, Ok}
use Rattle.policy_text.proofs.Sound.{sound}
use Rattle.policy_text.proofs.Complete.{complete}
use Rattle.policy_text.proofs.Offsets.{not_policy, too_deep}
use Rattle.policy_text.proofs.Counts.{none, finds, fields_found, spelt_offends, negations_found}
use Rattle.policy_text.proofs.Begins.{Begins, other, inner, name, bang, begins}
use Rattle.policy_text.proofs.Clean.{clean_atom}
use Rattle.policy_text.proofs.Spellings.{word_above, no_letter}
use Rattle.policy_text.proofs.Moves.{not_true, not_false}
use Rattle.policy_text.proofs.Searches.{FirstAt, FirstOf, first_of, first_nowhere}

module _ {X : Lexicon} (laws : Lawful X) where
  -- the tests on the text that a field's spelling and an operand begin
  pub names_above : {n : ℕ} {u : List ℕ} (k : ℕ) → Bounds X k → Names X n u → X.is_outside k u ≡ leb k n
  names_above {n} k B (names_test {f = f} s g) = B.here f n 61 s g (inl refl)
  names_above {n} k B (names_assign {f = f} s g) = B.here f n 58 s g (inr refl)

  pub negated_other : {p : Policy} {u : List ℕ} → Negates X p u → does_offend X u ≡ not (is_predicate p)
  unfolding does_offend
  negated_other (negated r a) = ap not (clean_atom laws a r)

  pub names_found : {u : List ℕ} (k : ℕ) → Bounds X k → Begins laws u → X.is_outside k u ≡ true → (n : ℕ) × Names X n u × (k ≤ n)
  names_found k B (other {b = b} {s = s} h j) e = absurd (true≢false (sym e ∙ B.elsewhere b s h))
  names_found k B (inner {b = b} {s = s} a w h) e = absurd (true≢false (sym e ∙ B.inner a w b s h))
  names_found k B (name {n = n} x) e = (n, x, leb-true k n (sym (names_above k B x) ∙ e))
  names_found k B (bang (negated {s = s} r a)) e = absurd (true≢false (sym e ∙ B.elsewhere 33 (s ++ r) (no_letter laws 33 (λ z. omega (arith, z.0)))))

  pub negated_found : {u : List ℕ} → Begins laws u → does_offend X u ≡ true → (p : Policy) × Negates X p u × (is_predicate p ≡ false)
  unfolding does_offend
  negated_found (other {b = b} {s = s} h j) e = absurd (true≢false (sym e ∙ ap (λ (x : Bool). x && not (is_clean X s)) (ne_eqb b 33 j)))
  negated_found (inner {b = b} {s = s} a w h) e =
      let l = word_above (laws.word (a ∷ w) b h) in
      absurd (true≢false (sym e ∙ ap (λ (x : Bool). x && not (is_clean X s)) (ne_eqb b 33 (λ z. omega (arith, l)))))
  negated_found (name {n = n} (names_test {f = f} s g)) e = absurd (true≢false (sym e ∙ spelt_offends laws f (61 ∷ s) n g))
  negated_found (name {n = n} (names_assign {f = f} s g)) e = absurd (true≢false (sym e ∙ spelt_offends laws f (58 ∷ s) n g))
  negated_found (bang {p = p} x) e = (p, x, not_true (is_predicate p) (sym (negated_other x) ∙ e))

  module _ (k : ℕ) (B : Bounds X k) (t : List ℕ) (p : Policy) (a : Sum X 32 t p) where
    -- refusal 5, a field that is not there
    no_field : (i : ℕ) → FirstAt (X.is_outside k) t i → NoField X k t i
    no_field i f =
        let x = names_found k B (begins laws a i f.inside) f.here in
        record {
          policy = p;
          follows = a;
          not_below = finds laws (has_fields_below k) (X.is_outside k) (fields_found laws k B) a [] ∙ f.some;
          inside = f.inside;
          field = x.0;
          here = x.1;
          above = x.2;
          none_before = λ j n h y. leb-false k n (sym (names_above k B y) ∙ f.before j h);
        }

    -- refusal 8, `!` over a non-predicate
    not_predicate : (i : ℕ) → none (X.is_outside k) t [] ≡ true → FirstAt (does_offend X) t i → NotPredicate X k t i
    not_predicate i n f =
        let x = negated_found (begins laws a i f.inside) f.here in
        record {
          policy = p;
          follows = a;
          below = finds laws (has_fields_below k) (X.is_outside k) (fields_found laws k B) a [] ∙ n;
          negates_other = finds laws only_negates_predicates (does_offend X) (negations_found laws) a [] ∙ f.some;
          inside = f.inside;
          operand = x.0;
          here = x.1;
          other = x.2;
          none_before = λ j q h y. not_false (is_predicate q) (sym (negated_other y) ∙ f.before j h);
        }

    ruled : (f g : Option ℕ) → FirstOf (X.is_outside k) 0 t f → FirstOf (does_offend X) 0 t g → Says X k t (rules f g)
    unfolding Says Faulty rules FirstOf
    ruled (Some i) g x y = no_field i (subst (λ (m : ℕ). FirstAt (X.is_outside k) t m) (sym (x.1 ∙ zero-add x.0)) x.2)
    ruled None (Some i) x y = not_predicate i x (subst (λ (m : ℕ). FirstAt (does_offend X) t m) (sym (y.1 ∙ zero-add y.0)) y.2)
    ruled None None x y = record {
      policy = p;
      follows = a;
      below = finds laws (has_fields_below k) (X.is_outside k) (fields_found laws k B) a [] ∙ x;
      negates_predicates = finds laws only_negates_predicates (does_offend X) (negations_found laws) a [] ∙ y;
    }

  pub says : (k : ℕ) → Bounds X k → (t : List ℕ) → Says X k t (reading X k t)
  unfolding reading Says Faulty reading_of
  says k B t = by (reads X t) refl
    where
      by : (o : Out) → reads X t ≡ o → Says X k t (reading_of X k t o)
      by (accept p) e = ruled k B t p (sound laws t p e) (first (X.is_outside k) 0 t) (first (does_offend X) 0 t) (first_of (X.is_outside k) 0 t)
          (first_of (does_offend X) 0 t)
      by (bad i) e = not_policy laws t i e
      by (deep i) e = too_deep laws t i e

  pub reads_policy : (k : ℕ) → Bounds X k → (t : List ℕ) → KeepsRules X k t → reading X k t ≡ Ok tt
  unfolding reading reading_of rules
  reads_policy k B t h =
      ap (reading_of X k t) (complete laws t h.policy h.follows)
      ∙ ap (λ (f : Option ℕ). rules f (first (does_offend X) 0 t))
      (first_nowhere (X.is_outside k) t (sym (finds laws (has_fields_below k) (X.is_outside k) (fields_found laws k B) h.follows []) ∙ h.below))
      ∙ ap (λ (f : Option ℕ). rules None f)
      (first_nowhere (does_offend X) t (sym (finds laws only_negates_predicates (does_offend X) (negations_found laws) h.follows []) ∙ h.negates_predicates))

  pub keeps_rules : (k : ℕ) → Bounds X k → (t : List ℕ) → (reading X k t ≡ Ok tt) ↔ KeepsRules X k t
  unfolding Says
  keeps_rules k B t = (λ e. subst (Says X k t) e (says k B t), reads_policy k B t)

  -- the tree is the policy that the text follows the grammar with
  pub tree_is : (t : List ℕ) (p : Policy) → Sum X 32 t p → tree X t ≡ p
  unfolding tree tree_of
  tree_is t p a = ap tree_of (complete laws t p a)

  -- a text that reads as a policy follows the grammar with its tree, which keeps the rules
  pub tree_keeps : (k : ℕ) → Bounds X k → (t : List ℕ) → reading X k t ≡ Ok tt
      → Sum X 32 t (tree X t) × (has_fields_below k (tree X t) ≡ true) × (only_negates_predicates (tree X t) ≡ true)
  tree_keeps k B t e =
      let h = (keeps_rules k B t).0 e in
      let p = tree_is t h.policy h.follows in
      (rw p h.follows, rw p h.below, rw p h.negates_predicates)
