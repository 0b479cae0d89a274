-- A reading that says what it says of a text is the text's reading: no other answer does. From `says` and the places' being unique.
use mathlib.Core.Path.{◌≡◌, refl, sym, ap, subst, ◌∙◌}
use Prim.Native.Nat.{ℕ, suc, ◌-◌, ◌+◌, ◌≤◌, ◌<◌}
use native.Mathlib.Omega.{arith}
use native.Mathlib.Decide.{dec_lt}
use mathlib.Core.List.{List, [], ◌++◌, append_assoc}
use mathlib.Core.Bool.{Bool, true, false, not, true≢false}
use lib.ListN.{length, take, drop, take-append-drop}
use lib.Seq.{take-add}
use borrow.Author.Tests.{le-leb}
use Rattle.model.specs.Policies.{Policy, only_negates_predicates, has_fields_below}
use Rattle.model.proofs.Bools.{by_test}
use Rattle.policy_text.specs.Lexicon.{Lexicon, Lawful, Bounds}
use Rattle.policy_text.specs.Grammar.{Sum, Completable, NotPolicy, TooDeep}
use Rattle.policy_text.specs.Machine.{Out, accept, bad, deep, reads}
use Rattle.policy_text.specs.Reading.{first, does_offend, rules, reading_of, reading}
use Rattle.policy_text.specs.Answers.{NoField, NotPredicate, Faulty, Says}
use Rattle.std.specs.Prelude.{Option, Some, None, Ok, Err}
use Rattle.policy_text.specs.Misreads.{misread, Reading}
use Rattle.policy_text.specs.declared.Fault.{Fault}
use Rattle.policy_text.proofs.Sound.{sound}
use Rattle.policy_text.proofs.Complete.{complete}
use Rattle.policy_text.proofs.Offsets.{not_policy, too_deep}
use Rattle.policy_text.proofs.Counts.{finds, fields_found, negations_found}
use Rattle.policy_text.proofs.Begins.{begins}
use Rattle.policy_text.proofs.Searches.{FirstAt, first_nowhere, first_is}
use Rattle.policy_text.proofs.Says.{names_above, negated_other, names_found, negated_found, reads_policy}

module _ {X : Lexicon} (laws : Lawful X) where
  -- a shorter part of the text can be completed too
  shorter : (d : ℕ) (t : List ℕ) (i j : ℕ) → i ≤ j → Completable X d (take j t) → Completable X d (take i t)
  unfolding Completable
  shorter d t i j h x =
      let k : j ≡ i + (j - i) = omega arith in
      let e : take j t ≡ take i t ++ take (j - i) (drop i t) = ap (λ (k : ℕ). take k t) k ∙ take-add i (j - i) t in (
        take (j - i) (drop i t) ++ x.0,
        x.1,
        subst (λ (z : List ℕ). Sum X d z x.1) (ap (λ (z : List ℕ). z ++ x.0) e ∙ append_assoc (take i t) (take (j - i) (drop i t)) x.0) x.2,
      )

  whole_extends : (d : ℕ) (t : List ℕ) (p : Policy) (i : ℕ) → Sum X d t p → Completable X d (take i t)
  unfolding Completable
  whole_extends d t p i a = (drop i t, p, rw take-append-drop a)

  -- a place of 7 or of 9
  record Place (t : List ℕ) (i : ℕ) : Type 0 where
    inside : i ≤ length t
    before : Completable X 32 (take i t)
    cannot : i < length t → Completable X 32 (take (suc i) t) → ⊥

  one_place : (t : List ℕ) (i j : ℕ) → Place t i → Place t j → i ≡ j
  one_place t i j a b = by (dec_lt i j) (dec_lt j i)
    where
      by : Dec (i < j) → Dec (j < i) → i ≡ j
      by (yes h) d = absurd (a.cannot (omega (arith, b.inside)) (shorter 32 t (suc i) j h b.before))
      by (no h) (yes k) = absurd (b.cannot (omega (arith, a.inside)) (shorter 32 t (suc j) i k a.before))
      by (no h) (no k) = omega arith

  of_bad : {t : List ℕ} {i : ℕ} → NotPolicy X t i → Place t i
  of_bad a = record { inside = a.inside; before = a.before; cannot = (λ l. a.cannot l 32) }

  of_deep : {t : List ℕ} {i : ℕ} → TooDeep X t i → Place t i
  of_deep a = record { inside = (let h = a.inside in omega arith); before = a.before; cannot = (λ l. a.cannot) }

  never_both : (t : List ℕ) (i j : ℕ) → NotPolicy X t i → TooDeep X t j → ⊥
  never_both t i j a b =
      let e : i ≡ j = one_place t i j (of_bad a) (of_deep b) in
      let l = b.inside in
      a.cannot (omega arith) 33 (subst (λ (k : ℕ). Completable X 33 (take (suc k) t)) (sym e) b.deeper)

  module _ (k : ℕ) (B : Bounds X k) (t : List ℕ) where
    -- refusal 7, not a policy
    only_bad : (i : ℕ) → NotPolicy X t i → reading X k t ≡ Err (misread Fault.NotPolicy i)
    unfolding reading reading_of
    only_bad i a = by (reads X t) refl
      where
        by : (o : Out) → reads X t ≡ o → reading_of X k t o ≡ Err (misread Fault.NotPolicy i)
        by (accept p) e = absurd (a.not_whole 32 p (sound laws t p e))
        by (bad j) e = ap (λ (n : ℕ). Err (misread Fault.NotPolicy n)) (one_place t j i (of_bad (not_policy laws t j e)) (of_bad a))
        by (deep j) e = absurd (never_both t i j a (too_deep laws t j e))

    -- refusal 9, nested too deep
    only_deep : (i : ℕ) → TooDeep X t i → reading X k t ≡ Err (misread Fault.TooDeep i)
    unfolding reading reading_of
    only_deep i a = by (reads X t) refl
      where
        by : (o : Out) → reads X t ≡ o → reading_of X k t o ≡ Err (misread Fault.TooDeep i)
        by (accept p) e = absurd (a.cannot (whole_extends 32 t p (suc i) (sound laws t p e)))
        by (bad j) e = absurd (never_both t j i (not_policy laws t j e) a)
        by (deep j) e = ap (λ (n : ℕ). Err (misread Fault.TooDeep n)) (one_place t j i (of_deep (too_deep laws t j e)) (of_deep a))

    ruled : (p : Policy) (f g : Option ℕ) → Sum X 32 t p → first (X.is_outside k) 0 t ≡ f → first (does_offend X) 0 t ≡ g → reading X k t ≡ rules f g
    unfolding reading reading_of
    ruled p f g a x y = ap (reading_of X k t) (complete laws t p a) ∙ rw (x, y) refl

    -- refusal 5, a field that is not there
    first_field : (i : ℕ) → NoField X k t i → FirstAt (X.is_outside k) t i
    first_field i a = record {
      inside = a.inside;
      here = names_above laws k B a.here ∙ le-leb k a.field a.above;
      before = λ j h. by_test (λ (b : Bool). b ≡ false) (X.is_outside k (drop j t)) (λ e. absurd (early j h e)) (λ e. refl);
      some = sym (finds laws (has_fields_below k) (X.is_outside k) (fields_found laws k B) a.follows []) ∙ a.not_below;
    }
      where
        early : (j : ℕ) → j < i → X.is_outside k (drop j t) ≡ true → ⊥
        early j h e =
            let x = names_found laws k B (begins laws a.follows j (omega (arith, a.inside))) e in
            omega (arith, x.2, a.none_before j x.0 h x.1)

    -- refusal 8, `!` over a non-predicate
    first_negation : (i : ℕ) → NotPredicate X k t i → FirstAt (does_offend X) t i
    first_negation i a = record {
      inside = a.inside;
      here = negated_other laws a.here ∙ ap not a.other;
      before = λ j h. by_test (λ (b : Bool). b ≡ false) (does_offend X (drop j t)) (λ e. absurd (early j h e)) (λ e. refl);
      some = sym (finds laws only_negates_predicates (does_offend X) (negations_found laws) a.follows []) ∙ a.negates_other;
    }
      where
        early : (j : ℕ) → j < i → does_offend X (drop j t) ≡ true → ⊥
        early j h e =
            let x = negated_found laws (begins laws a.follows j (omega (arith, a.inside))) e in
            true≢false (sym (a.none_before j x.0 h x.1) ∙ x.2)

    only_faulty : (f : Fault) (i : ℕ) → Faulty X k t f i → reading X k t ≡ Err (misread f i)
    unfolding Faulty rules
    only_faulty Fault.NotPolicy i a = only_bad i a
    only_faulty Fault.TooDeep i a = only_deep i a
    only_faulty Fault.NoField i a = ruled a.policy (Some i) (first (does_offend X) 0 t) a.follows (first_is (X.is_outside k) t i (first_field i a)) refl
    only_faulty Fault.NotPredicate i a = ruled a.policy None (Some i) a.follows
        (first_nowhere (X.is_outside k) t (sym (finds laws (has_fields_below k) (X.is_outside k) (fields_found laws k B) a.follows []) ∙ a.below))
        (first_is (does_offend X) t i (first_negation i a))

    pub only : (r : Reading) → Says X k t r → reading X k t ≡ r
    unfolding Says
    only (Ok u) a = reads_policy laws k B t a
    only (Err m) a = only_faulty m.fault m.at a
