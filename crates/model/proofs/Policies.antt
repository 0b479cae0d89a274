-- A policy's program relates exactly the policy's meaning, from the rules of the operations it runs; `!` relates what 01 says; wrong readings are refuted.
use mathlib.Core.Path.{◌≡◌, refl, sym, subst, ◌∙◌}
use mathlib.Core.Logic.Iff
use mathlib.Core.Logic.{inl, inr, ◌↔◌}
use mathlib.Core.List.{List, [], ◌∷◌}
use mathlib.Core.Bool.{true}
use Prim.Native.Nat.{ℕ, zero, suc}
use native.Mathlib.Omega.{arith}
use lib.Dec.{T, ltb→lt}
use Rattle.model.specs.Meaning.{Rel, Relates, Same, Filter, Refuses, Without, Steps}
use Rattle.model.specs.Operations.{difference}
use Rattle.model.specs.Packets.{none, more}
use Rattle.model.specs.Policies.{Mix, both, minus, either, Policy, fail, skip, full, tests, assigns, negates, plus, mixes, seq, stars}
use Rattle.model.specs.Policies.{Mixed, meaning, is_predicate, has_fields_below, mix_program, policy_program}
use Rattle.model.specs.Store.{rel, Store}
use Rattle.model.specs.WellFormed.{WellFormed}
use Rattle.model.proofs.Bools.{and_T}
use Rattle.model.proofs.Fields.{test_does, assign_does}
use Rattle.model.proofs.Pairs.{relates_den, den_relates, relates_iff, relates_ext, union_relates, zero_relates, top_relates, one_handle}
use Rattle.model.proofs.Pointwise.{difference_does, intersect_does, xor_does}
use Rattle.model.proofs.Rules.{Does, post_does, bind_does}
use Rattle.model.proofs.Sequence.{sequence_does}
use Rattle.model.proofs.Star.{identity_does, star_does}

-- `!p` is built as the identity without p: the packets that p does not relate to themselves
module _ {k : ℕ} where
  negation_does : {R : Rel} {S : Store} (one p : ℕ) → WellFormed k S → Relates k (λ p q. p ≡ q) S one → Relates k R S p
      → Does k S (difference rel k one p) (Relates k (Filter (λ r. ¬ R r r)))
  negation_does {R} one p F I A = post_does (λ S h C. relates_iff refused (den_relates {R = λ p q. Without (p ≡ q) (R p q)} C))
      (difference_does rel k one p F (omega arith) (relates_den I) (relates_den A))
    where
      refused : Same k (λ p q. Without (p ≡ q) (R p q)) (Filter (λ r. ¬ R r r))
      refused p q P Q = (
        λ c. (c.0, λ r. c.1 (subst (λ z. R p z) c.0 r)),
        λ c. (c.0, λ r. c.1 (subst (λ z. R p z) (sym c.0) r)),
      )

  mix_does : {R R' : Rel} {S : Store} (m : Mix) (p q : ℕ) → WellFormed k S → Relates k R S p → Relates k R' S q
      → Does k S (mix_program m k p q) (Relates k (λ p q. Mixed m (R p q) (R' p q)))
  unfolding mix_program
  mix_does both p q F A B = post_does (λ S h C. den_relates C) (intersect_does rel k p q F (omega arith) (relates_den A) (relates_den B))
  mix_does minus p q F A B = post_does (λ S h C. den_relates C) (difference_does rel k p q F (omega arith) (relates_den A) (relates_den B))
  mix_does either p q F A B = post_does (λ S h C. den_relates C) (xor_does rel k p q F (omega arith) (relates_den A) (relates_den B))

  policy_built : {S : Store} (x : Policy) → T (has_fields_below k x) → WellFormed k S → Does k S (policy_program k x) (Relates k (meaning k x))
  unfolding meaning has_fields_below policy_program
  policy_built fail o F = zero_relates k (omega arith) F (λ p q P Q r. r)
  policy_built skip o F = identity_does k (omega arith) F
  policy_built full o F = top_relates k (omega arith) F (λ p q P Q. tt)
  policy_built (tests v b) o F = test_does F v b (ltb→lt v k o)
  policy_built (assigns v b) o F = assign_does F v b (ltb→lt v k o)
  policy_built (negates x) o F =
      bind_does (policy_built x o F) λ S₁ p E₁ F₁ A. bind_does (identity_does k (omega arith) F₁) λ S₂ one E₂ F₂ I. negation_does one p F₂ I (relates_ext E₂ A)
  policy_built (plus x y) o F = let u = and_T (has_fields_below k x) (has_fields_below k y) o in
      bind_does (policy_built x u.0 F) λ S₁ p E₁ F₁ A. bind_does (policy_built y u.1 F₁) λ S₂ q E₂ F₂ B.
      union_relates k p q F₂ (omega arith) (relates_ext E₂ A) B
  policy_built (mixes m x y) o F = let u = and_T (has_fields_below k x) (has_fields_below k y) o in
      bind_does (policy_built x u.0 F) λ S₁ p E₁ F₁ A. bind_does (policy_built y u.1 F₁) λ S₂ q E₂ F₂ B.
      mix_does m p q F₂ (relates_ext E₂ A) B
  policy_built (seq x y) o F = let u = and_T (has_fields_below k x) (has_fields_below k y) o in
      bind_does (policy_built x u.0 F) λ S₁ p E₁ F₁ A. bind_does (policy_built y u.1 F₁) λ S₂ q E₂ F₂ B.
      sequence_does k p q F₂ (omega arith) (relates_ext E₂ A) B
  policy_built (stars x) o F = bind_does (policy_built x o F) λ S₁ p E₁ F₁ A. star_does k p F₁ (omega arith) A

  -- a policy that names only fields below k is built safely, and its handle relates what the policy means
  pub policy_does : {S : Store} (x : Policy) → has_fields_below k x ≡ true → WellFormed k S → Does k S (policy_program k x) (Relates k (meaning k x))
  policy_does x o F = policy_built x (rw o tt) F

-- `!` IN 01'S WORDS. A predicate relates packets to themselves only
pub predicate_same : (k : ℕ) (x : Policy) → T (is_predicate x) → (p q : List ℕ) → meaning k x p q → p ≡ q
unfolding is_predicate meaning
predicate_same k fail e p q m = absurd m
predicate_same k skip e p q m = m
predicate_same k full e p q m = absurd e
predicate_same k (tests v b) e p q m = m.0
predicate_same k (assigns v b) e p q m = absurd e
predicate_same k (negates x) e p q m = m.0
predicate_same k (plus x y) e p q (inl m) = predicate_same k x (and_T (is_predicate x) (is_predicate y) e).0 p q m
predicate_same k (plus x y) e p q (inr m) = predicate_same k y (and_T (is_predicate x) (is_predicate y) e).1 p q m
predicate_same k (mixes both x y) e p q m = predicate_same k x (and_T (is_predicate x) (is_predicate y) e).0 p q m.0
predicate_same k (mixes minus x y) e p q m = predicate_same k x (and_T (is_predicate x) (is_predicate y) e).0 p q m.0
predicate_same k (mixes either x y) e p q (inl m) = predicate_same k x (and_T (is_predicate x) (is_predicate y) e).0 p q m.0
predicate_same k (mixes either x y) e p q (inr m) = predicate_same k y (and_T (is_predicate x) (is_predicate y) e).1 p q m.1
predicate_same k (seq x y) e p q m = let u = and_T (is_predicate x) (is_predicate y) e in
    predicate_same k x u.0 p m.0 m.2 ∙ predicate_same k y u.1 m.0 q m.3
predicate_same k (stars x) e p q m = absurd e

-- so `!p` relates to themselves the packets p refuses
pub negation_refuses : (k : ℕ) (x : Policy) → is_predicate x ≡ true → Same k (meaning k (negates x)) (Filter (Refuses k (meaning k x)))
unfolding meaning
negation_refuses k x e p q P Q = (
  λ m. (m.0, λ s. m.1 (subst (λ r. meaning k x p r) (sym (predicate_same k x (rw e tt) p s.0 s.2)) s.2)),
  λ m. (m.0, λ y. m.1 (p, P, y)),
)

-- two handles of one level are equal exactly when they relate the same packets
pub one-handle↔ : {k l : ℕ} {R T : Rel} {S : Store} (a b : ℕ) → WellFormed k S → Relates l R S a → Relates l T S b → (a ≡ b) ↔ Same l R T
one-handle↔ {l = l} {R} {T} {S} a b F A B = (
  λ e p q P Q. Iff.trans (Iff.symm (A.means p q P Q)) ((subst (λ h. Relates l T S h) (sym e) B).means p q P Q),
  one_handle a b F A B,
)

-- two packets of one field
pub zero≢one : ¬ (◌≡◌ {A = List ℕ} (0 ∷ []) (1 ∷ []))
zero≢one e = let z : ◌≡◌ {A = ℕ} 0 1 = cc in omega arith

-- WRONG READINGS: `!p` as the relation's complement relates different packets, (0) and (1) already for `!0`
pub not_complement : ¬ ((x : Policy) → Same 1 (meaning 1 (negates x)) (λ p q. ¬ meaning 1 x p q))
unfolding meaning
not_complement h = zero≢one ((h fail (0 ∷ []) (1 ∷ []) (more 0 (omega arith) none) (more 1 (omega arith) none)).1 (λ r. r)).0

-- `0*` as `0`: it relates every packet to itself
pub star_not_empty : ¬ Same 1 (meaning 1 (stars fail)) (meaning 1 fail)
unfolding meaning
star_not_empty h = (h (0 ∷ []) (0 ∷ []) (more 0 (omega arith) none) (more 0 (omega arith) none)).0 (0, refl)

-- it is the identity, with any number of fields
pub star_of_fail : (k : ℕ) → Same k (meaning k (stars fail)) (meaning k skip)
unfolding meaning
star_of_fail k p q P Q = (λ s. none_taken s.0 s.1, λ e. (0, e))
  where
    none_taken : (n : ℕ) → Steps k n (λ p q. ⊥) p q → p ≡ q
    none_taken zero e = e
    none_taken (suc n) c = absurd c.2
