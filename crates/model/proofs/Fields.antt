-- `test` and `assign` of relations: built field by field from the last one up, they test and assign their field.
-- field j goes as X says and the others stay
use mathlib.Core.Path.{◌≡◌, refl, subst}
use mathlib.Core.Logic.{◌⊎◌, inl, inr, ◌↔◌}
use mathlib.Core.List.{List, [], ◌∷◌}
use mathlib.Core.Bool.{Bool, true, false}
use Prim.Native.Nat.{ℕ, zero, suc, ◌+◌, ◌<◌}
use native.Mathlib.Omega.{arith}
use lib.Dec.{eqb, eqb→eq}
use Rattle.model.specs.Meaning.{Rel, Relates, Same, bit_of, Passes, Assign, Filter}
use Rattle.model.specs.Operations.{each_field, test_node, assign_node, test, assign}
use Rattle.model.specs.Packets.{none, more, Packet, relates}
use Rattle.model.specs.Programs.{mk}
use Rattle.model.specs.Store.{rel, Store, pick}
use Rattle.model.specs.WellFormed.{WellFormed, Extends}
use Rattle.model.proofs.Bools.{eqb_iff}
use Rattle.model.proofs.Pairs.{relates_iff, relates_ext, Matrix, mk_relates}
use Rattle.model.proofs.Rules.{Does, ret_does, post_does, bind_does}

abbrev Field : (ℕ → ℕ → Type 0) → ℕ → Rel
Field X j [] q = ⊥
Field X j (i ∷ p) [] = ⊥
Field X zero (i ∷ p) (o ∷ q) = X i o × (p ≡ q)
Field X (suc j) (i ∷ p) (o ∷ q) = (i ≡ o) × Field X j p q

-- the node that field v is given has `res` where X allows the digit and the empty relation elsewhere
record Pattern (X : ℕ → ℕ → Type 0) (node : ℕ → ℕ → List ℕ) : Type 1 where
  does : {k : ℕ} {R : Rel} {S : Store} (l r z : ℕ) → WellFormed k S → l < k → Relates l R S r → Relates l (λ p q. ⊥) S z
      → Does k S (mk rel (node r z)) (Relates (suc l) (Matrix (λ i o p q. X i o × R p q)))

-- a child that X allows, and one that it does not
module _ {l : ℕ} {R : Rel} {S : Store} {h : ℕ} where
  allowed : {A : Type 0} → A → Relates l R S h → Relates l (λ p q. A × R p q) S h
  allowed x B = relates_iff (λ p q P Q. (λ r. (x, r), λ r. r.1)) B

  barred : {A : Type 0} → ¬ A → Relates l (λ p q. ⊥) S h → Relates l (λ p q. A × R p q) S h
  barred n B = relates_iff (λ p q P Q. (λ r. absurd r, λ r. n r.0)) B

identity_pattern : Pattern (λ i o. i ≡ o) (λ r z. r ∷ z ∷ z ∷ r ∷ [])
identity_pattern = record {
  does = λ l r z F i A Z. mk_relates l r z z r (Matrix (λ i o p q. (i ≡ o) × _)) F i
      (allowed refl A) (barred (λ e. omega (arith, e)) Z) (barred (λ e. omega (arith, e)) Z) (allowed refl A);
}

abbrev Tested : Bool → ℕ → ℕ → Type 0
Tested b i o = (i ≡ bit_of b) × (o ≡ bit_of b)

test_pattern : (b : Bool) → Pattern (Tested b) (test_node b)
test_pattern true = record {
  does = λ l r z F i A Z. mk_relates l z z z r (Matrix (λ i o p q. Tested true i o × _)) F i
      (barred (λ e. omega (arith, e.0)) Z) (barred (λ e. omega (arith, e.0)) Z) (barred (λ e. omega (arith, e.1)) Z) (allowed (refl, refl) A);
}
test_pattern false = record {
  does = λ l r z F i A Z. mk_relates l r z z z (Matrix (λ i o p q. Tested false i o × _)) F i
      (allowed (refl, refl) A) (barred (λ e. omega (arith, e.1)) Z) (barred (λ e. omega (arith, e.0)) Z) (barred (λ e. omega (arith, e.0)) Z);
}

abbrev Assigned : Bool → ℕ → ℕ → Type 0
Assigned b i o = o ≡ bit_of b

assign_pattern : (b : Bool) → Pattern (Assigned b) (assign_node b)
assign_pattern true = record {
  does = λ l r z F i A Z. mk_relates l z r z r (Matrix (λ i o p q. Assigned true i o × _)) F i
      (barred (λ e. omega (arith, e)) Z) (allowed refl A) (barred (λ e. omega (arith, e)) Z) (allowed refl A);
}
assign_pattern false = record {
  does = λ l r z F i A Z. mk_relates l r z r z (Matrix (λ i o p q. Assigned false i o × _)) F i
      (allowed refl A) (barred (λ e. omega (arith, e)) Z) (allowed refl A) (barred (λ e. omega (arith, e)) Z);
}

-- what is built with i fields still to come: the identity while field v is among them, then field v's relation
abbrev Begun : (ℕ → ℕ → Type 0) → ℕ → ℕ → ℕ → Store → ℕ → Type 0
Begun X v i l S r = ((v < i) × Relates l (λ p q. p ≡ q) S r) ⊎ ((j : ℕ) × (i + j ≡ v) × Relates l (Field X j) S r)

module _ {k : ℕ} {X : ℕ → ℕ → Type 0} {node : ℕ → ℕ → List ℕ} (pattern : Pattern X node) (v : ℕ) where
  identity_up : {R : Rel} {S : Store} (l r z : ℕ) → WellFormed k S → l < k → Relates l R S r → Relates l (λ p q. ⊥) S z
      → Does k S (mk rel (r ∷ z ∷ z ∷ r ∷ [])) (Relates (suc l) (Matrix (λ i o p q. (i ≡ o) × R p q)))
  identity_up l r z F u A Z = identity_pattern.does l r z F u A Z

  field_up : {S : Store} (i l r z : ℕ) (b : Bool) → eqb i v ≡ b → WellFormed k S → l < k → Begun X v (suc i) l S r → Relates l (λ p q. ⊥) S z
      → Does k S (mk rel (pick b (node r z) (r ∷ z ∷ z ∷ r ∷ []))) (Begun X v i (suc l))
  field_up i l r z true e F u (inl A) Z = post_does (λ S h B. inr (0, omega (arith, eqb→eq i v (rw e tt)), relates_iff whole B))
      (pattern.does l r z F u A.1 Z)
    where
      whole : Same (suc l) (Matrix (λ i o p q. X i o × (p ≡ q))) (Field X 0)
      whole p q (more i a P) (more o b Q) = (λ x. x, λ x. x)
  field_up i l r z true e F u (inr A) Z = absurd (omega (arith, eqb→eq i v (rw e tt), A.1))
  field_up i l r z false e F u (inl A) Z = post_does (λ S h B. inl (omega (arith, A.0, other), relates_iff whole B)) (identity_up l r z F u A.1 Z)
    where
      other : ¬ (i ≡ v)
      other q = rw e at ((eqb_iff i v).1 q)

      whole : Same (suc l) (Matrix (λ i o p q. (i ≡ o) × (p ≡ q))) (λ p q. p ≡ q)
      whole p q (more i a P) (more o b Q) = (λ e. cc (e.0, e.1), λ e. (cc, cc))
  field_up i l r z false e F u (inr A) Z = post_does (λ S h B. inr (suc A.0, omega (arith, A.1), relates_iff whole B)) (identity_up l r z F u A.2 Z)
    where
      whole : Same (suc l) (Matrix (λ i o p q. (i ≡ o) × Field X A.0 p q)) (Field X (suc A.0))
      whole p q (more i a P) (more o b Q) = (λ x. x, λ x. x)

  zero_up : {S : Store} (l z : ℕ) → WellFormed k S → l < k → Relates l (λ p q. ⊥) S z → Does k S (mk rel (z ∷ z ∷ z ∷ z ∷ [])) (Relates (suc l) (λ p q. ⊥))
  zero_up l z F i Z = mk_relates l z z z z (λ p q. ⊥) F i Z Z Z Z

  fields_does : {S : Store} (i l r z : ℕ) → WellFormed k S → i + l ≡ k → Begun X v i l S r → Relates l (λ p q. ⊥) S z
      → Does k S (each_field node v i r z) (Relates k (Field X v))
  unfolding each_field
  fields_does zero l r z F e (inl A) Z = absurd (omega (arith, A.0))
  fields_does {S} zero l r z F e (inr A) Z = ret_does r F (subst (λ m. Relates m (Field X v) S r) (omega (arith, e))
      (subst (λ j. Relates l (Field X j) S r) (omega (arith, A.1)) A.2))
  fields_does (suc i) l r z F e A Z =
      bind_does (field_up i l r z (eqb i v) refl F (omega arith) A Z) λ S₁ r' E₁ F₁ B.
      bind_does (zero_up l z F₁ (omega arith) (relates_ext E₁ Z)) λ S₂ z' E₂ F₂ Z'.
      fields_does i (suc l) r' z' F₂ (omega arith) (begun_ext E₂ B) Z'
    where
      begun_ext : {S S' : Store} {h : ℕ} → Extends S S' → Begun X v i (suc l) S h → Begun X v i (suc l) S' h
      begun_ext E (inl B) = inl (B.0, relates_ext E B.1)
      begun_ext E (inr B) = inr (B.0, B.1, relates_ext E B.2)

  built : {S : Store} → WellFormed k S → v < k → Does k S (each_field node v k 1 0) (Relates k (Field X v))
  built {S} F h = fields_does k 0 1 0 F (omega arith) (inl (h, record { held = omega arith; means = one })) (record { held = omega arith; means = nil })
    where
      one : (p q : List ℕ) → Packet 0 p → Packet 0 q → relates S 1 p q ↔ (p ≡ q)
      one p q none none = (λ x. refl, λ x. refl)

      nil : (p q : List ℕ) → Packet 0 p → Packet 0 q → relates S 0 p q ↔ ⊥
      nil p q none none = (λ x. omega arith, λ x. absurd x)

-- what a tested and an assigned field say of the packets
field_test : (b : Bool) (j : ℕ) {l : ℕ} {p q : List ℕ} → j < l → Packet l p → Packet l q → Field (Tested b) j p q ↔ Filter (Passes j b) p q
field_test b j h none none = absurd (omega arith)
field_test b zero h (more i x P) (more o y Q) = (
  λ r. let u = r.0.0 in let v = r.0.1 in let w = r.1 in (cc, u),
  λ r. let u = r.0 in let v = r.1 in
      ((v, cc), cc),
)
field_test b (suc j) h (more i x P) (more o y Q) = let s = field_test b j (omega arith) P Q in
    (λ r. let u = s.0 r.1 in let v = u.0 in let w = r.0 in (cc, u.1), λ r. let u = r.0 in (cc, s.1 (cc, r.1)))

field_assign : (b : Bool) (j : ℕ) {l : ℕ} {p q : List ℕ} → j < l → Packet l p → Packet l q → Field (Assigned b) j p q ↔ Assign j b p q
field_assign b j h none none = absurd (omega arith)
field_assign b zero h (more i x P) (more o y Q) = (λ r. let u = r.0 in let v = r.1 in cc, λ r. (cc, cc))
field_assign b (suc j) h (more i x P) (more o y Q) = let s = field_assign b j (omega arith) P Q in
    (λ r. let u = s.0 r.1 in let v = r.0 in cc, λ r. (cc, s.1 (cc)))

module _ {k : ℕ} {S : Store} (F : WellFormed k S) (v : ℕ) (b : Bool) (h : v < k) where
  pub test_does : Does k S (test rel k v b) (Relates k (Filter (Passes v b)))
  unfolding test
  test_does = post_does (λ S a. relates_iff (λ p q P Q. field_test b v h P Q)) (built (test_pattern b) v F h)

  pub assign_does : Does k S (assign k v b) (Relates k (Assign v b))
  unfolding assign
  assign_does = post_does (λ S a. relates_iff (λ p q P Q. field_assign b v h P Q)) (built (assign_pattern b) v F h)
