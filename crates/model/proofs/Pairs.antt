-- Relations on packets: a list of a relation's digits is a pair of packets, and what a handle relates is known child by child.
use mathlib.Core.Path.{◌≡◌, refl, subst, subst₂}
use mathlib.Core.Logic.Iff
use mathlib.Core.Logic.{◌⊎◌, ◌↔◌}
use mathlib.Core.List.{List, [], ◌∷◌}
use mathlib.Core.Bool.{Bool, true, false, not}
use Prim.Native.Nat.{ℕ, suc, ◌+◌, ◌*◌, ◌/◌, ◌%◌, ◌<◌, ◌≤◌}
use native.Mathlib.Omega.{arith}
use lib.ListN.{get_or}
use lib.Dec.{eqb, T, eqb→eq, eqb_refl}
use Rattle.model.specs.Meaning.{Sem, Rel, Den, Relates, Lasts, Same, Some}
use Rattle.model.specs.Operations.{zero_at_depth, top_at_depth, union}
use Rattle.model.specs.Packets.{Digits, none, more, Packet, digits, relates}
use Rattle.model.specs.Programs.{is_identity, ending, mk}
use Rattle.model.specs.Recursion.{x00, x01, x10, x11}
use Rattle.model.specs.Store.{rel, Store, pick, get, child}
use Rattle.model.specs.WellFormed.{Held, WellFormed, Extends}
use Rattle.model.proofs.Bools.{on_digits}
use Rattle.model.proofs.Canonical.{canonical↔}
use Rattle.model.proofs.Constants.{zero_does, full_does}
use Rattle.model.proofs.Extends.{ext_lasts}
use Rattle.model.proofs.Pointwise.{union_does}
use Rattle.model.proofs.Rules.{Kept, Does, den_iff, Node, post_does, mk_does}
use Rattle.model.proofs.Tests.{empty, full, ident, den_agrees, den_empty, den_full, den_some}

abbrev inputs : List ℕ → List ℕ
inputs [] = []
inputs (d ∷ ds) = d / 2 ∷ inputs ds

abbrev outputs : List ℕ → List ℕ
outputs [] = []
outputs (d ∷ ds) = d % 2 ∷ outputs ds

-- a relation as a meaning of digits
abbrev pub Of : Rel → Sem
Of R ds = R (inputs ds) (outputs ds)

inputs_packet : {l : ℕ} {ds : List ℕ} → Digits rel l ds → Packet l (inputs ds)
inputs_packet none = none
inputs_packet (more d i D) = more (d / 2) (omega arith) (inputs_packet D)

outputs_packet : {l : ℕ} {ds : List ℕ} → Digits rel l ds → Packet l (outputs ds)
outputs_packet none = none
outputs_packet (more d i D) = more (d % 2) (omega arith) (outputs_packet D)

digits_back : (ds : List ℕ) → digits (inputs ds) (outputs ds) ≡ ds
digits_back [] = refl
digits_back (d ∷ ds) = let e : 2 * (d / 2) + d % 2 ≡ d = omega arith in cc (digits_back ds)

record Joined (l : ℕ) (p q ds : List ℕ) : Type 0 where
  joined : Digits rel l ds
  first : inputs ds ≡ p
  second : outputs ds ≡ q

join : {l : ℕ} {p q : List ℕ} → Packet l p → Packet l q → Joined l p q (digits p q)
join none none = record { joined = none; first = refl; second = refl }
join (more i a P) (more o b Q) = let j = join P Q in
    let x : (2 * i + o) / 2 ≡ i = omega arith in
    let y : (2 * i + o) % 2 ≡ o = omega arith in
    record { joined = more (2 * i + o) (omega arith) j.joined; first = cc j.first; second = cc j.second }

pub digits_of : {l : ℕ} {p q : List ℕ} → Packet l p → Packet l q → Digits rel l (digits p q)
digits_of P Q = (join P Q).joined

-- what holds of every list of digits holds of every pair of packets
by_pairs : {l : ℕ} (P : Rel) → ((ds : List ℕ) → Digits rel l ds → P (inputs ds) (outputs ds)) → (p q : List ℕ) → Packet l p → Packet l q → P p q
by_pairs P H p q a b = let j = join a b in subst₂ P j.first j.second (H (digits p q) j.joined)

-- the two ways to say what a relation's handle means
module _ {l : ℕ} {R : Rel} {S : Store} {h : ℕ} where
  pub relates_den : Relates l R S h → Den rel l (Of R) S h
  relates_den A = record {
    held = A.held;
    means = λ ds D. rw digits_back at (A.means (inputs ds) (outputs ds) (inputs_packet D) (outputs_packet D));
  }

  pub den_relates : Den rel l (Of R) S h → Relates l R S h
  den_relates A = record {
    held = A.held;
    means = by_pairs (λ p q. relates S h p q ↔ R p q) (λ ds D. rw digits_back (A.means ds D));
  }

pub relates_iff : {l : ℕ} {R R' : Rel} {S : Store} {h : ℕ} → Same l R R' → Relates l R S h → Relates l R' S h
relates_iff e A = record { held = A.held; means = λ p q P Q. Iff.trans (A.means p q P Q) (e p q P Q) }

pub relates_lasts : {l : ℕ} {R : Rel} {S S' : Store} {h : ℕ} → Lasts rel S S' l h → Relates l R S h → Relates l R S' h
relates_lasts L A = record { held = L.held; means = λ p q P Q. rw (L.walks _ (digits_of P Q)) (A.means p q P Q) }

pub relates_ext : {l : ℕ} {R : Rel} {S S' : Store} {h : ℕ} → Extends S S' → Relates l R S h → Relates l R S' h
relates_ext E A = relates_lasts (ext_lasts E A.held) A

pub relates_kept : (l : ℕ) (R : Rel) → Kept (Relates l R)
relates_kept l R S S' h E A = relates_ext E A

-- the pairs that a held handle relates
pub relates_own : (S : Store) (l a : ℕ) → Held rel S l a → Relates l (relates S a) S a
relates_own S l a A = record { held = A; means = λ p q P Q. (λ x. x, λ x. x) }

-- the part of R on packets that begin with i and o; the relation with the parts M i o
abbrev pub block : Rel → ℕ → ℕ → Rel
block R i o p q = R (i ∷ p) (o ∷ q)

abbrev pub Matrix : (ℕ → ℕ → Rel) → Rel
Matrix M [] q = ⊥
Matrix M (i ∷ p) [] = ⊥
Matrix M (i ∷ p) (o ∷ q) = M i o p q

pub relates_child : {l : ℕ} {R : Rel} {S : Store} {h : ℕ} → Relates (suc l) R S h → (i o : ℕ) → i < 2 → o < 2
    → Relates l (block R i o) S (child rel S h (2 * i + o))
relates_child A i o a b = record { held = A.held.below (2 * i + o) (omega arith); means = λ p q P Q. A.means (i ∷ p) (o ∷ q) (more i a P) (more o b Q) }

-- the children by the Rust's names
module _ {l : ℕ} {R : Rel} {S : Store} {h : ℕ} (A : Relates (suc l) R S h) where
  pub relates_x00 : Relates l (block R 0 0) S (x00 (get rel S h))
  relates_x00 = relates_child A 0 0 (omega arith) (omega arith)

  pub relates_x01 : Relates l (block R 0 1) S (x01 (get rel S h))
  relates_x01 = relates_child A 0 1 (omega arith) (omega arith)

  pub relates_x10 : Relates l (block R 1 0) S (x10 (get rel S h))
  relates_x10 = relates_child A 1 0 (omega arith) (omega arith)

  pub relates_x11 : Relates l (block R 1 1) S (x11 (get rel S h))
  relates_x11 = relates_child A 1 1 (omega arith) (omega arith)

module _ {k : ℕ} where
  -- a node of four children makes the matrix of what they relate
  pub mk_relates : {S : Store} (l a b c d : ℕ) (R : Rel) → WellFormed k S → l < k
      → Relates l (block R 0 0) S a → Relates l (block R 0 1) S b → Relates l (block R 1 0) S c → Relates l (block R 1 1) S d
      → Does k S (mk rel (a ∷ b ∷ c ∷ d ∷ [])) (Relates (suc l) R)
  mk_relates {S} l a b c d R F i A B C D = post_does (λ S h X. den_relates (den_iff node X))
      (mk_does rel l (λ d. Of (block R (d / 2) (d % 2))) (a ∷ b ∷ c ∷ d ∷ []) F i refl
      (on_digits (λ n. Den rel l (Of (block R (n / 2) (n % 2))) S (get_or (a ∷ b ∷ c ∷ d ∷ []) n 0)) (relates_den A) (relates_den B) (relates_den C)
      (relates_den D)))
    where
      node : (ds : List ℕ) → Digits rel (suc l) ds → Node (λ d. Of (block R (d / 2) (d % 2))) ds ↔ Of R ds
      node ds (more d i D) = (λ p. p, λ p. p)

  -- pointwise operations of relations, as relations
  pub union_relates : {R R' : Rel} {S : Store} (l a b : ℕ) → WellFormed k S → l ≤ k → Relates l R S a → Relates l R' S b
      → Does k S (union rel l a b) (Relates l (λ p q. R p q ⊎ R' p q))
  union_relates l a b F i A B = post_does (λ S h C. den_relates C) (union_does rel l a b F i (relates_den A) (relates_den B))

  pub zero_relates : {R : Rel} {S : Store} (l : ℕ) → l ≤ k → WellFormed k S → ((p q : List ℕ) → Packet l p → Packet l q → ¬ R p q)
      → Does k S (zero_at_depth rel l) (Relates l R)
  zero_relates {R} l i F n = post_does (λ S h C. den_relates C)
      (zero_does rel l i F (λ ds D. n (inputs ds) (outputs ds) (inputs_packet D) (outputs_packet D)))

  pub top_relates : {R : Rel} {S : Store} (l : ℕ) → l ≤ k → WellFormed k S → ((p q : List ℕ) → Packet l p → Packet l q → R p q)
      → Does k S (top_at_depth l) (Relates l R)
  top_relates {R} l i F n = post_does (λ S h C. den_relates C) (full_does rel l i F (λ ds D. n (inputs ds) (outputs ds) (inputs_packet D) (outputs_packet D)))

-- what the tests say of a relation
identity_iff : (ds : List ℕ) → (ending is_identity ds ≡ 1) ↔ (inputs ds ≡ outputs ds)
identity_iff [] = (λ e. refl, λ e. refl)
identity_iff (d ∷ ds) = go (eqb (d / 2) (d % 2)) (d / 2) (d % 2) refl (identity_iff ds)
  where
    go : (b : Bool) (x y : ℕ) → eqb x y ≡ b → (ending is_identity ds ≡ 1) ↔ (inputs ds ≡ outputs ds)
        → (pick b (ending is_identity ds) 0 ≡ 1) ↔ (x ∷ inputs ds ≡ y ∷ outputs ds)
    go true x y e h = let z = eqb→eq x y (rw e tt) in (λ p. cc (h.0 p), λ p. h.1 (cc))
    go false x y e h = (λ p. absurd (omega arith), λ p. let z : x ≡ y = cc in absurd (rw e at (subst (λ n. T (eqb x n)) z (eqb_refl x))))

module _ {l : ℕ} {R : Rel} {S : Store} {a : ℕ} (A : Relates l R S a) where
  pub rel_empty : T (empty rel l a S) → (p q : List ℕ) → Packet l p → Packet l q → ¬ R p q
  rel_empty t = by_pairs (λ p q. ¬ R p q) (den_empty (relates_den A) t)

  pub rel_full : T (full rel l a S) → (p q : List ℕ) → Packet l p → Packet l q → R p q
  rel_full t = by_pairs R (den_full (relates_den A) t)

  pub rel_ident : T (ident l a S) → (p q : List ℕ) → Packet l p → Packet l q → (p ≡ q) ↔ R p q
  rel_ident t = by_pairs (λ p q. (p ≡ q) ↔ R p q)
      (λ ds D. let e = identity_iff ds in let f = den_agrees (relates_den A) (ending is_identity) t ds D in (λ p. f.0 (e.1 p), λ r. e.0 (f.1 r)))

  pub rel_some : T (not (empty rel l a S)) → Some l (λ p. Some l (λ q. R p q))
  rel_some t = let c = den_some (relates_den A) t in (inputs c.0, inputs_packet c.1, (outputs c.0, outputs_packet c.1, c.2))

-- equal relations have one handle
pub one_handle : {k l : ℕ} {R R' : Rel} {S : Store} (a b : ℕ) → WellFormed k S → Relates l R S a → Relates l R' S b → Same l R R' → a ≡ b
one_handle {l = l} a b F A B e = canonical↔ rel l a b F A.held B.held (λ ds D.
    Iff.trans ((relates_den A).means ds D) (Iff.trans (e (inputs ds) (outputs ds) (inputs_packet D) (outputs_packet D))
    (Iff.symm ((relates_den B).means ds D))))
