-- `sequence` is composition: the two by two product of what the children relate.
use mathlib.Core.Path.{refl}
use mathlib.Core.Logic.{◌⊎◌, inl, inr, ◌↔◌}
use mathlib.Core.List.{List, ◌∷◌}
use mathlib.Core.Bool.{not}
use Prim.Native.Nat.{ℕ, zero, suc, ◌<◌, ◌≤◌}
use native.Mathlib.Omega.{arith}
use lib.Dec.{T}
use Rattle.model.specs.Meaning.{Rel, Relates, Same, Compose}
use Rattle.model.specs.Operations.{union}
use Rattle.model.specs.Packets.{more, Packet}
use Rattle.model.specs.Programs.{is_empty, is_identity, agrees, has, Prog}
use Rattle.model.specs.Relations.{sequence_op, sequence}
use Rattle.model.specs.Store.{rel, Store, get}
use Rattle.model.specs.WellFormed.{WellFormed, Extends}
use Rattle.model.proofs.Extends.{ext_refl, ext_trans}
use Rattle.model.proofs.Pairs.{relates_iff, relates_ext, block, relates_x00, relates_x01, relates_x10, relates_x11, mk_relates}
use Rattle.model.proofs.Pairs.{union_relates, rel_empty, rel_ident}
use Rattle.model.proofs.Recursion.{Sound2, op2_does}
use Rattle.model.proofs.Rules.{Kept, Does, ret_does, ask_does, post_does, four_does}
use Rattle.model.proofs.Tests.{empty, ident, bit_above}

compose_split : (l : ℕ) (R R' : Rel) (i o : ℕ) → Same l (λ p q. Compose l (block R i 0) (block R' 0 o) p q ⊎ Compose l (block R i 1) (block R' 1 o) p q)
    (block (Compose (suc l) R R') i o)
compose_split l R R' i o p q P Q = (elim [ inl c ↦ back 0 (omega arith) c | inr c ↦ back 1 (omega arith) c ], λ c. there c.0 c.1 c.2 c.3)
  where
    there : (m : List ℕ) → Packet (suc l) m → R (i ∷ p) m → R' m (o ∷ q)
        → Compose l (block R i 0) (block R' 0 o) p q ⊎ Compose l (block R i 1) (block R' 1 o) p q
    there m (more {ds = m'} zero b M) r t = inl (m', M, r, t)
    there m (more {ds = m'} (suc zero) b M) r t = inr (m', M, r, t)
    there m (more {ds = m'} (suc (suc n)) b M) r t = absurd (omega arith)

    back : (n : ℕ) → n < 2 → Compose l (block R i n) (block R' n o) p q → Compose (suc l) R R' (i ∷ p) (o ∷ q)
    back n b c = (n ∷ c.0, more n b c.1, c.2, c.3)

abbrev Relates2 : ℕ → Rel × Rel → Store → ℕ → ℕ → Type 0
Relates2 l i S a b = Relates l i.0 S a × Relates l i.1 S b

abbrev Composed : ℕ → Rel × Rel → Store → ℕ → Type 0
Composed l i S h = Relates l (Compose l i.0 i.1) S h

module _ {k : ℕ} where
  sequence_short : (l : ℕ) (i : Rel × Rel) (S : Store) (a b : ℕ) (node : ℕ → ℕ → Prog) → WellFormed k S → l ≤ k → Relates2 l i S a b
      → (0 < l → (j : Rel × Rel) (a b : ℕ) → Relates2 l j S a b → Does k S (node a b) (Composed l j))
      → Does k S (sequence_op.short l a b node) (Composed l i)
  unfolding agrees
  sequence_short l i S a b node F u AB G = let A = AB.0 in let B = AB.1 in
      ask_does (has is_empty rel l a) A.held (λ t. ret_does a F (relates_iff (λ p q P Q. left p q P Q (inl t)) A))
      (λ t₁. ask_does (has is_identity rel l b) B.held (λ t. ret_does a F (relates_iff (λ p q P Q. left p q P Q (inr t)) A))
      (λ t₂. ask_does (has is_empty rel l b) B.held (λ t. ret_does b F (relates_iff (λ p q P Q. right p q P Q (inl t)) B))
      (λ t₃. ask_does (has is_identity rel l a) A.held (λ t. ret_does b F (relates_iff (λ p q P Q. right p q P Q (inr t)) B))
      (λ t₄. last l AB G t₃ t₂))))
    where
      left : (p q : List ℕ) → Packet l p → Packet l q → T (empty rel l a S) ⊎ T (ident l b S) → i.0 p q ↔ Compose l i.0 i.1 p q
      left p q P Q (inl t) = (λ r. absurd (rel_empty AB.0 t p q P Q r), λ c. absurd (rel_empty AB.0 t p c.0 P c.1 c.2))
      left p q P Q (inr t) = (λ r. (q, Q, r, (rel_ident AB.1 t q q Q Q).0 refl), λ c. rw (← (rel_ident AB.1 t c.0 q c.1 Q).1 c.3) c.2)

      right : (p q : List ℕ) → Packet l p → Packet l q → T (empty rel l b S) ⊎ T (ident l a S) → i.1 p q ↔ Compose l i.0 i.1 p q
      right p q P Q (inl t) = (λ r. absurd (rel_empty AB.1 t p q P Q r), λ c. absurd (rel_empty AB.1 t c.0 q c.1 Q c.3))
      right p q P Q (inr t) = (λ r. (p, P, (rel_ident AB.0 t p p P P).0 refl, r), λ c. rw ((rel_ident AB.0 t p c.0 P c.1).1 c.2) c.3)

      -- at level 0 the full relation is the identity
      last : (l : ℕ) → Relates2 l i S a b → (0 < l → (j : Rel × Rel) (a b : ℕ) → Relates2 l j S a b → Does k S (node a b) (Composed l j))
          → T (not (empty rel l b S)) → T (not (ident l b S))
          → Does k S (node a b) (Composed l i)
      last zero AB G t u = bit_above rel zero b S AB.1.held t u (λ p. absurd (omega arith))
      last (suc l) AB G t u = G (omega arith) i a b AB

  sequence_kids : (l : ℕ) (i : Rel × Rel) (S : Store) (a b : ℕ) (f : ℕ → ℕ → Prog) → WellFormed k S → l < k → Relates2 (suc l) i S a b
      → ((j : Rel × Rel) (S : Store) (a b : ℕ) → WellFormed k S → Relates2 l j S a b → Does k S (f a b) (Composed l j))
      → Does k S (sequence_op.kids l f (get rel S a) (get rel S b)) (Composed (suc l) i)
  sequence_kids l i S a b f F u AB H =
      let x00' = relates_x00 AB.0 in
      let x01' = relates_x01 AB.0 in
      let x10' = relates_x10 AB.0 in
      let x11' = relates_x11 AB.0 in
      let y00 = relates_x00 AB.1 in
      let y01 = relates_x01 AB.1 in
      let y10 = relates_x10 AB.1 in
      let y11 = relates_x11 AB.1 in
      four_does (prod 0 0 0) (prod 0 1 0) (prod 0 0 1) (prod 0 1 1) (kept 0 0 0) (kept 0 1 0) (kept 0 0 1) (times S ext_refl F x00' y00)
      (λ S' E F. times S' E F x01' y10) (λ S' E F. times S' E F x00' y01) (λ S' E F. times S' E F x01' y11)
      λ S₁ p0 p1 p2 p3 E₁ F₁ P0 P1 P2 P3.
      four_does (prod 1 0 0) (prod 1 1 0) (prod 1 0 1) (prod 1 1 1) (kept 1 0 0) (kept 1 1 0) (kept 1 0 1) (times S₁ E₁ F₁ x10' y00)
      (λ S' E F. times S' (ext_trans E₁ E) F x11' y10) (λ S' E F. times S' (ext_trans E₁ E) F x10' y01) (λ S' E F. times S' (ext_trans E₁ E) F x11' y11)
      λ S₂ q0 q1 q2 q3 E₂ F₂ Q0 Q1 Q2 Q3.
      four_does (sum 0 0) (sum 0 1) (sum 1 0) (sum 1 1) (λ S S' h. relates_ext) (λ S S' h. relates_ext) (λ S S' h. relates_ext)
      (plus 0 0 S₂ F₂ (relates_ext E₂ P0) (relates_ext E₂ P1))
      (λ S' E F. plus 0 1 S' F (relates_ext (ext_trans E₂ E) P2) (relates_ext (ext_trans E₂ E) P3))
      (λ S' E F. plus 1 0 S' F (relates_ext E Q0) (relates_ext E Q1))
      (λ S' E F. plus 1 1 S' F (relates_ext E Q2) (relates_ext E Q3))
      λ S₃ r00 r01 r10 r11 E₃ F₃ R00 R01 R10 R11. mk_relates l r00 r01 r10 r11 (Compose (suc l) i.0 i.1) F₃ u R00 R01 R10 R11
    where
      prod : ℕ → ℕ → ℕ → Store → ℕ → Type 0
      prod n m o = Relates l (Compose l (block i.0 n m) (block i.1 m o))

      sum : ℕ → ℕ → Store → ℕ → Type 0
      sum n o = Relates l (block (Compose (suc l) i.0 i.1) n o)

      kept : (n m o : ℕ) → Kept (prod n m o)
      kept n m o S S' h = relates_ext

      times : {n m o c d : ℕ} (S' : Store) → Extends S S' → WellFormed k S' → Relates l (block i.0 n m) S c → Relates l (block i.1 m o) S d
          → Does k S' (f c d) (prod n m o)
      times {n} {m} {o} {c} {d} S' E F A B = H (block i.0 n m, block i.1 m o) S' c d F (relates_ext E A, relates_ext E B)

      plus : (n o : ℕ) {c d : ℕ} (S' : Store) → WellFormed k S' → prod n 0 o S' c → prod n 1 o S' d → Does k S' (union rel l c d) (sum n o)
      plus n o S' F A B = post_does (λ S h. relates_iff (compose_split l i.0 i.1 n o)) (union_relates l _ _ F (omega arith) A B)

  pub sequence_does : {R R' : Rel} {S : Store} (l a b : ℕ) → WellFormed k S → l ≤ k → Relates l R S a → Relates l R' S b
      → Does k S (sequence l a b) (Relates l (Compose l R R'))
  unfolding sequence
  sequence_does {R} {R'} {S} l a b F i A B = op2_does sound l (R, R') S a b F i (A, B)
    where
      sound : Sound2 k sequence_op (Rel × Rel) Relates2 Composed
      sound = record { held = λ l i S a b A. (A.0.held, A.1.held); short = sequence_short; kids = sequence_kids }
