-- `mk` keeps a store well formed; its handle is held and has the children given.
use mathlib.Core.Path.{◌≡◌, refl, sym, ap, ◌∙◌, subst}
use mathlib.Core.Logic.{◌⊎◌, inl, inr}
use mathlib.Core.List.{List, [], ◌∷◌, ◌++◌}
use mathlib.Core.Bool.{Bool, true, false}
use Prim.Native.Nat.{ℕ, zero, suc, ◌%◌, ◌<◌, ◌≤◌}
use native.Mathlib.Omega.{arith}
use native.Mathlib.Decide.{dec_lt}
use lib.ListN.{length, get_or, length-append, get_or-append}
use lib.Seq.{get_or-append_seam}
use lib.Dec.{eqb, T, eqb→eq, eqb_refl}
use Rattle.model.specs.Packets.{Digits, walk}
use Rattle.model.specs.Store.{Kind, set, rel, arity, Nodes, Store, nodes, with_nodes, pick, signed, handle_of, get, same_node, place, having}
use Rattle.model.specs.Store.{sign, stored, mk_store, mk_handle}
use Rattle.model.specs.WellFormed.{Held, Even, Fits, Distinct, WellFormed, Extends}
use Rattle.model.proofs.Bools.{and_T, both_T}
use Rattle.model.proofs.Canonical.{formed_sized}
use Rattle.model.proofs.Complements.{with_sign_held}
use Rattle.model.proofs.Extends.{append_nil, ext_node, ext_held, ext_walk, ext_fits}
use Rattle.model.proofs.Signs.{index_handle, with_sign_handle, length_with_sign}

same_node→eq : (x y : List ℕ) → T (same_node x y) → x ≡ y
same_node→eq [] [] t = refl
same_node→eq [] (b ∷ y) t = absurd t
same_node→eq (a ∷ x) [] t = absurd t
same_node→eq (a ∷ x) (b ∷ y) t = let r = and_T (eqb a b) (same_node x y) t in cc (eqb→eq a b r.0, same_node→eq x y r.1)

pub same_node_refl : (x : List ℕ) → T (same_node x x)
same_node_refl [] = tt
same_node_refl (a ∷ x) = both_T (eqb a a) (same_node x x) (eqb_refl a) (same_node_refl x)

-- M is N having x, and x is there at p
pub record Had (x : List ℕ) (N M : Nodes) (p : ℕ) : Type 0 where
  pub tail : Nodes
  pub split : M ≡ N ++ tail
  pub inside : p < length M
  pub found : get_or M p [] ≡ x
  -- nothing is added, or one node that was not there, and it is at the end
  pub new : (M ≡ N) ⊎ ((M ≡ N ++ (x ∷ [])) × (p ≡ length N) × ((i : ℕ) → i < length N → ¬ (get_or N i [] ≡ x)))

pub had : (x : List ℕ) (N : Nodes) → Had x N (having x N) (place x N)
unfolding place having
had x [] = record { tail = x ∷ []; split = refl; inside = omega arith; found = refl; new = inr (refl, refl, λ i h. absurd (omega arith)) }
had x (y ∷ N) = go (same_node x y) refl (had x N)
  where
    other : {M : Nodes} {p : ℕ} → ¬ (y ≡ x) → (M ≡ N) ⊎ ((M ≡ N ++ (x ∷ [])) × (p ≡ length N) × ((i : ℕ) → i < length N → ¬ (get_or N i [] ≡ x)))
        → (y ∷ M ≡ y ∷ N) ⊎ ((y ∷ M ≡ y ∷ (N ++ (x ∷ []))) × (suc p ≡ suc (length N)) × ((i : ℕ) → i < suc (length N) → ¬ (get_or (y ∷ N) i [] ≡ x)))
    other ne (inl e) = inl (ap (λ M. y ∷ M) e)
    other ne (inr e) = inr (ap (λ M. y ∷ M) e.0, ap suc e.1, elim [ zero ↦ λ h. ne | suc i ↦ λ h. e.2 i (omega arith) ])

    go : (b : Bool) → same_node x y ≡ b → Had x N (having x N) (place x N) → Had x (y ∷ N) (pick b (y ∷ N) (y ∷ having x N)) (pick b 0 (suc (place x N)))
    go true e h = record { tail = []; split = sym (append_nil (y ∷ N)); inside = omega arith; found = sym (same_node→eq x y (rw e tt)); new = inl refl }
    go false e h = record {
      tail = h.tail;
      split = ap (λ M. y ∷ M) h.split;
      inside = omega arith;
      found = h.found;
      new = other (λ q. rw e at (subst (λ z. T (same_node x z)) (sym q) (same_node_refl x))) h.new;
    }

pub had_cover : {x : List ℕ} {N M : Nodes} {p : ℕ} → Had x N M p → (i : ℕ) → i < length M → (i < length N) ⊎ ((get_or M i [] ≡ x) × (i ≡ length N))
had_cover {x} {N} {M} {p} h i b = go h.new (dec_lt i (length N))
  where
    go : (M ≡ N) ⊎ ((M ≡ N ++ (x ∷ [])) × (p ≡ length N) × ((i : ℕ) → i < length N → ¬ (get_or N i [] ≡ x))) → Dec (i < length N)
        → (i < length N) ⊎ ((get_or M i [] ≡ x) × (i ≡ length N))
    go q (yes o) = inl o
    go (inl e) (no o) = inl (subst (λ L. i < length L) e b)
    go (inr e) (no o) =
        let c : i ≡ length N = omega (arith, rw length-append at (subst (λ L. i < length L) e.0 b)) in
        inr (rw (e.0, c) (get_or-append_seam N x [] []), c)

had_distinct : {x : List ℕ} {N M : Nodes} {p : ℕ} → Had x N M p → Distinct N → Distinct M
had_distinct {x} {N} {M} {p} h O = go h.new
  where
    go : (M ≡ N) ⊎ ((M ≡ N ++ (x ∷ [])) × (p ≡ length N) × ((i : ℕ) → i < length N → ¬ (get_or N i [] ≡ x))) → Distinct M
    go (inl e) i j a b q = subst Distinct (sym e) O i j a b q
    go (inr e) i j a b q = both (had_cover h i a) (had_cover h j b)
      where
        old : (n : ℕ) → n < length N → get_or M n [] ≡ get_or N n []
        old n c = rw e.0 (get_or-append N (x ∷ []) [] n c)

        both : (i < length N) ⊎ ((get_or M i [] ≡ x) × (i ≡ length N)) → (j < length N) ⊎ ((get_or M j [] ≡ x) × (j ≡ length N)) → i ≡ j
        both (inl c) (inl d) = O i j c d (sym (old i c) ∙ q ∙ old j d)
        both (inl c) (inr d) = absurd (e.2 i c (sym (old i c) ∙ q ∙ d.0))
        both (inr c) (inl d) = absurd (e.2 j d (sym (old j d) ∙ sym q ∙ c.0))
        both (inr c) (inr d) = c.1 ∙ sym d.1

-- what holds of the changed list and of the lists as they were
pub only : (K : Kind) (S : Store) (M : Nodes) (P : Kind → Nodes → Type 0) → P K M → ((J : Kind) → P J (nodes J S)) → (J : Kind)
    → P J (nodes J (with_nodes K M S))
only set S M P a b set = a
only set S M P a b rel = b rel
only rel S M P a b set = b set
only rel S M P a b rel = a

module _ (K : Kind) (x : List ℕ) (S : Store) where
  pub mk_nodes : nodes K (mk_store K x S) ≡ having (stored K x) (nodes K S)
  unfolding mk_store
  mk_nodes = elim K as (λ J. nodes J (with_nodes J (having (stored J x) (nodes J S)) S) ≡ having (stored J x) (nodes J S)) [ set ↦ refl | rel ↦ refl ]

  pub mk_ext : Extends S (mk_store K x S)
  unfolding mk_store
  mk_ext =
      let h = had (stored K x) (nodes K S) in
      let g = only K S (having (stored K x) (nodes K S)) (λ J M. (ys : Nodes) × (M ≡ nodes J S ++ ys)) (h.tail, h.split)
      (λ J. ([], sym (append_nil (nodes J S)))) in
      record { tail = λ J. (g J).0; split = λ J. (g J).1 }

  pub mk_get : get K (mk_store K x S) (mk_handle K x S) ≡ x
  unfolding get mk_handle
  mk_get =
      let s : sign x < 2 = omega arith in
      let p = place (stored K x) (nodes K S) in
      rw (index_handle K (sign x) p, mk_nodes, (had (stored K x) (nodes K S)).found) (with_sign_handle K (sign x) p x s)

pub handle_big : (K : Kind) (s i : ℕ) → 2 ≤ handle_of K s i
handle_big rel s i = omega arith
handle_big set zero i = omega arith
handle_big set (suc s) i = omega arith

pub held_early : (K : Kind) (S : Store) (l h : ℕ) → Held K S l h → h < handle_of K 0 (length (nodes K S))
held_early rel S zero h A = omega arith
held_early set S zero h A = omega arith
held_early rel S (suc l) h A = omega arith
held_early set S (suc l) h A = omega arith

stored_even : (K : Kind) (x : List ℕ) → Even K (stored K x)
stored_even rel x = tt
stored_even set [] = refl
stored_even set (a ∷ x) = go (a % 2) refl
  where
    go : (s : ℕ) → a % 2 ≡ s → signed s a % 2 ≡ 0
    go zero e = e
    go (suc s) e = omega arith

module _ {k l : ℕ} {S : Store} (K : Kind) (x : List ℕ) (F : WellFormed k S) (b : l < k) (n : length x ≡ arity K)
    (H : (d : ℕ) → d < arity K → Held K S l (get_or x d 0)) where
  pub mk_held : Held K (mk_store K x S) (suc l) (mk_handle K x S)
  unfolding mk_handle
  mk_held = record {
    big = handle_big K (sign x) (place (stored K x) (nodes K S));
    there = rw (index_handle K (sign x) (place (stored K x) (nodes K S)), mk_nodes K x S) (had (stored K x) (nodes K S)).inside;
    below = λ d i. rw (mk_get K x S) (ext_held (mk_ext K x S) K l _ (H d i));
  }

  stored_fits : (S' : Store) → Extends S S' → Fits k K S' (length (nodes K S)) (stored K x)
  stored_fits S' E = record {
    sized = length_with_sign K (sign x) x ∙ n;
    level = l;
    under = b;
    below = λ d i. ext_held E K l _ (with_sign_held l K (sign x) x (formed_sized K F) n H d i);
    earlier = λ d i. held_early K S l _ (with_sign_held l K (sign x) x (formed_sized K F) n H d i);
    even = stored_even K x;
  }

  pub mk_formed : WellFormed k (mk_store K x S)
  unfolding mk_store
  mk_formed =
      let M = having (stored K x) (nodes K S) in
      let h = had (stored K x) (nodes K S) in
      let S' = with_nodes K M S in
      let E : Extends S S' = mk_ext K x S in
      let cover : (J : Kind) (i : ℕ) → i < length (nodes J S') → (i < length (nodes J S)) ⊎ Fits k J S' i (get_or (nodes J S') i [])
      = only K S M (λ J L. (i : ℕ) → i < length L → (i < length (nodes J S)) ⊎ Fits k J S' i (get_or L i []))
      (λ i c. elim (had_cover h i c) [ inl o ↦ inl o | inr q ↦ inr (rw (q.0, q.1) (stored_fits S' E)) ])
      (λ J i c. inl c) in
      record {
        fits = λ J i c. elim (cover J i c) [ inl o ↦ rw (ext_node E J i o) (ext_fits E (F.fits J i o)) | inr f ↦ f ];
        distinct = only K S M (λ J L. Distinct L) (had_distinct h (F.distinct K)) F.distinct;
      }

  pub mk_walk : (d : ℕ) {ds : List ℕ} → d < arity K → Digits K l ds → walk K (mk_store K x S) (mk_handle K x S) (d ∷ ds) ≡ walk K S (get_or x d 0) ds
  mk_walk d i D = rw (mk_get K x S) (ext_walk (mk_ext K x S) (get_or x d 0) (H d i) D)
