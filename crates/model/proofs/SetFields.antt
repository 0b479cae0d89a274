-- `test` and `ifelse` of sets: the packets whose field has the value; one set where the field is 1, another elsewhere.
use mathlib.Core.Path.{◌≡◌, refl, sym, ap, ◌∙◌, subst}
use mathlib.Core.Logic.{inl, inr, ◌↔◌}
use mathlib.Core.List.{List, [], ◌∷◌}
use mathlib.Core.Bool.{Bool, true, false}
use Prim.Native.Nat.{ℕ, zero, suc, ◌+◌, ◌-◌, ◌<◌, ◌≤◌}
use native.Mathlib.Omega.{arith}
use native.Mathlib.Numerals.{add-one}
use native.Mathlib.Nat.{add-zero}
use lib.ListN.{get_or, drop}
use lib.Seq.{drop-drop, get_or-drop}
use Rattle.model.specs.Meaning.{Sem, Den, Passes, Choice}
use Rattle.model.specs.Operations.{raise, test}
use Rattle.model.specs.Packets.{Digits, none, more, Packet}
use Rattle.model.specs.Programs.{mk}
use Rattle.model.specs.Sets.{ifelse}
use Rattle.model.specs.Store.{set, Store, pick, signed}
use Rattle.model.specs.WellFormed.{WellFormed}
use Rattle.model.proofs.Bools.{on-bits}
use Rattle.model.proofs.Constants.{constant_does}
use Rattle.model.proofs.Pointwise.{den_not}
use Rattle.model.proofs.Rules.{Does, den_ext, den_iff, den_child, held_within, Node, ret_does, look_does, post_does, bind_does, mk_does}

module _ {k : ℕ} where
  -- `mk` of two, by cases on the first bit
  pub mk_set : {S : Store} {P Q : Sem} (l x y : ℕ) (X : Sem) → WellFormed k S → l < k → Den set l P S x → Den set l Q S y
      → ((p : List ℕ) → P p ↔ X (0 ∷ p)) → ((p : List ℕ) → Q p ↔ X (1 ∷ p)) → Does k S (mk set (x ∷ y ∷ [])) (Den set (suc l) X)
  mk_set {S} l x y X F i A B e f = post_does (λ S h. den_iff whole) (mk_does set l (λ d p. X (d ∷ p)) (x ∷ y ∷ []) F i refl
      (on-bits (λ d. Den set l (λ p. X (d ∷ p)) S (get_or (x ∷ y ∷ []) d 0)) (den_iff (λ p P. e p) A) (den_iff (λ p P. f p) B)))
    where
      whole : (ds : List ℕ) → Digits set (suc l) ds → Node (λ d p. X (d ∷ p)) ds ↔ X ds
      whole ds (more d i D) = (λ x. x, λ x. x)

  raise_does : {P : Sem} {S : Store} (n l r : ℕ) → WellFormed k S → n + l ≤ k → Den set l P S r → Does k S (raise n r) (Den set (n + l) (λ p. P (drop n p)))
  unfolding raise
  raise_does {P} {S} zero l r F i A = ret_does r F (subst (λ m. Den set m P S r) (omega arith) A)
  raise_does {P} {S} (suc n) l r F i A =
      bind_does (mk_set l r r (λ p. P (drop 1 p)) F (omega arith) A A (λ p. (λ x. x, λ x. x)) (λ p. (λ x. x, λ x. x))) λ S₁ s E₁ F₁ B.
      post_does (λ S h C. subst (λ m. Den set m (λ p. P (drop (suc n) p)) S h) (omega arith)
      (den_iff (λ p Q. let e = dropped p in (λ x. subst P e x, λ x. subst P (sym e) x)) C))
      (raise_does n (suc l) s F₁ (omega arith) B)
    where
      dropped : (p : List ℕ) → drop 1 (drop n p) ≡ drop (suc n) p
      dropped p = drop-drop 1 n p ∙ ap (λ m. drop m p) (add-one n)

  pub ifelse_does : (l v t e : ℕ) {P Q : Sem} {S : Store} → WellFormed k S → l ≤ k → v < l → Den set l P S t → Den set l Q S e
      → Does k S (ifelse l v t e) (Den set l (Choice v P Q))
  unfolding ifelse
  ifelse_does zero v t e F i h A B = absurd (omega arith)
  ifelse_does (suc l) zero t e {P} {Q} F i h A B = look_does set t (held_within l A.held) (look_does set e (held_within l B.held)
      (mk_set l _ _ (Choice 0 P Q) F i (den_child B 0 (omega arith)) (den_child A 1 (omega arith))
      (λ p. (λ x. inr (refl, x), elim [ inl x ↦ absurd (omega (arith, x.0)) | inr x ↦ x.1 ]))
      (λ p. (λ x. inl (refl, x), elim [ inl x ↦ x.1 | inr x ↦ absurd (omega (arith, x.0)) ]))))
  ifelse_does (suc l) (suc v) t e {P} {Q} F i h A B = look_does set t (held_within l A.held) (look_does set e (held_within l B.held)
      (bind_does (ifelse_does l v _ _ F (omega arith) (omega arith) (den_child A 0 (omega arith)) (den_child B 0 (omega arith))) λ S₁ x E₁ F₁ C.
      bind_does (ifelse_does l v _ _ F₁ (omega arith) (omega arith) (den_ext E₁ (den_child A 1 (omega arith))) (den_ext E₁ (den_child B 1 (omega arith))))
      λ S₂ y E₂ F₂ D.
      mk_set l x y (Choice (suc v) P Q) F₂ i (den_ext E₂ C) D (λ p. (λ x. x, λ x. x)) (λ p. (λ x. x, λ x. x))))

packet_bit : {l : ℕ} {p : List ℕ} (v : ℕ) → Packet l p → get_or p v 0 < 2
packet_bit v none = omega arith
packet_bit zero (more d i P) = i
packet_bit (suc v) (more d i P) = packet_bit v P

pub set_test_does : {k : ℕ} {S : Store} (v : ℕ) (b : Bool) → WellFormed k S → v < k → Does k S (test set k v b) (Den set k (Passes v b))
unfolding test
set_test_does {k} v b F h =
    bind_does (constant_does set 0 (k - v - 1) (omega arith) (omega arith) F) λ S₁ z E₁ F₁ A.
    bind_does (mk_set (k - v - 1) z (signed 1 z) (λ p. get_or p 0 0 ≡ 1) F₁ (omega arith) A (den_not F₁ A) (λ p. (λ x. x, λ x. x))
    (λ p. (λ x. refl, λ x e. omega arith))) λ S₂ r E₂ F₂ B.
    bind_does (raise_does v (suc (k - v - 1)) r F₂ (omega arith) B) λ S₃ s E₃ F₃ C.
    let e : v + suc (k - v - 1) ≡ k = omega arith in
    let D : Den set k (λ p. get_or p v 0 ≡ 1) S₃ s = den_iff (λ p P. rw get_or-drop (rw add-zero (λ x. x, λ x. x)))
    (subst (λ m. Den set m (λ p. get_or (drop v p) 0 0 ≡ 1) S₃ s) e C) in
    ret_does _ F₃ (signed_as b F₃ D)
  where
    zero_of : (n : ℕ) → n < 2 → ¬ (n ≡ 1) → n ≡ 0
    zero_of n b x = omega arith

    signed_as : {S : Store} {s : ℕ} (b : Bool) → WellFormed k S → Den set k (λ p. get_or p v 0 ≡ 1) S s → Den set k (Passes v b) S (signed (pick b 0 1) s)
    signed_as true F D = D
    signed_as false F D = den_iff (λ p P. (λ n. zero_of (get_or p v 0) (packet_bit v P) n, λ e f. omega arith)) (den_not F D)
