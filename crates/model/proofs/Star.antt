-- `one` of relations is the identity, `star` any finite number of steps, `flip` the converse; `naive_forward` and `backward`.
use mathlib.Core.Path.{◌≡◌, refl, ◌∙◌, subst}
use mathlib.Core.Logic.{◌⊎◌, inl, inr, ◌↔◌}
use mathlib.Core.List.{List, []}
use Prim.Native.Nat.{ℕ, zero, suc, ◌<◌, ◌≤◌}
use native.Mathlib.Omega.{arith}
use lib.Dec.{T, ltb→lt, nltb→le}
use Rattle.model.specs.Meaning.{Rel, Relates, Star, Range, Domain}
use Rattle.model.specs.Operations.{identity_at_depth}
use Rattle.model.specs.Packets.{none, Packet, relates}
use Rattle.model.specs.Programs.{is_empty, is_universal, is_identity, less, has, Prog}
use Rattle.model.specs.Relations.{star_op, star, flip_op, flip, naive_forward, backward}
use Rattle.model.specs.Store.{rel, Store, get}
use Rattle.model.specs.WellFormed.{WellFormed}
use Rattle.model.proofs.Constants.{constant_does}
use Rattle.model.proofs.Extends.{ext_trans}
use Rattle.model.proofs.Kleene.{stop, step, Ways, way_blocks, ways_blocks, ways_steps}
use Rattle.model.proofs.Pairs.{den_relates, relates_iff, relates_ext, block, Matrix, relates_x00, relates_x01, relates_x10, relates_x11}
use Rattle.model.proofs.Pairs.{mk_relates, union_relates, top_relates, rel_empty, rel_full, rel_ident}
use Rattle.model.proofs.Recursion.{Sound1, op1_does}
use Rattle.model.proofs.Rules.{Does, ret_does, ask_does, post_does, bind_does, four_does}
use Rattle.model.proofs.Sequence.{sequence_does}
use Rattle.model.proofs.Tests.{empty, full, ident, bit_above, low_level, high_level}

module _ {k : ℕ} where
  pub identity_does : {S : Store} (l : ℕ) → l ≤ k → WellFormed k S → Does k S (identity_at_depth l) (Relates l (λ p q. p ≡ q))
  unfolding identity_at_depth
  identity_does {S} zero i F = ret_does 1 F (record { held = omega arith; means = means })
    where
      means : (p q : List ℕ) → Packet 0 p → Packet 0 q → relates S 1 p q ↔ (p ≡ q)
      means p q none none = (λ e. refl, λ e. refl)
  identity_does (suc l) i F =
      bind_does (identity_does l (omega arith) F) λ S₁ o E₁ F₁ D₁.
      bind_does (constant_does rel 0 l (omega arith) (omega arith) F₁) λ S₂ z E₂ F₂ Z.
      let none_of : (i o : ℕ) → ¬ (i ≡ o) → Relates l (block (λ p q. p ≡ q) i o) S₂ z
      = λ i o n. relates_iff (λ p q P Q. (λ e. absurd (omega (arith, e)), λ e. absurd (n (cc)))) (den_relates {R = λ p q. ◌≡◌ {A = ℕ} 0 1} Z) in
      let one_of : (i : ℕ) → Relates l (block (λ p q. p ≡ q) i i) S₂ o
      = λ i. relates_iff (λ p q P Q. (λ e. cc, λ e. cc)) (relates_ext E₂ D₁) in
      mk_relates l o z z o (λ p q. p ≡ q) F₂ i (one_of 0) (none_of 0 1 (omega arith)) (none_of 1 0 (omega arith)) (one_of 1)

-- STAR: any finite number of steps
module _ {k : ℕ} where
  star_short : (l : ℕ) (R : Rel) (S : Store) (x : ℕ) (node : Prog) → WellFormed k S → l ≤ k → Relates l R S x
      → (0 < l → Does k S node (Relates l (Ways l R))) → Does k S (star_op.short l x node) (Relates l (Ways l R))
  star_short l R S x node F i A G =
      ask_does (has is_empty rel l x) A.held
      (λ t. post_does (λ S h. relates_iff (λ p q P Q. (λ e. subst (λ r. Ways l R p r) e stop, λ s. none_far t P s))) (identity_does l i F))
      (λ t₁. ask_does (has is_identity rel l x) A.held (λ t. ret_does x F (relates_iff (λ p q P Q. (λ r. step Q r stop, near (inl t) P Q)) A))
      (λ t₂. ask_does (has is_universal rel l x) A.held (λ t. ret_does x F (relates_iff (λ p q P Q. (λ r. step Q r stop, near (inr t) P Q)) A))
      (λ t₃. bit_above rel l x S A.held t₁ t₃ G)))
    where
      none_far : {q p : List ℕ} → T (empty rel l x S) → Packet l p → Ways l R p q → p ≡ q
      none_far t P stop = refl
      none_far t P (step M r s) = absurd (rel_empty A t _ _ P M r)

      still : {q p : List ℕ} → T (ident l x S) → Packet l p → Ways l R p q → p ≡ q
      still t P stop = refl
      still t P (step M r s) = (rel_ident A t _ _ P M).1 r ∙ still t M s

      near : {q p : List ℕ} → T (ident l x S) ⊎ T (full rel l x S) → Packet l p → Packet l q → Ways l R p q → R p q
      near (inl t) P Q s = (rel_ident A t _ _ P Q).0 (still t P s)
      near (inr t) P Q s = rel_full A t _ _ P Q

  star_kids : (l : ℕ) (R : Rel) (S : Store) (x : ℕ) (f : ℕ → Prog) → WellFormed k S → l < k → Relates (suc l) R S x
      → ((R : Rel) (S : Store) (x : ℕ) → WellFormed k S → Relates l R S x → Does k S (f x) (Relates l (Ways l R)))
      → Does k S (star_op.kids l f (get rel S x)) (Relates (suc l) (Ways (suc l) R))
  star_kids l R S x f F i A H =
      let u : l ≤ k = omega arith in
      let c = relates_x10 A in
      bind_does (H _ _ _ F (relates_x11 A)) λ S₁ ds E₁ F₁ D₁.
      bind_does (sequence_does l _ _ F₁ u (relates_ext E₁ (relates_x01 A)) D₁) λ S₂ bd E₂ F₂ D₂.
      let W₂ = ext_trans E₁ E₂ in
      bind_does (sequence_does l _ _ F₂ u D₂ (relates_ext W₂ c)) λ S₃ bdc E₃ F₃ D₃.
      bind_does (union_relates l _ _ F₃ u (relates_ext (ext_trans W₂ E₃) (relates_x00 A)) D₃) λ S₄ e E₄ F₄ D₄.
      bind_does (H _ _ _ F₄ D₄) λ S₅ ra E₅ F₅ D₅.
      let v₅ = ext_trans E₃ (ext_trans E₄ E₅) in
      bind_does (sequence_does l _ _ F₅ u D₅ (relates_ext v₅ D₂)) λ S₆ rb E₆ F₆ D₆.
      bind_does (sequence_does l _ _ F₆ u (relates_ext (ext_trans W₂ (ext_trans v₅ E₆)) c) (relates_ext E₆ D₅)) λ S₇ ca E₇ F₇ D₇.
      let v₇ = ext_trans v₅ (ext_trans E₆ E₇) in
      bind_does (sequence_does l _ _ F₇ u (relates_ext (ext_trans E₂ v₇) D₁) D₇) λ S₈ rc E₈ F₈ D₈.
      let v₈ = ext_trans v₇ E₈ in
      bind_does (sequence_does l _ _ F₈ u D₈ (relates_ext v₈ D₂)) λ S₉ cbd E₉ F₉ D₉.
      bind_does (union_relates l _ _ F₉ u (relates_ext (ext_trans E₂ (ext_trans v₈ E₉)) D₁) D₉) λ S₁₀ rd E₁₀ F₁₀ D₁₀.
      let w = ext_trans E₉ E₁₀ in
      let v = ext_trans E₇ (ext_trans E₈ w) in
      post_does (λ S h. relates_iff (ways_blocks l R)) (mk_relates l ra rb rc rd (Matrix (way_blocks l R)) F₁₀ i
      (relates_ext (ext_trans E₆ v) D₅) (relates_ext v D₆) (relates_ext w D₈) D₁₀)

  pub star_does : {R : Rel} {S : Store} (l x : ℕ) → WellFormed k S → l ≤ k → Relates l R S x → Does k S (star l x) (Relates l (Star l R))
  unfolding star
  star_does {R} {S} l x F i A = post_does (λ S h. relates_iff (λ p q P Q. ways_steps l R p q)) (op1_does sound l R S x F i A)
    where
      sound : Sound1 k star_op Rel (λ l R S a. Relates l R S a) (λ l R S h. Relates l (Ways l R) S h)
      sound = record { held = λ l R S a A. A.held; short = star_short; kids = star_kids }

-- FLIP: input and output exchanged
low_flip : {R : Rel} {S : Store} (l a : ℕ) → l ≡ 0 → Relates l R S a → Relates l (λ p q. R q p) S a
low_flip (suc l) a e A = absurd (omega arith)
low_flip {R} {S} zero a e A = record { held = A.held; means = means }
  where
    means : (p q : List ℕ) → Packet 0 p → Packet 0 q → relates S a p q ↔ R q p
    means p q none none = A.means [] [] none none

module _ {k : ℕ} where
  pub flip_does : {R : Rel} {S : Store} (l a : ℕ) → WellFormed k S → l ≤ k → Relates l R S a → Does k S (flip l a) (Relates l (λ p q. R q p))
  unfolding flip
  flip_does {R} {S} l a F i A = op1_does sound l R S a F i A
    where
      sound : Sound1 k flip_op Rel (λ l R S a. Relates l R S a) (λ l R S h. Relates l (λ p q. R q p) S h)
      sound = record {
        held = λ l R S a A. A.held;
        short = λ l R S a node F i A G. ask_does (less a 2) tt
            (λ t. ret_does a F (low_flip l a (low_level rel S l a A.held (ltb→lt a 2 t)) A))
            (λ t. G (high_level rel S l a A.held (nltb→le a 2 t)));
        kids = λ l R S a f F i A H.
            four_does (Relates l (λ p q. block R 0 0 q p)) (Relates l (λ p q. block R 0 1 q p)) (Relates l (λ p q. block R 1 0 q p))
            (Relates l (λ p q. block R 1 1 q p))
            (λ S S' h. relates_ext) (λ S S' h. relates_ext) (λ S S' h. relates_ext)
            (H _ S _ F (relates_x00 A)) (λ S' E F. H _ S' _ F (relates_ext E (relates_x01 A))) (λ S' E F. H _ S' _ F (relates_ext E (relates_x10 A)))
            (λ S' E F. H _ S' _ F (relates_ext E (relates_x11 A)))
            λ S' f00 f01 f10 f11 E F A B C D. mk_relates l f00 f10 f01 f11 (λ p q. R q p) F i A C B D;
      }

  -- NAIVE_FORWARD, BACKWARD: everything into the range; the domain to everything
  pub naive_forward_does : {R : Rel} {S : Store} (l a : ℕ) → WellFormed k S → l ≤ k → Relates l R S a
      → Does k S (naive_forward l a) (Relates l (λ p q. Range l R q))
  unfolding naive_forward
  naive_forward_does l a F i A = bind_does (top_relates {R = λ p q. Unit {0}} l i F (λ p q P Q. tt)) λ S₁ t E₁ F₁ B.
      post_does (λ S h. relates_iff (λ p q P Q. (λ c. (c.0, c.1, c.3), λ c. (c.0, c.1, tt, c.2)))) (sequence_does l t a F₁ i B (relates_ext E₁ A))

  pub backward_does : {R : Rel} {S : Store} (l a : ℕ) → WellFormed k S → l ≤ k → Relates l R S a → Does k S (backward l a) (Relates l (λ p q. Domain l R p))
  unfolding backward
  backward_does l a F i A = bind_does (top_relates {R = λ p q. Unit {0}} l i F (λ p q P Q. tt)) λ S₁ t E₁ F₁ B.
      post_does (λ S h. relates_iff (λ p q P Q. (λ c. (c.0, c.1, c.2), λ c. (c.0, c.1, c.2, tt)))) (sequence_does l a t F₁ i (relates_ext E₁ A) B)
