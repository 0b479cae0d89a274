-- Between relations and sets: range, domain, image, the packets with some output in a set, filter, everything into a set.
-- a packet of one field more, by its first bit
use mathlib.Core.Path.{◌≡◌, refl, sym, subst}
use mathlib.Core.Logic.Iff
use mathlib.Core.Logic.{◌⊎◌, inl, inr, ◌↔◌}
use mathlib.Core.List.{List, [], ◌∷◌}
use Prim.Native.Nat.{ℕ, zero, suc, ◌<◌, ◌≤◌, min}
use native.Mathlib.Omega.{arith}
use lib.Dec.{T, ltb→lt, nltb→le}
use Rattle.model.specs.Images.{two_unions, fwd_op, fwd, bwd_op, bwd, ifwd_op, ifwd, ibwd, diagonal_op, diagonal, image_short, push_op, push}
use Rattle.model.specs.Images.{pull_op, pull}
use Rattle.model.specs.Meaning.{Sem, Rel, Den, Relates, Same, Some, Filter, Range, Domain, Image, Preimage}
use Rattle.model.specs.Packets.{Digits, none, more, Packet, walk, relates}
use Rattle.model.specs.Programs.{is_empty, is_universal, is_identity, less, has, Prog, ret, ask}
use Rattle.model.specs.Store.{Kind, set, rel, Store}
use Rattle.model.specs.WellFormed.{Held, WellFormed}
use Rattle.model.proofs.Constants.{zero_does, full_does}
use Rattle.model.proofs.Extends.{ext_trans}
use Rattle.model.proofs.Pairs.{relates_iff, relates_ext, block, relates_x00, relates_x01, relates_x10, relates_x11, mk_relates}
use Rattle.model.proofs.Pairs.{zero_relates, rel_empty, rel_full, rel_ident}
use Rattle.model.proofs.Pointwise.{union_does}
use Rattle.model.proofs.Recursion.{Sound1, op1_does, Sound2, op2_does}
use Rattle.model.proofs.Rules.{Does, den_ext, den_iff, den_child, ret_does, ask_does, post_does, bind_does, four_does}
use Rattle.model.proofs.SetFields.{mk_set}
use Rattle.model.proofs.Star.{flip_does}
use Rattle.model.proofs.Tests.{empty, ident, den_empty, den_full, den_some, low_level, high_level}

pub some_split : (l : ℕ) (P : Sem) → (Some l (λ m. P (0 ∷ m)) ⊎ Some l (λ m. P (1 ∷ m))) ↔ Some (suc l) P
some_split l P = (
  elim [ inl c ↦ (0 ∷ c.0, more 0 (omega arith) c.1, c.2) | inr c ↦ (1 ∷ c.0, more 1 (omega arith) c.1, c.2) ],
  λ c. there c.0
      c.1 c.2,
)
  where
    there : (m : List ℕ) → Packet (suc l) m → P m → Some l (λ m. P (0 ∷ m)) ⊎ Some l (λ m. P (1 ∷ m))
    there m (more {ds = m'} zero b M) w = inl (m', M, w)
    there m (more {ds = m'} (suc zero) b M) w = inr (m', M, w)
    there m (more {ds = m'} (suc (suc n)) b M) w = absurd (omega arith)

some_none : (P : Sem) → P [] ↔ Some 0 P
some_none P = (λ w. ([], none, w), λ c. go c.0 c.1 c.2)
  where
    go : (m : List ℕ) → Packet 0 m → P m → P []
    go m none w = w

module _ {k : ℕ} where
  -- two unions make the node, by cases on the first bit
  two_unions_does : {S : Store} {A B C D : Sem} (l a b c d : ℕ) (X : Sem) → WellFormed k S → l < k → Den set l A S a → Den set l B S b → Den set l C S c
      → Den set l D S d
      → ((q : List ℕ) → (A q ⊎ B q) ↔ X (0 ∷ q)) → ((q : List ℕ) → (C q ⊎ D q) ↔ X (1 ∷ q)) → Does k S (two_unions l a b c d) (Den set (suc l) X)
  two_unions_does l a b c d X F i A B C D e f =
      bind_does (union_does set l a b F (omega arith) A B) λ S₁ x E₁ F₁ G.
      bind_does (union_does set l c d F₁ (omega arith) (den_ext E₁ C) (den_ext E₁ D)) λ S₂ y E₂ F₂ H.
      mk_set l x y X F₂ i (den_ext E₂ G) H e f

-- at level 0 a handle of one kind is one of the other
low_set : {P : Sem} {R : Rel} {S : Store} (l a : ℕ) → l ≡ 0 → Relates l R S a → R [] [] ↔ P [] → Den set l P S a
low_set (suc l) a e A f = absurd (omega arith)
low_set {P} {R} {S} zero a e A f = record { held = A.held; means = means }
  where
    means : (ds : List ℕ) → Digits set 0 ds → (walk set S a ds ≡ 1) ↔ P ds
    means ds none = Iff.trans (A.means [] [] none none) f

low_rel : {P : Sem} {R : Rel} {S : Store} (l p : ℕ) → l ≡ 0 → Den set l P S p → P [] ↔ R [] [] → Relates l R S p
low_rel (suc l) a e A f = absurd (omega arith)
low_rel {P} {R} {S} zero p e A f = record { held = A.held; means = means }
  where
    means : (x y : List ℕ) → Packet 0 x → Packet 0 y → relates S p x y ↔ R x y
    means x y none none = Iff.trans (A.means [] none) f

-- an operation on handles below 2 that is the same number
module _ {k : ℕ} {S : Store} {Q : Store → ℕ → Type 0} {node : Prog} (K : Kind) (l a : ℕ) (F : WellFormed k S) (A : Held K S l a) where
  low_does : (l ≡ 0 → Q S a) → (0 < l → Does k S node Q) → Does k S (ask (less a 2) (ret a) node) Q
  low_does q G = ask_does (less a 2) tt (λ t. ret_does a F (q (low_level K S l a A (ltb→lt a 2 t)))) (λ t. G (high_level K S l a A (nltb→le a 2 t)))

-- FWD, BWD
module _ {k : ℕ} where
  pub fwd_does : {R : Rel} {S : Store} (l a : ℕ) → WellFormed k S → l ≤ k → Relates l R S a → Does k S (fwd l a) (Den set l (Range l R))
  unfolding fwd
  fwd_does {R} {S} l a F i A = op1_does sound l R S a F i A
    where
      sound : Sound1 k fwd_op Rel (λ l R S a. Relates l R S a) (λ l R S h. Den set l (Range l R) S h)
      sound = record {
        held = λ l R S a A. A.held;
        short = λ l R S a node F i A G. low_does rel l a F A.held
            (λ e. low_set l a e A (subst (λ m. R [] [] ↔ Range m R []) (sym e) (some_none (λ p. R p [])))) G;
        kids = λ l R S a f F i A H.
            four_does (Den set l (Range l (block R 0 0))) (Den set l (Range l (block R 1 0))) (Den set l (Range l (block R 0 1)))
            (Den set l (Range l (block R 1 1)))
            (λ S S' h. den_ext) (λ S S' h. den_ext) (λ S S' h. den_ext)
            (H _ S _ F (relates_x00 A)) (λ S' E F. H _ S' _ F (relates_ext E (relates_x10 A))) (λ S' E F. H _ S' _ F (relates_ext E (relates_x01 A)))
            (λ S' E F. H _ S' _ F (relates_ext E (relates_x11 A)))
            λ S' a b c d E F A B C D. two_unions_does l a b c d (Range (suc l) R) F i A B C D (λ q. some_split l (λ p. R p (0 ∷ q)))
            (λ q. some_split l (λ p. R p (1 ∷ q)));
      }

  pub bwd_does : {R : Rel} {S : Store} (l a : ℕ) → WellFormed k S → l ≤ k → Relates l R S a → Does k S (bwd l a) (Den set l (Domain l R))
  unfolding bwd
  bwd_does {R} {S} l a F i A = op1_does sound l R S a F i A
    where
      sound : Sound1 k bwd_op Rel (λ l R S a. Relates l R S a) (λ l R S h. Den set l (Domain l R) S h)
      sound = record {
        held = λ l R S a A. A.held;
        short = λ l R S a node F i A G. low_does rel l a F A.held
            (λ e. low_set l a e A (subst (λ m. R [] [] ↔ Domain m R []) (sym e) (some_none (λ q. R [] q)))) G;
        kids = λ l R S a f F i A H.
            four_does (Den set l (Domain l (block R 0 0))) (Den set l (Domain l (block R 0 1))) (Den set l (Domain l (block R 1 0)))
            (Den set l (Domain l (block R 1 1)))
            (λ S S' h. den_ext) (λ S S' h. den_ext) (λ S S' h. den_ext)
            (H _ S _ F (relates_x00 A)) (λ S' E F. H _ S' _ F (relates_ext E (relates_x01 A))) (λ S' E F. H _ S' _ F (relates_ext E (relates_x10 A)))
            (λ S' E F. H _ S' _ F (relates_ext E (relates_x11 A)))
            λ S' a b c d E F A B C D. two_unions_does l a b c d (Domain (suc l) R) F i A B C D (λ p. some_split l (λ q. R (0 ∷ p) q))
            (λ p. some_split l (λ q. R (1 ∷ p) q));
      }

-- IFWD, IBWD, DIAGONAL
module _ {k : ℕ} where
  pub ifwd_does : {P : Sem} {S : Store} (l p : ℕ) → WellFormed k S → l ≤ k → Den set l P S p → Does k S (ifwd l p) (Relates l (λ p q. P q))
  unfolding ifwd
  ifwd_does {P} {S} l p F i A = op1_does sound l P S p F i A
    where
      sound : Sound1 k ifwd_op Sem (λ l P S a. Den set l P S a) (λ l P S h. Relates l (λ p q. P q) S h)
      sound = record {
        held = λ l P S p A. A.held;
        short = λ l P S p node F i A G. low_does set l p F A.held (λ e. low_rel l p e A (λ x. x, λ x. x)) G;
        kids = λ l P S p f F i A H.
            bind_does (H _ S _ F (den_child A 0 (omega arith))) λ S₁ x E₁ F₁ C.
            bind_does (H _ S₁ _ F₁ (den_ext E₁ (den_child A 1 (omega arith)))) λ S₂ y E₂ F₂ D.
            mk_relates l x y x y (λ p q. P q) F₂ i (relates_ext E₂ C) D (relates_ext E₂ C) D;
      }

  pub ibwd_does : {P : Sem} {S : Store} (l p : ℕ) → WellFormed k S → l ≤ k → Den set l P S p → Does k S (ibwd l p) (Relates l (λ p q. P p))
  unfolding ibwd
  ibwd_does l p F i A = bind_does (ifwd_does l p F i A) λ S₁ r E₁ F₁ B. flip_does l r F₁ i B

  pub diagonal_does : {P : Sem} {S : Store} (l p : ℕ) → WellFormed k S → l ≤ k → Den set l P S p → Does k S (diagonal l p) (Relates l (Filter P))
  unfolding diagonal
  diagonal_does {P} {S} l p F i A = op1_does sound l P S p F i A
    where
      on_diagonal : (l : ℕ) (P : Sem) (i : ℕ) → Same l (Filter (λ p. P (i ∷ p))) (block (Filter P) i i)
      on_diagonal l P i p q P' Q' = (λ e. let u = e.0 in (cc, e.1), λ e. let u = e.0 in (cc, e.1))

      sound : Sound1 k diagonal_op Sem (λ l P S a. Den set l P S a) (λ l P S h. Relates l (Filter P) S h)
      sound = record {
        held = λ l P S p A. A.held;
        short = λ l P S p node F i A G. low_does set l p F A.held (λ e. low_rel l p e A (λ x. (refl, x), λ x. x.1)) G;
        kids = λ l P S p f F i A H.
            bind_does (H _ S _ F (den_child A 0 (omega arith))) λ S₁ x E₁ F₁ C.
            bind_does (H _ S₁ _ F₁ (den_ext E₁ (den_child A 1 (omega arith)))) λ S₂ y E₂ F₂ D.
            bind_does (zero_relates {R = λ p q. ⊥} l (omega arith) F₂ (λ p q P Q r. r)) λ S₃ z E₃ F₃ Z.
            let off : (i o : ℕ) → ¬ (i ≡ o) → Relates l (block (Filter P) i o) S₃ z
            = λ i o n. relates_iff (λ p q P Q. (λ r. absurd r, λ e. absurd (let u = e.0 in n (cc)))) Z in
            mk_relates l x z z y (Filter P) F₃ i (relates_iff (on_diagonal l P 0) (relates_ext (ext_trans E₂ E₃) C)) (off 0 1 (omega arith))
            (off 1 0 (omega arith)) (relates_iff (on_diagonal l P 1) (relates_ext E₃ D));
      }

-- PUSH, PULL: Z x y is the relation as the set sees it
min_bit : {A B C : Type 0} (m n : ℕ) → m < 2 → n < 2 → (m ≡ 1) ↔ A → (n ≡ 1) ↔ B → (A × B) ↔ C → (min m n ≡ 1) ↔ C
min_bit m n b c e f g = (λ w. g.0 (e.0 (omega arith), f.0 (omega arith)), λ x. let y = g.1 x in omega (arith, e.1 y.0, f.1 y.1))

record Seen (l : ℕ) (R Z : Rel) : Type 0 where
  full_seen : ((x y : List ℕ) → Packet l x → Packet l y → R x y) → (x y : List ℕ) → Packet l x → Packet l y → Z x y
  empty_seen : ((x y : List ℕ) → Packet l x → Packet l y → ¬ R x y) → (x y : List ℕ) → Packet l x → Packet l y → ¬ Z x y
  identity_seen : ((x y : List ℕ) → Packet l x → Packet l y → (x ≡ y) ↔ R x y) → (x y : List ℕ) → Packet l x → Packet l y → (x ≡ y) ↔ Z x y
  at_none : R [] [] ↔ Z [] []

seen_straight : (l : ℕ) (R : Rel) → Seen l R R
seen_straight l R = record { full_seen = λ h. h; empty_seen = λ h. h; identity_seen = λ h. h; at_none = (λ r. r, λ r. r) }

seen_back : (l : ℕ) (R : Rel) → Seen l R (λ x y. R y x)
seen_back l R = record {
  full_seen = λ h x y X Y. h y x Y X;
  empty_seen = λ h x y X Y. h y x Y X;
  identity_seen = λ h x y X Y. (λ e. (h y x Y X).0 (sym e), λ r. sym ((h y x Y X).1 r));
  at_none = (λ r. r, λ r. r);
}

low_image : {P : Sem} {R Z : Rel} {S : Store} (l p a : ℕ) → l ≡ 0 → Den set l P S p → Relates l R S a → Seen l R Z → Den set l (Image l P Z) S (min p a)
low_image (suc l) p a e A B s = absurd (omega arith)
low_image {P} {R} {Z} {S} zero p a e A B s = record { held = omega (arith, A.held, B.held); means = means }
  where
    means : (ds : List ℕ) → Digits set 0 ds → (walk set S (min p a) ds ≡ 1) ↔ Image 0 P Z ds
    means ds none = min_bit p a A.held B.held (A.means [] none) (Iff.trans (B.means [] [] none none) s.at_none) (some_none (λ p. P p × Z p []))

module _ {k : ℕ} where
  image_does : {P : Sem} {R Z : Rel} {S : Store} {whole node : Prog} (l p a : ℕ) → WellFormed k S → l ≤ k → Den set l P S p → Relates l R S a → Seen l R Z
      → Does k S whole (Den set l (Range l Z)) → (0 < l → Does k S node (Den set l (Image l P Z)))
      → Does k S (image_short l p a whole node) (Den set l (Image l P Z))
  image_does {P} {R} {Z} {S} l p a F i A B s W G =
      ask_does (less p 2) tt (λ t. ret_does _ F (low_image l p a (low_level set S l p A.held (ltb→lt p 2 t)) A B s))
      (λ t₀. ask_does (has is_empty set l p) A.held (λ t. ret_does p F (den_iff (λ y Y. first y Y (inl t)) A))
      (λ t₁. ask_does (has is_identity rel l a) B.held (λ t. ret_does p F (den_iff (λ y Y. first y Y (inr t)) A))
      (λ t₂. ask_does (has is_empty rel l a) B.held (λ t. zero_does set l i F (λ y Y c. s.empty_seen (rel_empty B t) c.0 y c.1 Y c.2.1))
      (λ t₃. ask_does (has is_universal rel l a) B.held
      (λ t. full_does set l i F (λ y Y. let c = den_some A t₁ in (c.0, c.1, (c.2, s.full_seen (rel_full B t) c.0 y c.1 Y))))
      (λ t₄. ask_does (has is_universal set l p) A.held
      (λ t. post_does (λ S h. den_iff (λ y Y. (λ c. (c.0, c.1, (den_full A t c.0 c.1, c.2)), λ c. (c.0, c.1, c.2.1)))) W)
      (λ t₅. G (high_level set S l p A.held (nltb→le p 2 t₀))))))))
    where
      first : (y : List ℕ) → Packet l y → T (empty set l p S) ⊎ T (ident l a S) → P y ↔ Image l P Z y
      first y Y (inl t) = (λ q. absurd (den_empty A t y Y q), λ c. absurd (den_empty A t c.0 c.1 c.2.0))
      first y Y (inr t) = (
        λ q. (y, Y, (q, (s.identity_seen (rel_ident B t) y y Y Y).0 refl)),
        λ c. rw
            (← (s.identity_seen (rel_ident B t) c.0 y c.1 Y).1 c.2.1) c.2.0,
      )

  pub push_does : {P : Sem} {R : Rel} {S : Store} (l p a : ℕ) → WellFormed k S → l ≤ k → Den set l P S p → Relates l R S a
      → Does k S (push l p a) (Den set l (Image l P R))
  unfolding push
  push_does {P} {R} {S} l p a F i A B = op2_does sound l (P, R) S p a F i (A, B)
    where
      Pre : ℕ → Sem × Rel → Store → ℕ → ℕ → Type 0
      Pre l i S p a = Den set l i.0 S p × Relates l i.1 S a

      Post : ℕ → Sem × Rel → Store → ℕ → Type 0
      Post l i S h = Den set l (Image l i.0 i.1) S h

      part : ℕ → Sem × Rel → ℕ → ℕ → Sem
      part l i n o = Image l (λ p. i.0 (n ∷ p)) (block i.1 n o)

      sound : Sound2 k push_op (Sem × Rel) Pre Post
      sound = record {
        held = λ l i S p a A. (A.0.held, A.1.held);
        short = λ l i S p a node F u A G. image_does l p a F u A.0 A.1 (seen_straight l i.1) (fwd_does l a F u A.1) (λ z. G z i p a A);
        kids = λ l i S p a f F u A H. let p0 = den_child A.0 0 (omega arith) in let p1 = den_child A.0 1 (omega arith) in
            four_does (Den set l (part l i 0 0)) (Den set l (part l i 1 0)) (Den set l (part l i 0 1)) (Den set l (part l i 1 1)) (λ S S' h. den_ext)
            (λ S S' h. den_ext) (λ S S' h. den_ext)
            (H _ S _ _ F (p0, relates_x00 A.1)) (λ S' E F. H _ S' _ _ F (den_ext E p1, relates_ext E (relates_x10 A.1)))
            (λ S' E F. H _ S' _ _ F (den_ext E p0, relates_ext E (relates_x01 A.1)))
            (λ S' E F. H _ S' _ _ F (den_ext E p1, relates_ext E (relates_x11 A.1)))
            λ S' a b c d E F A B C D. two_unions_does l a b c d (Image (suc l) i.0 i.1) F u A B C D
            (λ q. some_split l (λ p. i.0 p × i.1 p (0 ∷ q))) (λ q. some_split l (λ p. i.0 p × i.1 p (1 ∷ q)));
      }

  pub pull_does : {P : Sem} {R : Rel} {S : Store} (l a p : ℕ) → WellFormed k S → l ≤ k → Relates l R S a → Den set l P S p
      → Does k S (pull l a p) (Den set l (Preimage l R P))
  unfolding pull
  pull_does {P} {R} {S} l a p F i A B = op2_does sound l (R, P) S a p F i (A, B)
    where
      Pre : ℕ → Rel × Sem → Store → ℕ → ℕ → Type 0
      Pre l i S a p = Relates l i.0 S a × Den set l i.1 S p

      Post : ℕ → Rel × Sem → Store → ℕ → Type 0
      Post l i S h = Den set l (Preimage l i.0 i.1) S h

      part : ℕ → Rel × Sem → ℕ → ℕ → Sem
      part l i n o = Preimage l (block i.0 n o) (λ q. i.1 (o ∷ q))

      sound : Sound2 k pull_op (Rel × Sem) Pre Post
      sound = record {
        held = λ l i S a p A. (A.0.held, A.1.held);
        short = λ l i S a p node F u A G. image_does {Z = λ x y. i.0 y x} l p a F u A.1 A.0 (seen_back l i.0) (bwd_does l a F u A.0)
            (λ z. G z i a p A);
        kids = λ l i S a p f F u A H. let p0 = den_child A.1 0 (omega arith) in let p1 = den_child A.1 1 (omega arith) in
            four_does (Den set l (part l i 0 0)) (Den set l (part l i 1 0)) (Den set l (part l i 0 1)) (Den set l (part l i 1 1)) (λ S S' h. den_ext)
            (λ S S' h. den_ext) (λ S S' h. den_ext)
            (H _ S _ _ F (relates_x00 A.0, p0)) (λ S' E F. H _ S' _ _ F (relates_ext E (relates_x10 A.0), den_ext E p0))
            (λ S' E F. H _ S' _ _ F (relates_ext E (relates_x01 A.0), den_ext E p1))
            (λ S' E F. H _ S' _ _ F (relates_ext E (relates_x11 A.0), den_ext E p1))
            λ S' a b c d E F A B C D. two_unions_does l a c b d (Preimage (suc l) i.0 i.1) F u A C B D
            (λ q. some_split l (λ p. i.1 p × i.0 (0 ∷ q) p)) (λ q. some_split l (λ p. i.1 p × i.0 (1 ∷ q) p));
      }
