-- The yes or no operations: each gives 1 exactly where its question is so, else 0.
-- an answer known to be yes, or no
use mathlib.Core.Path.{◌≡◌, refl, sym, subst}
use mathlib.Core.Logic.Iff
use mathlib.Core.Logic.{◌⊎◌, inl, inr, ◌↔◌}
use mathlib.Core.List.{List, ◌∷◌}
use mathlib.Core.Bool.{not}
use Prim.Native.Nat.{ℕ, zero, suc, ◌<◌, ◌≤◌}
use native.Mathlib.Omega.{arith}
use lib.Dec.{eqb, T, eqb→eq}
use Rattle.model.specs.Images.{has_image_op, has_image, has_path_short, has_path_node, has_path}
use Rattle.model.specs.Meaning.{Sem, Rel, Den, Relates, Decides, Some}
use Rattle.model.specs.Operations.{is_zero}
use Rattle.model.specs.Packets.{Digits, more, Packet}
use Rattle.model.specs.Programs.{is_empty, is_universal, is_identity, same, less, has, Prog}
use Rattle.model.specs.Recursion.{or_else}
use Rattle.model.specs.Sets.{intersects_op, intersects}
use Rattle.model.specs.Store.{Kind, set, rel, Store, signed}
use Rattle.model.specs.WellFormed.{WellFormed, Extends}
use Rattle.model.proofs.Bools.{on-bits}
use Rattle.model.proofs.Extends.{ext_refl, ext_trans}
use Rattle.model.proofs.Images.{some_split}
use Rattle.model.proofs.Pairs.{relates_ext, block, relates_x00, relates_x01, relates_x10, relates_x11, rel_empty, rel_full, rel_ident, rel_some}
use Rattle.model.proofs.Pointwise.{Means2, den_opposite}
use Rattle.model.proofs.Recursion.{Sound2, op2_does}
use Rattle.model.proofs.Rules.{Does, den_ext, den_child, held_within, ret_does, ask_does, look_does, post_does, bind_does}
use Rattle.model.proofs.Tests.{den_empty, den_full, den_some, den_same, bit_above}

says_yes : {X : Type 0} → X → Decides X 1
says_yes x = record { bit = omega arith; means = (λ e. x, λ y. refl) }

says_no : {X : Type 0} → ¬ X → Decides X 0
says_no n = record { bit = omega arith; means = (λ e. absurd (omega (arith, e)), λ x. absurd (n x)) }

says_iff : {X Y : Type 0} {h : ℕ} → X ↔ Y → Decides X h → Decides Y h
says_iff e s = record { bit = s.bit; means = Iff.trans s.means e }

module _ {k : ℕ} where
  or_else_does : {X Y : Type 0} {S : Store} {p q : Prog} → Does k S p (λ S h. Decides X h)
      → ((S' : Store) → Extends S S' → WellFormed k S' → Does k S' q (λ S h. Decides Y h))
      → Does k S (or_else p q) (λ S h. Decides (X ⊎ Y) h)
  or_else_does A B = bind_does A λ S₁ r E₁ F₁ C. ask_does (same r 1) tt
      (λ t. ret_does 1 F₁ (says_yes (inl (C.means.0 (eqb→eq r 1 t)))))
      (λ t. post_does (λ S h. says_iff (right (λ x. no_bit r (C.means.1 x) t))) (B S₁ E₁ F₁))
    where
      right : {X Y : Type 0} → ¬ X → Y ↔ (X ⊎ Y)
      right n = (inr, elim [ inl x ↦ absurd (n x) | inr y ↦ y ])

      no_bit : (r : ℕ) → r ≡ 1 → T (not (eqb r 1)) → ⊥
      no_bit r e t = rw e at t

  pub is_zero_does : {φ : Sem} {S : Store} (K : Kind) (l a : ℕ) → WellFormed k S → Den K l φ S a
      → Does k S (is_zero K l a) (λ S h. Decides ((ds : List ℕ) → Digits K l ds → ¬ φ ds) h)
  unfolding is_zero
  is_zero_does K l a F A = ask_does (has is_empty K l a) A.held (λ t. ret_does 1 F (says_yes (den_empty A t)))
      (λ t. ret_does 0 F (says_no (λ n. let c = den_some A t in n c.0 c.1 c.2)))

-- INTERSECTS
module _ {k : ℕ} where
  pub intersects_does : {P Q : Sem} {S : Store} (l a b : ℕ) → WellFormed k S → l ≤ k → Den set l P S a → Den set l Q S b
      → Does k S (intersects l a b) (λ S h. Decides (Some l (λ p. P p × Q p)) h)
  unfolding intersects
  intersects_does {P} {Q} {S} l a b F i A B = op2_does sound l (P, Q) S a b F i (A, B)
    where
      Common : ℕ → Sem × Sem → Type 0
      Common l i = Some l (λ p. i.0 p × i.1 p)

      swap : (l : ℕ) (i : Sem × Sem) → Common l (i.1, i.0) ↔ Common l i
      swap l i = (λ c. (c.0, c.1, (c.2.1, c.2.0)), λ c. (c.0, c.1, (c.2.1, c.2.0)))

      sound : Sound2 k intersects_op (Sem × Sem) (Means2 set) (λ l i S h. Decides (Common l i) h)
      sound = record {
        held = λ l i S a b A. (A.0.held, A.1.held);
        short = λ l i S a b node F u AB R. let A = AB.0 in let B = AB.1 in
            ask_does (same a (signed 1 b)) tt (λ t. ret_does 0 F (says_no (λ c. (den_opposite F A B t c.0 c.1).0 c.2.0 c.2.1)))
            (λ t₁. ask_does (has is_empty set l a) A.held (λ t. ret_does 0 F (says_no (λ c. den_empty A t c.0 c.1 c.2.0)))
            (λ t₂. ask_does (has is_empty set l b) B.held (λ t. ret_does 0 F (says_no (λ c. den_empty B t c.0 c.1 c.2.1)))
            (λ t₃. let x = den_some A t₂ in let y = den_some B t₃ in
            ask_does (same a b) tt (λ t. ret_does 1 F (says_yes (x.0, x.1, (x.2, (den_same A B t x.0 x.1).0 x.2))))
            (λ t₄. ask_does (has is_universal set l a) A.held (λ t. ret_does 1 F (says_yes (y.0, y.1, (den_full A t y.0 y.1, y.2))))
            (λ t₅. ask_does (has is_universal set l b) B.held (λ t. ret_does 1 F (says_yes (x.0, x.1, (x.2, den_full B t x.0 x.1))))
            (λ t₆. bit_above set l a S A.held t₂ t₅ (λ p. ask_does (less b a) tt
            (λ t. post_does (λ S h. says_iff (swap l i)) (R p (i.1, i.0) b a (B, A)))
            (λ t. R p i a b AB))))))));
        kids = λ l i S a b f F u AB H. let A = AB.0 in let B = AB.1 in
            post_does (λ S h. says_iff (some_split l (λ p. i.0 p × i.1 p)))
            (or_else_does (H _ S _ _ F (den_child A 0 (omega arith), den_child B 0 (omega arith)))
            (λ S' E F. H _ S' _ _ F (den_ext E (den_child A 1 (omega arith)), den_ext E (den_child B 1 (omega arith)))));
      }

-- HAS_IMAGE, HAS_PATH: some pair of packets
abbrev pub Some2 : ℕ → Rel → Type 0
Some2 l W = Some l (λ x. Some l (λ y. W x y))

pub some2_split : (l : ℕ) (W : Rel) → (Some2 l (block W 0 0) ⊎ (Some2 l (block W 0 1) ⊎ (Some2 l (block W 1 0) ⊎ Some2 l (block W 1 1)))) ↔ Some2 (suc l) W
some2_split l W = (
  elim [
    | inl c ↦ back 0 0 (omega arith) (omega arith) c
    | inr d ↦ elim d [
      | inl c ↦ back 0 1 (omega arith) (omega arith) c
      | inr e ↦ elim e [
        | inl c ↦ back 1 0 (omega arith) (omega arith) c
        | inr c ↦ back 1 1
            (omega arith) (omega arith) c
      ]
    ]
  ],
  λ c. there c.0 c.2.0 c.1 c.2.1 c.2.2,
)
  where
    Goal : Type 0
    Goal = Some2 l (block W 0 0) ⊎ (Some2 l (block W 0 1) ⊎ (Some2 l (block W 1 0) ⊎ Some2 l (block W 1 1)))

    put : (i : ℕ) → i < 2 → (o : ℕ) → o < 2 → Some2 l (block W i o) → Goal
    put = on-bits (λ i. (o : ℕ) → o < 2 → Some2 l (block W i o) → Goal)
        (on-bits (λ o. Some2 l (block W 0 o) → Goal) (λ c. inl c) (λ c. inr (inl c)))
        (on-bits (λ o. Some2 l (block W 1 o) → Goal) (λ c. inr (inr (inl c))) (λ c. inr (inr (inr c))))

    there : (x y : List ℕ) → Packet (suc l) x → Packet (suc l) y → W x y → Goal
    there x y (more {ds = x'} i a X) (more {ds = y'} o b Y) w = put i a o b (x', X, (y', Y, w))

    back : (i o : ℕ) → i < 2 → o < 2 → Some2 l (block W i o) → Some2 (suc l) W
    back i o a b c = (i ∷ c.0, more i a c.1, (o ∷ c.2.0, more o b c.2.1, c.2.2))

module _ {k : ℕ} where
  -- four questions, one for each two first bits
  four_says : {S : Store} {p q r s : Prog} (l : ℕ) (W : Rel)
      → Does k S p (λ S h. Decides (Some2 l (block W 0 0)) h)
      → ((S' : Store) → Extends S S' → WellFormed k S' → Does k S' q (λ S h. Decides (Some2 l (block W 0 1)) h))
      → ((S' : Store) → Extends S S' → WellFormed k S' → Does k S' r (λ S h. Decides (Some2 l (block W 1 0)) h))
      → ((S' : Store) → Extends S S' → WellFormed k S' → Does k S' s (λ S h. Decides (Some2 l (block W 1 1)) h))
      → Does k S (or_else p (or_else q (or_else r s))) (λ S h. Decides (Some2 (suc l) W) h)
  four_says l W A B C D = post_does (λ S h. says_iff (some2_split l W))
      (or_else_does A (λ S₁ E₁ F₁. or_else_does (B S₁ E₁ F₁) (λ S₂ E₂ F₂. let E = ext_trans E₁ E₂ in or_else_does (C S₂ E F₂)
      (λ S₃ E₃ F₃. D S₃ (ext_trans E E₃) F₃))))

  pub has_image_does : {P : Sem} {R : Rel} {S : Store} (l p a : ℕ) → WellFormed k S → l ≤ k → Den set l P S p → Relates l R S a
      → Does k S (has_image l p a) (λ S h. Decides (Some2 l (λ x y. P x × R x y)) h)
  unfolding has_image
  has_image_does {P} {R} {S} l p a F i A B = op2_does sound l (P, R) S p a F i (A, B)
    where
      W : Sem × Rel → Rel
      W i x y = i.0 x × i.1 x y

      sound : Sound2 k has_image_op (Sem × Rel) (λ l i S p a. Den set l i.0 S p × Relates l i.1 S a) (λ l i S h. Decides (Some2 l (W i)) h)
      sound = record {
        held = λ l i S a b A. (A.0.held, A.1.held);
        short = λ l i S p a node F u AB R. let A = AB.0 in let B = AB.1 in
            ask_does (has is_empty set l p) A.held (λ t. ret_does 0 F (says_no (λ c. den_empty A t c.0 c.1 c.2.2.0)))
            (λ t₁. ask_does (has is_empty rel l a) B.held (λ t. ret_does 0 F (says_no (λ c. rel_empty B t c.0 c.2.0 c.1 c.2.1 c.2.2.1)))
            (λ t₂. let c = den_some A t₁ in let d = rel_some B t₂ in
            ask_does (has is_universal set l p) A.held (λ t. ret_does 1 F
            (says_yes (d.0, d.1, (d.2.0, d.2.1, (den_full A t d.0 d.1, d.2.2)))))
            (λ t₃. ask_does (has is_identity rel l a) B.held
            (λ t. ret_does 1 F (says_yes (c.0, c.1, (c.0, c.1, (c.2, (rel_ident B t c.0 c.0 c.1 c.1).0 refl)))))
            (λ t₄. ask_does (has is_universal rel l a) B.held
            (λ t. ret_does 1 F (says_yes (c.0, c.1, (c.0, c.1, (c.2, rel_full B t c.0 c.0 c.1 c.1)))))
            (λ t₅. bit_above set l p S A.held t₁ t₃ (λ z. R z i p a AB))))));
        kids = λ l i S p a f F u AB H. let p0 = den_child AB.0 0 (omega arith) in let p1 = den_child AB.0 1 (omega arith) in let B = AB.1 in
            four_says l (W i) (H _ S _ _ F (p0, relates_x00 B)) (λ S' E F. H _ S' _ _ F (den_ext E p0, relates_ext E (relates_x01 B)))
            (λ S' E F. H _ S' _ _ F (den_ext E p1, relates_ext E (relates_x10 B))) (λ S' E F. H _ S' _ _ F (den_ext E p1, relates_ext E (relates_x11 B)));
      }

module _ {k : ℕ} {P Q : Sem} {R : Rel} where
  has_path_short_does : {S : Store} {node : Prog} (l p a q : ℕ) → WellFormed k S → l ≤ k → Den set l P S p → Relates l R S a → Den set l Q S q
      → (0 < l → Does k S node (λ S h. Decides (Some2 l (λ x y. P x × R x y × Q y)) h))
      → Does k S (has_path_short l p a q node) (λ S h. Decides (Some2 l (λ x y. P x × R x y × Q y)) h)
  has_path_short_does {S} l p a q F i A B C G =
      ask_does (has is_empty set l p) A.held (λ t. ret_does 0 F (says_no (λ c. den_empty A t c.0 c.1 c.2.2.0)))
      (λ t₁. ask_does (has is_empty set l q) C.held (λ t. ret_does 0 F (says_no (λ c. den_empty C t c.2.0 c.2.1 c.2.2.2)))
      (λ t₂. ask_does (has is_empty rel l a) B.held (λ t. ret_does 0 F (says_no (λ c. rel_empty B t c.0 c.2.0 c.1 c.2.1 c.2.2.1)))
      (λ t₃. let x = den_some A t₁ in let y = den_some C t₂ in
      ask_does (has is_universal rel l a) B.held (λ t. ret_does 1 F
      (says_yes (x.0, x.1, (y.0, y.1, (x.2, rel_full B t x.0 y.0 x.1 y.1, y.2)))))
      (λ t₄. ask_does (has is_identity rel l a) B.held (λ t. post_does (λ S h. says_iff (
        λ c. (c.0, c.1, (c.0, c.1, (c.2.0, (rel_ident B t c.0 c.0 c.1 c.1).0 refl, c.2.1))),
        λ c. (c.0, c.1, (c.2.2.0, subst Q (sym ((rel_ident B t c.0 c.2.0 c.1 c.2.1).1 c.2.2.1)) c.2.2.2)),
      )) (intersects_does l p q F i A C))
      (λ t₅. ask_does (has is_universal set l q) C.held (λ t. post_does (λ S h. says_iff (
        λ c. (c.0, c.1, (c.2.0, c.2.1, (c.2.2.0, c.2.2.1, den_full C t c.2.0 c.2.1))),
        λ c. (c.0, c.1, (c.2.0, c.2.1, (c.2.2.0, c.2.2.1))),
      )) (has_image_does l p a F i A B))
      (λ t₆. bit_above set l q S C.held t₂ t₆ G))))))

module _ {k : ℕ} where
  has_path_node_does : {P Q : Sem} {R : Rel} {S : Store} (l p a q : ℕ) → 0 < l → WellFormed k S → l ≤ k → Den set l P S p → Relates l R S a → Den set l Q S q
      → Does k S (has_path_node l p a q) (λ S h. Decides (Some2 l (λ x y. P x × R x y × Q y)) h)
  unfolding has_path_node
  has_path_node_does zero p a q z F i A B C = absurd (omega arith)
  has_path_node_does {P} {Q} {R} {S} (suc l) p a q z F i A B C = look_does set p (held_within l A.held)
      (look_does set q (held_within l C.held) (look_does rel a (held_within l B.held)
      (let p0 = den_child A 0 (omega arith) in
      let p1 = den_child A 1 (omega arith) in
      let q0 = den_child C 0 (omega arith) in
      let q1 = den_child C 1 (omega arith) in
      let part : (P Q : Sem) (R : Rel) (p a q : ℕ) (S' : Store) → Extends S S' → WellFormed k S' → Den set l P S p → Relates l R S a → Den set l Q S q
      → Does k S' (has_path_short l p a q (has_path_node l p a q)) (λ S h. Decides (Some2 l (λ x y. P x × R x y × Q y)) h)
      = λ P Q R p a q S' E F A B C. let A' = den_ext E A in let B' = relates_ext E B in let C' = den_ext E C in
      has_path_short_does l p a q F (omega arith) A' B' C' (λ z. has_path_node_does l p a q z F (omega arith) A' B' C') in
      four_says l (λ x y. P x × R x y × Q y) (part _ _ _ _ _ _ S ext_refl F p0 (relates_x00 B) q0) (λ S' E F. part _ _ _ _ _ _ S' E F p0 (relates_x01 B) q1)
      (λ S' E F. part _ _ _ _ _ _ S' E F p1 (relates_x10 B) q0) (λ S' E F. part _ _ _ _ _ _ S' E F p1 (relates_x11 B) q1))))

  pub has_path_does : {P Q : Sem} {R : Rel} {S : Store} (l p a q : ℕ) → WellFormed k S → l ≤ k → Den set l P S p → Relates l R S a → Den set l Q S q
      → Does k S (has_path l p a q) (λ S h. Decides (Some2 l (λ x y. P x × R x y × Q y)) h)
  unfolding has_path
  has_path_does l p a q F i A B C = has_path_short_does l p a q F i A B C (λ z. has_path_node_does l p a q z F i A B C)
