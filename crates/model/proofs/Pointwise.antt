-- Complement, union, intersect, xor, difference: digit by digit, they mean the logical operation of their operands' meanings.
-- COMPLEMENT
use mathlib.Core.Path.{◌≡◌, refl}
use mathlib.Core.Logic.{◌⊎◌, inl, inr, ◌↔◌}
use mathlib.Core.List.{List, [], ◌∷◌}
use Prim.Native.Nat.{ℕ, zero, suc, ◌-◌, ◌<◌, ◌≤◌}
use native.Mathlib.Omega.{arith}
use lib.Dec.{eqb, T, ltb→lt, nltb→le}
use Rattle.model.specs.Meaning.{Sem, Den, OneOf, Without, Both}
use Rattle.model.specs.Operations.{one_at_depth, complement_op, complement, on_opposites, union_op, union, intersect_op, intersect, xor_op, xor}
use Rattle.model.specs.Operations.{difference_op, difference}
use Rattle.model.specs.Packets.{Digits, none, more, walk}
use Rattle.model.specs.Programs.{is_empty, is_universal, same, less, has, Prog, mk}
use Rattle.model.specs.Recursion.{each2}
use Rattle.model.specs.Store.{Kind, set, rel, arity, Store, signed, get, child}
use Rattle.model.specs.WellFormed.{WellFormed}
use Rattle.model.proofs.Bools.{not_bit}
use Rattle.model.proofs.Canonical.{formed_sized, walk_bit}
use Rattle.model.proofs.Complements.{signed_held, signed_walk}
use Rattle.model.proofs.Constants.{zero_does, full_does}
use Rattle.model.proofs.Recursion.{Sound1, op1_does, Sound2, op2_does}
use Rattle.model.proofs.Rules.{Does, den_ext, den_iff, den_child, Node, ret_does, ask_does, post_does, bind_does, mk_does, for_does}
use Rattle.model.proofs.Tests.{den_empty, den_full, den_case, den_same, bit_above, low_level, high_level}

pub den_not : {k l : ℕ} {φ : Sem} {S : Store} {a : ℕ} → WellFormed k S → Den set l φ S a → Den set l (λ ds. ¬ φ ds) S (signed 1 a)
den_not {l = l} {S = S} {a = a} F A = record {
  held = signed_held (formed_sized set F) l 1 a A.held;
  means = λ ds D. not_bit (walk set S a ds) (walk set S (signed 1 a) ds) (walk_bit S a A.held D) (signed_walk a F A.held D) (A.means ds D);
}

low_not : {φ : Sem} {S : Store} (l a : ℕ) → l ≡ 0 → Den rel l φ S a → Den rel l (λ ds. ¬ φ ds) S (1 - a)
low_not {φ} {S} (suc l) a e A = absurd (omega arith)
low_not {φ} {S} zero a e A = record { held = omega (arith, A.held); means = means }
  where
    means : (ds : List ℕ) → Digits rel 0 ds → (walk rel S (1 - a) ds ≡ 1) ↔ (¬ φ ds)
    means ds none = not_bit a (1 - a) A.held refl (A.means [] none)

complement_sound : {k : ℕ} → Sound1 k complement_op Sem (λ l φ S a. Den rel l φ S a) (λ l φ S h. Den rel l (λ ds. ¬ φ ds) S h)
complement_sound {k} = record {
  held = λ l φ S a A. A.held;
  short = λ l φ S a node F i A R. ask_does (less a 2) tt
      (λ t. ret_does (1 - a) F (low_not l a (low_level rel S l a A.held (ltb→lt a 2 t)) A))
      (λ t. R (high_level rel S l a A.held (nltb→le a 2 t)));
  kids = λ l φ S a f F i A H.
      for_does (λ d. Den rel l (λ ds. ¬ φ (d ∷ ds))) (λ d S S' h. den_ext) 4 _ (mk rel) F
      (λ d j S₁ E₁ F₁. H (λ ds. φ (d ∷ ds)) S₁ (child rel S a d) F₁ (den_ext E₁ (den_child A d j)))
      (λ S₁ rs E₁ F₁ n B. post_does (λ S h. den_iff (node l φ)) (mk_does rel l (λ d ds. ¬ φ (d ∷ ds)) rs F₁ i n B));
}
  where
    node : (l : ℕ) (φ : Sem) (ds : List ℕ) → Digits rel (suc l) ds → Node (λ d ds. ¬ φ (d ∷ ds)) ds ↔ (¬ φ ds)
    node l φ ds (more d i D) = (λ p. p, λ p. p)

module _ {k : ℕ} where
  pub complement_does : {φ : Sem} {S : Store} (K : Kind) (l a : ℕ) → WellFormed k S → l ≤ k → Den K l φ S a
      → Does k S (complement K l a) (Den K l (λ ds. ¬ φ ds))
  unfolding complement
  complement_does set l a F i A = ret_does _ F (den_not F A)
  complement_does {φ} {S} rel l a F i A = op1_does complement_sound l φ S a F i A

-- TWO OPERANDS of one kind, with meanings φ and ψ
module _ (K : Kind) where
  abbrev pub Means2 : ℕ → Sem × Sem → Store → ℕ → ℕ → Type 0
  Means2 l i S a b = Den K l i.0 S a × Den K l i.1 S b

  abbrev pub Pointwise : (Type 0 → Type 0 → Type 0) → ℕ → Sem × Sem → Store → ℕ → Type 0
  Pointwise op l i S h = Den K l (λ ds. op (i.0 ds) (i.1 ds)) S h

-- the children's results make the node
pub each2_does : {k : ℕ} (K : Kind) (op : Type 0 → Type 0 → Type 0) (l : ℕ) (i : Sem × Sem) (S : Store) (a b : ℕ) (f : ℕ → ℕ → Prog) → WellFormed k S → l < k
    → Means2 K (suc l) i S a b
    → ((j : Sem × Sem) (S : Store) (a b : ℕ) → WellFormed k S → Means2 K l j S a b → Does k S (f a b) (Pointwise K op l j))
    → Does k S (each2 K f (get K S a) (get K S b)) (Pointwise K op (suc l) i)
each2_does K op l i S a b f F u A H =
    for_does (λ d. Den K l (λ ds. op (i.0 (d ∷ ds)) (i.1 (d ∷ ds)))) (λ d S S' h. den_ext) (arity K) _ (mk K) F
    (λ d j S₁ E₁ F₁. H (λ ds. i.0 (d ∷ ds), λ ds. i.1 (d ∷ ds)) S₁ (child K S a d) (child K S b d) F₁
    (den_ext E₁ (den_child A.0 d j), den_ext E₁ (den_child A.1 d j)))
    (λ S₁ rs E₁ F₁ n B. post_does (λ S h. den_iff node) (mk_does K l (λ d ds. op (i.0 (d ∷ ds)) (i.1 (d ∷ ds))) rs F₁ u n B))
  where
    node : (ds : List ℕ) → Digits K (suc l) ds → Node (λ d ds. op (i.0 (d ∷ ds)) (i.1 (d ∷ ds))) ds ↔ op (i.0 ds) (i.1 ds)
    node ds (more d i D) = (λ p. p, λ p. p)

-- UNION
pub den_opposite : {k l : ℕ} {φ ψ : Sem} {S : Store} {a b : ℕ} → WellFormed k S → Den set l φ S a → Den set l ψ S b → T (eqb a (signed 1 b))
    → (ds : List ℕ) → Digits set l ds → φ ds ↔ (¬ ψ ds)
den_opposite F A B t ds D = den_same A (den_not F B) t ds D

module _ {l : ℕ} {φ ψ : Sem} {S : Store} {h : ℕ} {K : Kind} where
  or_left : ((ds : List ℕ) → Digits K l ds → ψ ds → φ ds) → Den K l φ S h → Den K l (λ ds. φ ds ⊎ ψ ds) S h
  or_left f A = den_iff (λ ds D. (inl, elim [ inl p ↦ p | inr p ↦ f ds D p ])) A

  or_right : ((ds : List ℕ) → Digits K l ds → φ ds → ψ ds) → Den K l ψ S h → Den K l (λ ds. φ ds ⊎ ψ ds) S h
  or_right f B = den_iff (λ ds D. (inr, elim [ inl p ↦ f ds D p | inr p ↦ p ])) B

  or_swap : Den K l (λ ds. ψ ds ⊎ φ ds) S h → Den K l (λ ds. φ ds ⊎ ψ ds) S h
  or_swap A = den_iff (λ ds D. (elim [ inl p ↦ inr p | inr p ↦ inl p ], elim [ inl p ↦ inr p | inr p ↦ inl p ])) A

module _ {k : ℕ} where
  opposites_does : {φ ψ : Sem} {S : Store} {q : Prog} (K : Kind) (l a b : ℕ) → WellFormed k S → l ≤ k → Den K l φ S a → Den K l ψ S b
      → Does k S q (Den K l (λ ds. φ ds ⊎ ψ ds)) → Does k S (on_opposites K a b (one_at_depth K l) q) (Den K l (λ ds. φ ds ⊎ ψ ds))
  opposites_does rel l a b F i A B R = R
  opposites_does set l a b F i A B R = ask_does (same a (signed 1 b)) tt
      (λ t. full_does set l i F (λ ds D. elim (den_case B ds D) [ inl q ↦ inr q | inr q ↦ inl ((den_opposite F A B t ds D).1 q.1) ]))
      (λ t. R)

  union_sound : (K : Kind) → Sound2 k (union_op K) (Sem × Sem) (Means2 K) (Pointwise K ◌⊎◌)
  union_sound K = record {
    held = λ l i S a b A. (A.0.held, A.1.held);
    short = λ l i S a b node F u AB R. let A = AB.0 in let B = AB.1 in
        ask_does (same a b) tt (λ t. ret_does a F (or_left (λ ds D. (den_same A B t ds D).1) A))
        (λ t₁. opposites_does K l a b F u A B
        (ask_does (has is_empty K l a) A.held (λ t. ret_does b F (or_right (λ ds D p. absurd (den_empty A t ds D p)) B))
        (λ t₂. ask_does (has is_universal K l b) B.held (λ t. ret_does b F (or_right (λ ds D p. den_full B t ds D) B))
        (λ t₃. ask_does (has is_empty K l b) B.held (λ t. ret_does a F (or_left (λ ds D p. absurd (den_empty B t ds D p)) A))
        (λ t₄. ask_does (has is_universal K l a) A.held (λ t. ret_does a F (or_left (λ ds D p. den_full A t ds D) A))
        (λ t₅. bit_above K l a S A.held t₂ t₅ (λ p. ask_does (less b a) tt
        (λ t. post_does (λ S h. or_swap) (R p (i.1, i.0) b a (B, A)))
        (λ t. R p i a b AB))))))));
    kids = each2_does K ◌⊎◌;
  }

  pub union_does : {φ ψ : Sem} {S : Store} (K : Kind) (l a b : ℕ) → WellFormed k S → l ≤ k → Den K l φ S a → Den K l ψ S b
      → Does k S (union K l a b) (Den K l (λ ds. φ ds ⊎ ψ ds))
  unfolding union
  union_does {φ} {ψ} {S} K l a b F i A B = op2_does (union_sound K) l (φ, ψ) S a b F i (A, B)

-- INTERSECT
module _ {l : ℕ} {φ ψ : Sem} {S : Store} {h : ℕ} {K : Kind} where
  and_left : ((ds : List ℕ) → Digits K l ds → φ ds → ψ ds) → Den K l φ S h → Den K l (λ ds. φ ds × ψ ds) S h
  and_left f A = den_iff (λ ds D. (λ p. (p, f ds D p), λ p. p.0)) A

  and_right : ((ds : List ℕ) → Digits K l ds → ψ ds → φ ds) → Den K l ψ S h → Den K l (λ ds. φ ds × ψ ds) S h
  and_right f B = den_iff (λ ds D. (λ p. (f ds D p, p), λ p. p.1)) B

  and_swap : Den K l (λ ds. ψ ds × φ ds) S h → Den K l (λ ds. φ ds × ψ ds) S h
  and_swap A = den_iff (λ ds D. (λ p. (p.1, p.0), λ p. (p.1, p.0))) A

module _ {k : ℕ} where
  intersect_sound : Sound2 k intersect_op (Sem × Sem) (Means2 rel) (Pointwise rel Both)
  intersect_sound = record {
    held = λ l i S a b A. (A.0.held, A.1.held);
    short = λ l i S a b node F u AB R. let A = AB.0 in let B = AB.1 in
        ask_does (same a b) tt (λ t. ret_does a F (and_left (λ ds D. (den_same A B t ds D).0) A))
        (λ t₁. ask_does (has is_empty rel l a) A.held (λ t. ret_does a F (and_left (λ ds D p. absurd (den_empty A t ds D p)) A))
        (λ t₂. ask_does (has is_universal rel l b) B.held (λ t. ret_does a F (and_left (λ ds D p. den_full B t ds D) A))
        (λ t₃. ask_does (has is_empty rel l b) B.held (λ t. ret_does b F (and_right (λ ds D p. absurd (den_empty B t ds D p)) B))
        (λ t₄. ask_does (has is_universal rel l a) A.held (λ t. ret_does b F (and_right (λ ds D p. den_full A t ds D) B))
        (λ t₅. bit_above rel l a S A.held t₂ t₅ (λ p. ask_does (less b a) tt
        (λ t. post_does (λ S h. and_swap) (R p (i.1, i.0) b a (B, A)))
        (λ t. R p i a b AB)))))));
    kids = each2_does rel Both;
  }

-- DIFFERENCE
module _ {l : ℕ} {φ ψ : Sem} {S : Store} {h : ℕ} where
  minus_left : ((ds : List ℕ) → Digits rel l ds → φ ds → ¬ ψ ds) → Den rel l φ S h → Den rel l (λ ds. Without (φ ds) (ψ ds)) S h
  minus_left f A = den_iff (λ ds D. (λ p. (p, f ds D p), λ p. p.0)) A

  minus_right : ((ds : List ℕ) → Digits rel l ds → φ ds) → Den rel l (λ ds. ¬ ψ ds) S h → Den rel l (λ ds. Without (φ ds) (ψ ds)) S h
  minus_right f B = den_iff (λ ds D. (λ p. (f ds D, p), λ p. p.1)) B

module _ {k : ℕ} where
  difference_sound : Sound2 k difference_op (Sem × Sem) (Means2 rel) (Pointwise rel Without)
  difference_sound = record {
    held = λ l i S a b A. (A.0.held, A.1.held);
    short = λ l i S a b node F u AB R. let A = AB.0 in let B = AB.1 in
        ask_does (same a b) tt (λ t. zero_does rel l u F (λ ds D p. p.1 ((den_same A B t ds D).0 p.0)))
        (λ t₁. ask_does (has is_empty rel l a) A.held (λ t. ret_does a F (minus_left (λ ds D p. absurd (den_empty A t ds D p)) A))
        (λ t₂. ask_does (has is_empty rel l b) B.held (λ t. ret_does a F (minus_left (λ ds D p. den_empty B t ds D) A))
        (λ t₃. ask_does (has is_universal rel l a) A.held (λ t. post_does (λ S h. minus_right (λ ds D. den_full A t ds D)) (complement_does rel l b F u B))
        (λ t₄. bit_above rel l a S A.held t₂ t₄ (λ p. R p i a b AB)))));
    kids = each2_does rel Without;
  }

  pub difference_does : {φ ψ : Sem} {S : Store} (K : Kind) (l a b : ℕ) → WellFormed k S → l ≤ k → Den K l φ S a → Den K l ψ S b
      → Does k S (difference K l a b) (Den K l (λ ds. Without (φ ds) (ψ ds)))
  unfolding difference
  difference_does {φ} {ψ} {S} rel l a b F i A B = op2_does difference_sound l (φ, ψ) S a b F i (A, B)
  difference_does set l a b F i A B = bind_does (union_does set l _ b F i (den_not F A) B) (λ S₁ r E₁ F₁ C. ret_does _ F₁ (den_iff
      (λ ds D. (
        λ n. (elim (den_case A ds D) [ inl p ↦ p | inr p ↦ absurd (n (inl p.1)) ], λ q. n (inr q)),
        λ p. elim [ inl n ↦ n p.0 | inr q ↦ p.1 q ],
      ))
      (den_not F₁ C)))

  -- of sets: p and q is p without the complement of q
  pub intersect_does : {φ ψ : Sem} {S : Store} (K : Kind) (l a b : ℕ) → WellFormed k S → l ≤ k → Den K l φ S a → Den K l ψ S b
      → Does k S (intersect K l a b) (Den K l (λ ds. Both (φ ds) (ψ ds)))
  unfolding intersect difference
  intersect_does {φ} {ψ} {S} rel l a b F i A B = op2_does intersect_sound l (φ, ψ) S a b F i (A, B)
  intersect_does set l a b F i A B = post_does
      (λ S h. den_iff (λ ds D. (λ p. (p.0, elim (den_case B ds D) [ inl q ↦ q | inr q ↦ absurd (p.1 q.1) ]), λ p. (p.0, λ n. n p.1))))
      (difference_does set l a (signed 1 b) F i A (den_not F B))

-- XOR: in exactly one of the two
module _ {l : ℕ} {φ ψ : Sem} {S : Store} {h : ℕ} {K : Kind} where
  xor_left : ((ds : List ℕ) → Digits K l ds → ¬ ψ ds) → Den K l φ S h → Den K l (λ ds. OneOf (φ ds) (ψ ds)) S h
  xor_left f A = den_iff (λ ds D. (λ p. inl (p, f ds D), elim [ inl p ↦ p.0 | inr p ↦ absurd (f ds D p.1) ])) A

  xor_left_not : ((ds : List ℕ) → Digits K l ds → ψ ds) → Den K l (λ ds. ¬ φ ds) S h → Den K l (λ ds. OneOf (φ ds) (ψ ds)) S h
  xor_left_not f A = den_iff (λ ds D. (λ p. inr (p, f ds D), elim [ inl p ↦ absurd (p.1 (f ds D)) | inr p ↦ p.0 ])) A

  xor_swap : Den K l (λ ds. OneOf (ψ ds) (φ ds)) S h → Den K l (λ ds. OneOf (φ ds) (ψ ds)) S h
  xor_swap A = den_iff (λ ds D. (
    elim [ inl p ↦ inr (p.1, p.0) | inr p ↦ inl (p.1, p.0) ],
    elim [ inl p ↦ inr (p.1, p.0) | inr p ↦ inl (p.1, p.0) ],
  )) A

module _ {k : ℕ} where
  xor_sound : (K : Kind) → Sound2 k (xor_op K) (Sem × Sem) (Means2 K) (Pointwise K OneOf)
  xor_sound K = record {
    held = λ l i S a b A. (A.0.held, A.1.held);
    short = λ l i S a b node F u AB R. let A = AB.0 in let B = AB.1 in
        ask_does (same a b) tt (λ t. zero_does K l u F (λ ds D. let e = den_same A B t ds D in elim [
          | inl p ↦ p.1 (e.0 p.0)
          | inr p ↦ p.0
              (e.1 p.1)
        ]))
        (λ t₁. ask_does (has is_empty K l a) A.held (λ t. ret_does b F (xor_swap (xor_left (den_empty A t) B)))
        (λ t₂. ask_does (has is_empty K l b) B.held (λ t. ret_does a F (xor_left (den_empty B t) A))
        (λ t₃. ask_does (has is_universal K l a) A.held (λ t. post_does (λ S h C. xor_swap (xor_left_not (den_full A t) C)) (complement_does K l b F u B))
        (λ t₄. ask_does (has is_universal K l b) B.held (λ t. post_does (λ S h. xor_left_not (den_full B t)) (complement_does K l a F u A))
        (λ t₅. bit_above K l a S A.held t₂ t₄ (λ p. ask_does (less b a) tt
        (λ t. post_does (λ S h. xor_swap) (R p (i.1, i.0) b a (B, A)))
        (λ t. R p i a b AB)))))));
    kids = each2_does K OneOf;
  }

  pub xor_does : {φ ψ : Sem} {S : Store} (K : Kind) (l a b : ℕ) → WellFormed k S → l ≤ k → Den K l φ S a → Den K l ψ S b
      → Does k S (xor K l a b) (Den K l (λ ds. OneOf (φ ds) (ψ ds)))
  unfolding xor
  xor_does {φ} {ψ} {S} K l a b F i A B = op2_does (xor_sound K) l (φ, ψ) S a b F i (A, B)
