-- The programs that find the first input by ranks: each gives the rank of the first packet that has what it asks, or 2^l; and the first digit of the first
-- pair, after which the rest of it is the first pair of that child.
use mathlib.Core.Path.{◌≡◌, refl, sym, subst}
use mathlib.Core.Logic.{◌⊎◌}
use mathlib.Core.List.{◌∷◌}
use mathlib.Core.Bool.{not}
use Prim.Native.Nat.{ℕ, zero, suc, ◌+◌, ◌^◌, ◌<◌, ◌≤◌, zero-le, min}
use native.Mathlib.Omega.{arith}
use borrow.Author.Tests.{eq-eqb, ltb-true}
use native.Mathlib.Nat.{pow-suc}
use lib.Dec.{eqb, ltb, T, eqb→eq, ltb→lt, nltb→le}
use Rattle.model.specs.FirstInputs.{from_halves, first_member_op, first_member, first_input_short, lesser, either_output, if_path}
use Rattle.model.specs.FirstInputs.{first_input_kids, first_input_node, first_input}
use Rattle.model.specs.FirstPair.{LeastRank}
use Rattle.model.specs.Meaning.{Sem, Rel, Den, Relates, Domain}
use Rattle.model.specs.Programs.{is_empty, is_universal, same, less, has, Prog, ret, ◌>>=◌, ran, run}
use Rattle.model.specs.Images.{has_path}
use Rattle.model.specs.Recursion.{x0, x1, x00, x01, x10, x11}
use Rattle.model.specs.Store.{set, rel, Store, pick, get}
use Rattle.model.specs.WellFormed.{WellFormed, Extends}
use Rattle.model.proofs.Bools.{by_test}
use Rattle.model.proofs.Extends.{ext_refl, ext_trans}
use Rattle.model.proofs.Images.{some_split}
use Rattle.model.proofs.Pairs.{relates_ext, block, relates_x00, relates_x01, relates_x10, relates_x11, rel_empty, rel_full}
use Rattle.model.proofs.Ranks.{least_none, least_zero, least_iff, least_either_zero, least_either, least_first_half}
use Rattle.model.proofs.Ranks.{least_second_half}
use Rattle.model.proofs.Recursion.{Sound1, op1_does}
use Rattle.model.proofs.Rules.{Does, den_ext, den_child, held_within, ret_does, ask_does, look_does, post_does, bind_does}
use Rattle.model.proofs.Tests.{den_empty, den_full, den_some, bit_above}
use Rattle.model.proofs.YesNo.{has_path_does}

-- numbers that are not the same
not_same : (m n : ℕ) → T (not (eqb m n)) → ¬ (m ≡ n)
not_same m n t e = rw (eq-eqb m n e) at t

module _ {k : ℕ} where
  from_halves_does : {P : Sem} {S : Store} {p q : Prog} (l : ℕ) → Does k S p (λ S h. LeastRank l (λ x. P (0 ∷ x)) h)
      → ((S' : Store) → Extends S S' → WellFormed k S' → Does k S' q (λ S h. LeastRank l (λ x. P (1 ∷ x)) h))
      → Does k S (from_halves l p q) (λ S h. LeastRank (suc l) P h)
  from_halves_does l A B = bind_does A λ S₁ m E₁ F₁ M. ask_does (less m (2 ^ l)) tt
      (λ t. ret_does m F₁ (least_first_half (ltb→lt m (2 ^ l) t) M))
      (λ t. bind_does (B S₁ E₁ F₁) λ S₂ n E₂ F₂ N. ret_does _ F₂ (least_second_half (nltb→le m (2 ^ l) t) M N))

  -- FIRST MEMBER
  pub first_member_does : {P : Sem} {S : Store} (l p : ℕ) → WellFormed k S → l ≤ k → Den set l P S p
      → Does k S (first_member l p) (λ S h. LeastRank l P h)
  unfolding first_member
  first_member_does {P} {S} l p F i A = op1_does sound l P S p F i A
    where
      sound : Sound1 k first_member_op Sem (λ l P S p. Den set l P S p) (λ l P S h. LeastRank l P h)
      sound = record {
        held = λ l P S p A. A.held;
        short = λ l P S p node F u A R.
            ask_does (has is_empty set l p) A.held (λ t. ret_does _ F (least_none (den_empty A t)))
            (λ t₁. ask_does (has is_universal set l p) A.held (λ t. ret_does 0 F (least_zero (den_full A t)))
            (λ t₂. bit_above set l p S A.held t₁ t₂ R));
        kids = λ l P S p f F u A H. from_halves_does l (H _ S _ F (den_child A 0 (omega arith)))
            (λ S' E F. H _ S' _ F (den_ext E (den_child A 1 (omega arith))));
      }

  -- FIRST INPUT
  lesser_does : {P Q : Sem} {S : Store} {p q : Prog} (l : ℕ) → Does k S p (λ S h. LeastRank l P h)
      → ((S' : Store) → Extends S S' → WellFormed k S' → Does k S' q (λ S h. LeastRank l Q h))
      → Does k S (lesser p q) (λ S h. LeastRank l (λ x. P x ⊎ Q x) h)
  lesser_does {P} {Q} l A B = bind_does A λ S₁ m E₁ F₁ M. ask_does (same m 0) tt
      (λ t. ret_does m F₁ (subst (λ n. LeastRank l (λ x. P x ⊎ Q x) n) (sym (eqb→eq m 0 t))
      (least_either_zero (subst (LeastRank l P) (eqb→eq m 0 t) M))))
      (λ t. bind_does (B S₁ E₁ F₁) λ S₂ n E₂ F₂ N. ret_does _ F₂ (least_either M N))

-- the inputs that R leads from, where it is the pairs of a relation from a set to another
abbrev pub From : Sem → Rel → Sem → Rel
From P R Q x y = P x × R x y × Q y

module _ {k : ℕ} {P Q : Sem} {R : Rel} where
  first_input_short_does : {S : Store} {node : Prog} (l p a q : ℕ) → WellFormed k S → l ≤ k → Den set l P S p → Relates l R S a → Den set l Q S q
      → (0 < l → Does k S node (λ S h. LeastRank l (Domain l (From P R Q)) h))
      → Does k S (first_input_short l p a q node) (λ S h. LeastRank l (Domain l (From P R Q)) h)
  first_input_short_does {S} l p a q F i A B C G =
      ask_does (has is_empty set l p) A.held (λ t. ret_does _ F (least_none (λ x X c. den_empty A t x X c.2.0)))
      (λ t₁. ask_does (has is_empty set l q) C.held (λ t. ret_does _ F (least_none (λ x X c. den_empty C t c.0 c.1 c.2.2)))
      (λ t₂. ask_does (has is_empty rel l a) B.held (λ t. ret_does _ F (least_none (λ x X c. rel_empty B t x c.0 X c.1 c.2.1)))
      (λ t₃. let y = den_some C t₂ in
      ask_does (has is_universal rel l a) B.held (λ t. post_does (λ S h. least_iff (λ x X. (
        λ c. (y.0, y.1, (c, rel_full B t x y.0 X y.1, y.2)),
        λ c. c.2.0,
      ))) (first_member_does l p F i A))
      (λ t₄. bit_above rel l a S B.held t₃ t₄ G))))

module _ {k : ℕ} where
  -- both outputs of inputs that begin with i
  outputs_does : {S : Store} {p q : Prog} (W : Rel) (i l : ℕ) → Does k S p (λ S h. LeastRank l (Domain l (block W i 0)) h)
      → ((S' : Store) → Extends S S' → WellFormed k S' → Does k S' q (λ S h. LeastRank l (Domain l (block W i 1)) h))
      → Does k S (lesser p q) (λ S h. LeastRank l (λ x. Domain (suc l) W (i ∷ x)) h)
  outputs_does W i l A B = post_does (λ S h. least_iff (λ x X. some_split l (W (i ∷ x)))) (lesser_does l A B)

  -- where there is no path there is no first input
  if_path_does : {P Q : Sem} {R : Rel} {S : Store} {there : Prog} (l p a q : ℕ) → WellFormed k S → l ≤ k → Den set l P S p → Relates l R S a
      → Den set l Q S q → ((S' : Store) → Extends S S' → WellFormed k S' → Does k S' there (λ S h. LeastRank l (Domain l (From P R Q)) h))
      → Does k S (if_path l p a q there) (λ S h. LeastRank l (Domain l (From P R Q)) h)
  if_path_does l p a q F i A B C G = bind_does (has_path_does l p a q F i A B C) λ S₁ h E₁ F₁ D. ask_does (same h 1) tt (λ t. G S₁ E₁ F₁)
      (λ t. ret_does _ F₁ (least_none (λ x X c. not_same h 1 t (D.means.1 (x, X, c)))))

  first_input_node_does : {P Q : Sem} {R : Rel} {S : Store} (l p a q : ℕ) → 0 < l → WellFormed k S → l ≤ k → Den set l P S p → Relates l R S a
      → Den set l Q S q → Does k S (first_input_node l p a q) (λ S h. LeastRank l (Domain l (From P R Q)) h)
  unfolding first_input_node
  first_input_node_does zero p a q z F i A B C = absurd (omega arith)
  first_input_node_does {P} {Q} {R} (suc l) p a q z F₀ i A₀ B₀ C₀ = if_path_does (suc l) p a q F₀ i A₀ B₀ C₀ λ S E₀ F.
      let A = den_ext E₀ A₀ in let B = relates_ext E₀ B₀ in let C = den_ext E₀ C₀ in
      look_does set p (held_within l A.held)
      (look_does set q (held_within l C.held) (look_does rel a (held_within l B.held)
      (let p0 = den_child A 0 (omega arith) in
      let p1 = den_child A 1 (omega arith) in
      let q0 = den_child C 0 (omega arith) in
      let q1 = den_child C 1 (omega arith) in
      let part : (P Q : Sem) (R : Rel) (p a q : ℕ) (S' : Store) → Extends S S' → WellFormed k S' → Den set l P S p → Relates l R S a → Den set l Q S q
      → Does k S' (first_input_short l p a q (first_input_node l p a q)) (λ S h. LeastRank l (Domain l (From P R Q)) h)
      = λ P Q R p a q S' E F A B C. let A' = den_ext E A in let B' = relates_ext E B in let C' = den_ext E C in
      first_input_short_does l p a q F (omega arith) A' B' C' (λ z. first_input_node_does l p a q z F (omega arith) A' B' C') in
      from_halves_does l
      (outputs_does (From P R Q) 0 l (part _ _ _ _ _ _ S ext_refl F p0 (relates_x00 B) q0) (λ S' E F. part _ _ _ _ _ _ S' E F p0 (relates_x01 B) q1))
      (λ S₁ E₁ F₁. outputs_does (From P R Q) 1 l (part _ _ _ _ _ _ S₁ E₁ F₁ p1 (relates_x10 B) q0)
      (λ S' E F. part _ _ _ _ _ _ S' (ext_trans E₁ E) F p1 (relates_x11 B) q1)))))

  pub first_input_does : {P Q : Sem} {R : Rel} {S : Store} (l p a q : ℕ) → WellFormed k S → l ≤ k → Den set l P S p → Relates l R S a → Den set l Q S q
      → Does k S (first_input l p a q) (λ S h. LeastRank l (Domain l (From P R Q)) h)
  unfolding first_input
  first_input_does l p a q F i A B C = first_input_short_does l p a q F i A B C (λ z. first_input_node_does l p a q z F i A B C)

-- A RANK is at most 2^l, whatever the store
halves_rank : (l : ℕ) (p q : Prog) (S : Store) → (run (from_halves l p q) S).value ≤ 2 ^ suc l
unfolding run
halves_rank l p q S =
    let m = (run p S).value in
    let T = (run p S).store in
    by_test (λ b. ltb m (2 ^ l) ≡ b → (pick b (ran T m) (run (q >>= λ n. ret (2 ^ l + min n (2 ^ l))) T)).value ≤ 2 ^ suc l) (ltb m (2 ^ l))
    (λ _ e. rw pow-suc (omega (arith, ltb-true m (2 ^ l) e))) (λ _ e. rw pow-suc (omega arith)) refl

pub node_rank : (l p a q : ℕ) (S : Store) → (run (first_input_node l p a q) S).value ≤ 2 ^ l
unfolding first_input_node run
node_rank zero p a q S = zero-le
node_rank (suc l) p a q S =
    let T = (run (has_path (suc l) p a q) S).store in
    let x = get set T p in
    let y = get set T q in
    let r = get rel T a in
    let f : ℕ → ℕ → ℕ → Prog = λ p a q. first_input_short l p a q (first_input_node l p a q) in
    by_test (λ b. (pick b (run (first_input_kids l f x r y) T) (ran T (2 ^ suc l))).value ≤ 2 ^ suc l) (eqb (run (has_path (suc l) p a q) S).value 1)
    (λ _. halves_rank l (either_output f (x0 x) (x00 r) (x01 r) (x0 y) (x1 y)) (either_output f (x1 x) (x10 r) (x11 r) (x0 y) (x1 y)) T) (λ _. omega arith)
