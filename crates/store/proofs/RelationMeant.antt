-- The calls on relations: where one is not declined, its program is safe and its answer means what `Meanings` says.
use mathlib.Core.Path.{◌≡◌, sym, subst}
use mathlib.Core.List.{[], ◌∷◌}
use Prim.Native.Nat.{ℕ, suc, ◌+◌, ◌*◌, ◌≤◌}
use native.Mathlib.Omega.{arith}
use lib.Dec.{eqb}
use lib.ListN.{get_or, drop}
use Rattle.std.specs.Prelude.{Ok}
use Rattle.model.specs.Store.{rel, Store}
use Rattle.model.specs.Packets.{relates}
use Rattle.model.specs.Programs.{Prog, mk}
use Rattle.model.specs.Meaning.{Relates, Both, OneOf, Without}
use Rattle.model.specs.WellFormed.{Held, WellFormed, level_of}
use Rattle.model.proofs.Fields.{test_does, assign_does}
use Rattle.model.proofs.Pairs.{relates_den, den_relates, relates_own, mk_relates, union_relates, zero_relates, top_relates}
use Rattle.model.proofs.Pointwise.{intersect_does, xor_does, difference_does, complement_does}
use Rattle.model.proofs.Rules.{Does, held_within, post_does}
use Rattle.model.proofs.Sequence.{sequence_does}
use Rattle.model.proofs.Star.{identity_does, star_does, flip_does, naive_forward_does, backward_does}
use Rattle.model.proofs.YesNo.{is_zero_does}
use Rattle.store.specs.Meanings.{relation_meaning}
use Rattle.call_rules.specs.Outcome.{of_one, of_two}
use Rattle.store.specs.RelationCalls.{relation_declines, relation_program, relation_read_declines}
use Rattle.store.specs.RelationChecking.{RelationFieldFits, RelationReadSafe}
use Rattle.store.specs.declared.relation_calls.RelationCall.{RelationCall}
use Rattle.store.specs.declared.relation_calls.RelationCall.TheVariants as R
use Rattle.store.specs.declared.relation_reads.RelationRead.{RelationRead}
use Rattle.store.specs.declared.relation_reads.RelationRead.TheVariants as Q
use Rattle.call_rules.proofs.Declining.{guard_passed, also_passed, one_passed, two_passed, four_passed, less, above}

-- CALLS THAT MAY ADD RELATIONS
module _ {k : ℕ} {S : Store} {l : ℕ} (F : WellFormed k S) where
  -- an operation on one relation, and on two of one level
  pub single : (a : ℕ) (f : ℕ → Prog) (φ : ℕ → Store → ℕ → Type 0) → of_one k rel S a ≡ Ok l
      → ((j : ℕ) → j ≤ k → Relates j (relates S a) S a → Does k S (f j) (φ j)) → Does k S (f l) (φ (level_of k rel S a))
  single a f φ e D = let t = one_passed F rel a e in subst (λ j. Does k S (f l) (φ j)) (sym t.level) (D l t.low (relates_own S l a t.held))

  pair : (a b : ℕ) (f : ℕ → Prog) (φ : ℕ → Store → ℕ → Type 0) → of_two k rel S a b ≡ Ok l
      → ((j : ℕ) → j ≤ k → Relates j (relates S a) S a → Relates j (relates S b) S b → Does k S (f j) (φ j)) → Does k S (f l) (φ (level_of k rel S a))
  pair a b f φ e D =
      let t = two_passed F rel a b e in
      subst (λ j. Does k S (f l) (φ j)) (sym t.0.level) (D l t.0.low (relates_own S l a t.0.held) (relates_own S l b t.1.held))

  pub relation_does : (c : RelationCall) → relation_declines k c S ≡ Ok l → Does k S (relation_program k l c) (relation_meaning k c S)
  unfolding relation_meaning
  relation_does (R.Mk a b c d) e =
      let s = also_passed _ _ _ e in
      let t = four_passed F rel a b c d s.0 in
      subst (λ j. Does k S (mk rel (a ∷ b ∷ c ∷ d ∷ [])) (Relates (suc j) (λ p q. relates S (get_or (a ∷ b ∷ c ∷ d ∷ []) (2 * get_or p 0 0 + get_or q 0 0) 0)
      (drop 1 p) (drop 1 q)))) (sym t.0.level) (mk_relates l a b c d _ F (less _ _ s.1) (relates_own S l a t.0.held)
      (relates_own S l b t.1.held) (relates_own S l c t.2.held) (relates_own S l d t.3.held))
  relation_does R.Zero e = zero_relates k (omega arith) F (λ p q P Q x. x)
  relation_does R.One e = identity_does k (omega arith) F
  relation_does R.Top e = top_relates k (omega arith) F (λ p q P Q. tt)
  relation_does (R.Union a b) e = pair a b _ _ e (λ l i A B. union_relates l a b F i A B)
  relation_does (R.Intersect a b) e = pair a b _ (λ l. Relates l (λ p q. Both (relates S a p q) (relates S b p q))) e
      (λ l i A B. post_does (λ S h C. den_relates C) (intersect_does rel l a b F i (relates_den A) (relates_den B)))
  relation_does (R.Xor a b) e = pair a b _ (λ l. Relates l (λ p q. OneOf (relates S a p q) (relates S b p q))) e
      (λ l i A B. post_does (λ S h C. den_relates C) (xor_does rel l a b F i (relates_den A) (relates_den B)))
  relation_does (R.Difference a b) e = pair a b _ (λ l. Relates l (λ p q. Without (relates S a p q) (relates S b p q))) e
      (λ l i A B. post_does (λ S h C. den_relates C) (difference_does rel l a b F i (relates_den A) (relates_den B)))
  relation_does (R.Complement a) e = single a _ (λ l. Relates l (λ p q. ¬ relates S a p q)) e
      (λ l i A. post_does (λ S h C. den_relates C) (complement_does rel l a F i (relates_den A)))
  relation_does (R.Sequence a b) e = pair a b _ _ e (λ l i A B. sequence_does l a b F i A B)
  relation_does (R.Star a) e = single a _ _ e (λ l i A. star_does l a F i A)
  relation_does (R.Flip a) e = single a _ _ e (λ l i A. flip_does l a F i A)
  relation_does (R.Test f b) e = test_does F f (eqb b 1) (less _ _ (guard_passed _ _ e).0)
  relation_does (R.Assign f b) e = assign_does F f (eqb b 1) (less _ _ (guard_passed _ _ e).0)
  relation_does (R.NaiveForward a) e = single a _ _ e (λ l i A. naive_forward_does l a F i A)
  relation_does (R.Backward a) e = single a _ _ e (λ l i A. backward_does l a F i A)

  -- the field that it names is below 256
  pub relation_field_small : (c : RelationCall) → k ≤ 32 → relation_declines k c S ≡ Ok l → RelationFieldFits c
  relation_field_small (R.Mk a b c d) i e = tt
  relation_field_small R.Zero i e = tt
  relation_field_small R.One i e = tt
  relation_field_small R.Top i e = tt
  relation_field_small (R.Union a b) i e = tt
  relation_field_small (R.Intersect a b) i e = tt
  relation_field_small (R.Xor a b) i e = tt
  relation_field_small (R.Difference a b) i e = tt
  relation_field_small (R.Complement a) i e = tt
  relation_field_small (R.Sequence a b) i e = tt
  relation_field_small (R.Star a) i e = tt
  relation_field_small (R.Flip a) i e = tt
  relation_field_small (R.Test v b) i e = let h = less v k (guard_passed _ _ e).0 in omega arith
  relation_field_small (R.Assign v b) i e = let h = less v k (guard_passed _ _ e).0 in omega arith
  relation_field_small (R.NaiveForward a) i e = tt
  relation_field_small (R.Backward a) i e = tt

  -- CALLS THAT ADD NOTHING: what a call reads is there
  pub relation_read_safe : (c : RelationRead) → relation_read_declines k c S ≡ Ok l → RelationReadSafe S l c
  relation_read_safe (Q.Get a) e =
      let t = also_passed _ _ _ e in
      let q = above l t.1 in
      held_within q.0 (subst (λ l. Held rel S l a) q.1 (one_passed F rel a t.0).held)
  relation_read_safe (Q.IsZero a) e = (is_zero_does rel l a F (relates_den (relates_own S l a (one_passed F rel a e).held))).safe
  relation_read_safe (Q.Relates a p q) e = (one_passed F rel a (also_passed _ _ _ (also_passed _ _ _ e).0).0).held
