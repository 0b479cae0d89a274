-- The calls on sets: where one is not declined, its program is safe and its answer means what `Meanings` says.
use mathlib.Core.Path.{◌≡◌, refl, sym, subst}
use mathlib.Core.List.{[], ◌∷◌}
use Prim.Native.Nat.{ℕ, ◌<◌, ◌≤◌}
use native.Mathlib.Omega.{arith}
use lib.Dec.{eqb}
use lib.ListN.{get_or, drop}
use Rattle.std.specs.Prelude.{Ok}
use Rattle.model.specs.Store.{set, Store}
use Rattle.model.specs.Packets.{contains}
use Rattle.model.specs.Programs.{Prog}
use Rattle.model.specs.Meaning.{Den}
use Rattle.model.specs.WellFormed.{Held, WellFormed, level_of}
use Rattle.model.proofs.Constants.{zero_does, full_does}
use Rattle.model.proofs.Pointwise.{union_does, intersect_does, xor_does, difference_does}
use Rattle.model.proofs.Rules.{Does, own, held_within}
use Rattle.model.proofs.SetFields.{mk_set, ifelse_does, set_test_does}
use Rattle.model.proofs.YesNo.{is_zero_does, intersects_does}
use Rattle.store.specs.Meanings.{set_meaning}
use Rattle.call_rules.specs.Outcome.{of_one, of_two}
use Rattle.store.specs.SetCalls.{set_declines, set_program, set_read_declines}
use Rattle.store.specs.SetChecking.{SetFieldFits, SetReadSafe}
use Rattle.store.specs.declared.set_calls.SetCall.{SetCall}
use Rattle.store.specs.declared.set_calls.SetCall.TheVariants.{Mk, Zero, One, Union, Intersect, Xor, Difference, Test, Ifelse}
use Rattle.store.specs.declared.set_reads.SetRead.{SetRead}
use Rattle.store.specs.declared.set_reads.SetRead.TheVariants.{Get, Complement, IsZero, Intersects, Next}
use Rattle.call_rules.proofs.Declining.{guard_passed, also_passed, one_passed, two_passed, less, above}

-- CALLS THAT MAY ADD SETS
module _ {k : ℕ} {S : Store} {l : ℕ} (F : WellFormed k S) where
  -- an operation on one set
  pub set_single : (a : ℕ) (f : ℕ → Prog) (φ : ℕ → Store → ℕ → Type 0) → of_one k set S a ≡ Ok l
      → ((j : ℕ) → j ≤ k → Den set j (contains S a) S a → Does k S (f j) (φ j)) → Does k S (f l) (φ (level_of k set S a))
  set_single a f φ e D = let t = one_passed F set a e in subst (λ j. Does k S (f l) (φ j)) (sym t.level) (D l t.low (own set S l a t.held))

  -- an operation on two sets of one level
  pair : (a b : ℕ) (f : ℕ → Prog) (φ : ℕ → Store → ℕ → Type 0) → of_two k set S a b ≡ Ok l
      → ((j : ℕ) → l ≡ j → j ≤ k → Den set j (contains S a) S a → Den set j (contains S b) S b → Does k S (f j) (φ j))
      → Does k S (f l) (φ (level_of k set S a))
  pair a b f φ e D =
      let t = two_passed F set a b e in
      subst (λ j. Does k S (f l) (φ j)) (sym t.0.level) (D l refl t.0.low (own set S l a t.0.held) (own set S l b t.1.held))

  pub set_does : (c : SetCall) → set_declines k c S ≡ Ok l → Does k S (set_program k l c) (set_meaning k c S)
  unfolding set_meaning
  set_does (Mk a b) e =
      let t = also_passed _ _ _ e in
      pair a b _ _ t.0 (λ j q i A B. mk_set j a b (λ p. contains S (get_or (a ∷ b ∷ []) (get_or p 0 0) 0) (drop 1 p)) F (subst (λ j. j < k) q (less _ _ t.1))
      A B (λ p. (λ x. x, λ x. x)) (λ p. (λ x. x, λ x. x)))
  set_does Zero e = zero_does set k (omega arith) F (λ ds D x. x)
  set_does One e = full_does set k (omega arith) F (λ ds D. tt)
  set_does (Union a b) e = pair a b _ _ e (λ l _ i A B. union_does set l a b F i A B)
  set_does (Intersect a b) e = pair a b _ _ e (λ l _ i A B. intersect_does set l a b F i A B)
  set_does (Xor a b) e = pair a b _ _ e (λ l _ i A B. xor_does set l a b F i A B)
  set_does (Difference a b) e = pair a b _ _ e (λ l _ i A B. difference_does set l a b F i A B)
  set_does (Test v b) e = set_test_does v (eqb b 1) F (less _ _ (guard_passed _ _ e).0)
  set_does (Ifelse v t e) d =
      let q = also_passed _ _ _ (guard_passed _ _ d).1 in
      pair t e _ _ q.0 (λ j z i A B. ifelse_does j v t e F i (subst (λ j. v < j) z (less _ _ q.1)) A B)

  -- the field that it names is below 256
  pub set_field_small : (c : SetCall) → k ≤ 32 → set_declines k c S ≡ Ok l → SetFieldFits c
  set_field_small (Mk a b) i e = tt
  set_field_small Zero i e = tt
  set_field_small One i e = tt
  set_field_small (Union a b) i e = tt
  set_field_small (Intersect a b) i e = tt
  set_field_small (Xor a b) i e = tt
  set_field_small (Difference a b) i e = tt
  set_field_small (Test v b) i e = let h = less v k (guard_passed _ _ e).0 in omega arith
  set_field_small (Ifelse v t e) i d = let h = less v k (guard_passed _ _ d).0 in omega arith

  -- CALLS THAT ADD NOTHING: what a call reads is there
  pub set_read_safe : (c : SetRead) → set_read_declines k c S ≡ Ok l → SetReadSafe S l c
  set_read_safe (Get a) e =
      let t = also_passed _ _ _ e in
      let q = above l t.1 in
      held_within q.0 (subst (λ l. Held set S l a) q.1 (one_passed F set a t.0).held)
  set_read_safe (Complement a) e = tt
  set_read_safe (IsZero a) e = (is_zero_does set l a F (own set S l a (one_passed F set a e).held)).safe
  set_read_safe (Intersects a b) e =
      let t = two_passed F set a b e in (intersects_does l a b F t.0.low (own set S l a t.0.held) (own set S l b t.1.held)).safe
  set_read_safe (Next c) e = (one_passed F set c.handle (also_passed _ _ _ e).0).held
