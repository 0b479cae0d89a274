-- The tests of a property: what each says of walks and of a meaning, and that it decides.
use mathlib.Core.Path.{◌≡◌, refl, subst}
use mathlib.Core.Logic.{◌⊎◌, inl, inr, ◌↔◌}
use mathlib.Core.List.{List, [], ◌∷◌}
use mathlib.Core.Bool.{Bool, true, false, ◌&&◌, not}
use Prim.Native.Nat.{ℕ, zero, suc, ◌<◌, ◌≤◌}
use native.Mathlib.Omega.{arith}
use lib.Dec.{eqb, T, eqb→eq, eqb_refl}
use Rattle.model.specs.Meaning.{Sem, Den}
use Rattle.model.specs.Packets.{Digits, none, more, walk}
use Rattle.model.specs.Programs.{is_empty, is_universal, is_identity, ending, all_below, agrees}
use Rattle.model.specs.Store.{Kind, rel, arity, Store, child}
use Rattle.model.specs.WellFormed.{Held}
use Rattle.model.proofs.Bools.{and_T, both_T}
use Rattle.model.proofs.Canonical.{walk_bit}

abbrev pub empty : Kind → ℕ → ℕ → Store → Bool
empty = agrees (ending is_empty)

abbrev pub full : Kind → ℕ → ℕ → Store → Bool
full = agrees (ending is_universal)

abbrev pub ident : ℕ → ℕ → Store → Bool
ident = agrees (ending is_identity) rel

pub all_below_T : (n : ℕ) (f : ℕ → Bool) → T (all_below n f) → (d : ℕ) → d < n → T (f d)
all_below_T zero f t d i = absurd (omega arith)
all_below_T (suc n) f t zero i = (and_T (f 0) _ t).0
all_below_T (suc n) f t (suc d) i = all_below_T n (λ d. f (suc d)) (and_T (f 0) _ t).1 d (omega arith)

pub all_below_all : (n : ℕ) (f : ℕ → Bool) → ((d : ℕ) → d < n → T (f d)) → T (all_below n f)
all_below_all zero f h = tt
all_below_all (suc n) f h = both_T (f 0) _ (h 0 (omega arith)) (all_below_all n (λ d. f (suc d)) (λ d i. h (suc d) (omega arith)))

all_below_not : (n : ℕ) (f : ℕ → Bool) → T (not (all_below n f)) → (d : ℕ) × (d < n) × T (not (f d))
all_below_not zero f t = absurd t
all_below_not (suc n) f t = go (f 0) refl t (all_below_not n (λ d. f (suc d)))
  where
    go : (b : Bool) → f 0 ≡ b → T (not (b && all_below n (λ d. f (suc d))))
        → (T (not (all_below n (λ d. f (suc d)))) → (d : ℕ) × (d < n) × T (not (f (suc d))))
        → (d : ℕ) × (d < suc n) × T (not (f d))
    go true e t ih = let r = ih t in (suc r.0, omega (arith, r.1), r.2)
    go false e t ih = (0, omega arith, rw e tt)

-- a test that says yes says where every walk ends
pub agrees_walk : {K : Kind} {l : ℕ} {ds : List ℕ} (S : Store) (f : List ℕ → ℕ) (h : ℕ) → T (agrees f K l h S) → Digits K l ds → walk K S h ds ≡ f ds
unfolding agrees
agrees_walk S f h t none = eqb→eq h (f []) t
agrees_walk {K} S f h t (more {l = l} d i D) = agrees_walk S (λ ds. f (d ∷ ds)) (child K S h d)
    (all_below_T (arity K) (λ d. agrees (λ ds. f (d ∷ ds)) K l (child K S h d) S) t d i) D

-- and where every walk ends so, it says yes
pub walk_agrees : (K : Kind) (l h : ℕ) (S : Store) (f : List ℕ → ℕ) → ((ds : List ℕ) → Digits K l ds → walk K S h ds ≡ f ds) → T (agrees f K l h S)
unfolding agrees
walk_agrees K zero h S f e = subst (λ n. T (eqb h n)) (e [] none) (eqb_refl h)
walk_agrees K (suc l) h S f e = all_below_all (arity K) _ (λ d i. walk_agrees K l (child K S h d) S (λ ds. f (d ∷ ds)) (λ ds D. e (d ∷ ds) (more d i D)))

-- a handle that is not empty has a walk to 1
pub inhabited : (K : Kind) (l h : ℕ) (S : Store) → Held K S l h → T (not (empty K l h S)) → (ds : List ℕ) × Digits K l ds × (walk K S h ds ≡ 1)
unfolding agrees
inhabited K zero h S A t = ([], none, one h A t)
  where
    one : (h : ℕ) → h < 2 → T (not (eqb h 0)) → h ≡ 1
    one zero b t = absurd t
    one (suc h) b t = omega arith
inhabited K (suc l) h S A t =
    let r = all_below_not (arity K) (λ d. empty K l (child K S h d) S) t in
    let s = inhabited K l (child K S h r.0) S (A.below r.0 r.1) r.2 in
    (r.0 ∷ s.0, more r.0 r.1 s.1, s.2)

module _ {K : Kind} {l : ℕ} {φ : Sem} {S : Store} {a : ℕ} (A : Den K l φ S a) where
  pub den_agrees : (f : List ℕ → ℕ) → T (agrees f K l a S) → (ds : List ℕ) → Digits K l ds → (f ds ≡ 1) ↔ φ ds
  den_agrees f t ds D = rw (agrees_walk S f a t D) at (A.means ds D)

  pub den_empty : T (empty K l a S) → (ds : List ℕ) → Digits K l ds → ¬ φ ds
  den_empty t ds D p = omega (arith, (den_agrees (λ ds. 0) t ds D).1 p)

  pub den_full : T (full K l a S) → (ds : List ℕ) → Digits K l ds → φ ds
  den_full t ds D = (den_agrees (λ ds. 1) t ds D).0 refl

  pub den_some : T (not (empty K l a S)) → (ds : List ℕ) × Digits K l ds × φ ds
  den_some t = let c = inhabited K l a S A.held t in (c.0, c.1, (A.means c.0 c.1).0 c.2)

  -- a meaning is decided
  pub den_case : (ds : List ℕ) → Digits K l ds → φ ds ⊎ ((walk K S a ds ≡ 0) × (¬ φ ds))
  den_case ds D = go (walk K S a ds) refl (walk_bit S a A.held D)
    where
      go : (n : ℕ) → walk K S a ds ≡ n → n < 2 → φ ds ⊎ ((walk K S a ds ≡ 0) × (¬ φ ds))
      go zero e b = inr (e, λ p. omega (arith, (A.means ds D).1 p))
      go (suc n) e b = inl ((A.means ds D).0 (omega arith))

module _ {K : Kind} {l : ℕ} {φ ψ : Sem} {S : Store} {a b : ℕ} (A : Den K l φ S a) (B : Den K l ψ S b) where
  pub den_same : T (eqb a b) → (ds : List ℕ) → Digits K l ds → φ ds ↔ ψ ds
  den_same t ds D = let e = eqb→eq a b t in
      (λ p. (B.means ds D).0 (rw e at ((A.means ds D).1 p)), λ p. (A.means ds D).0 (rw e ((B.means ds D).1 p)))

-- at level 0 a handle is empty or full, so where neither test says yes the level is not 0
pub bit_above : {X : Type 0} (K : Kind) (l a : ℕ) (S : Store) → Held K S l a → T (not (empty K l a S)) → T (not (full K l a S)) → (0 < l → X) → X
unfolding agrees
bit_above K zero a S A t u f = go a A t u
  where
    go : {A : Type 0} (a : ℕ) → a < 2 → T (not (eqb a 0)) → T (not (eqb a 1)) → A
    go zero b t u = absurd t
    go (suc zero) b t u = absurd u
    go (suc (suc a)) b t u = absurd (omega arith)
bit_above K (suc l) a S A t u f = f (omega arith)

-- a handle below 2 is held at level 0 alone
pub low_level : (K : Kind) (S : Store) (l a : ℕ) → Held K S l a → a < 2 → l ≡ 0
low_level K S zero a A b = refl
low_level K S (suc l) a A b = absurd (omega (arith, A.big))

pub high_level : (K : Kind) (S : Store) (l a : ℕ) → Held K S l a → 2 ≤ a → 0 < l
high_level K S zero a A b = absurd (omega arith)
high_level K S (suc l) a A b = omega arith
