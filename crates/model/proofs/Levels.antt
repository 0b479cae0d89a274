-- A handle's level: every handle that is held by its number is held at exactly one level, which `level_of` finds.
use mathlib.Core.Path.{◌≡◌, refl, sym, ap, ◌∙◌, subst}
use mathlib.Core.Logic.{◌⊎◌, inl, inr, ◌↔◌}
use mathlib.Core.List.{List, []}
use mathlib.Core.Bool.{Bool, true, false}
use Prim.Native.Nat.{ℕ, zero, suc, ◌+◌, ◌%◌, ◌<◌, ◌≤◌, zero-le}
use native.Mathlib.Omega.{arith}
use lib.ListN.{length, get_or}
use lib.Dec.{ltb, T, ltb→lt, lt→ltb}
use Rattle.model.specs.Programs.{agrees}
use Rattle.model.specs.Store.{Kind, set, rel, arity, Store, nodes, index, get, child}
use Rattle.model.specs.WellFormed.{Held, WellFormed, is_held, level_of}
use Rattle.model.proofs.Canonical.{formed_sized, canonical}
use Rattle.model.proofs.Complements.{with_sign_held}
use Rattle.model.proofs.Tests.{agrees_walk}

pub arity_pos : (K : Kind) → 0 < arity K
arity_pos set = omega arith
arity_pos rel = omega arith

pub small : (h : ℕ) → ((ltb h 2 ≡ true) × (h < 2)) ⊎ ((ltb h 2 ≡ false) × (2 ≤ h))
small zero = inl (refl, omega arith)
small (suc zero) = inl (refl, omega arith)
small (suc (suc h)) = inr (go (ltb (suc (suc h)) 2) refl, omega arith)
  where
    go : (b : Bool) → ltb (suc (suc h)) 2 ≡ b → ltb (suc (suc h)) 2 ≡ false
    go false e = e
    go true e = absurd (omega (arith, ltb→lt (suc (suc h)) 2 (rw e tt)))

pub level_is : (K : Kind) (S : Store) (n l h : ℕ) → l ≤ n → Held K S l h → level_of n K S h ≡ l
unfolding level_of
level_is K S zero zero h i A = refl
level_is K S zero (suc l) h i A = absurd (omega arith)
level_is K S (suc n) zero h i A = elim (small h) [ inl b ↦ rw b.0 | inr b ↦ absurd (omega (arith, b.1)) ]
level_is K S (suc n) (suc l) h i A = elim (small h) [
  | inl b ↦ absurd (omega (arith, b.1, A.big))
  | inr b ↦ rw b.0
      (ap suc (level_is K S n l (child K S h 0) (omega arith) (A.below 0 (arity_pos K))))
]

pub held_once : (K : Kind) (S : Store) (l m h : ℕ) → Held K S l h → Held K S m h → l ≡ m
held_once K S l m h A B = sym (level_is K S (l + m) l h (omega arith) A) ∙ level_is K S (l + m) m h (omega arith) B

-- every handle is_held is held, at its level, which is at most k
pub held_at : {k : ℕ} {S : Store} (K : Kind) (h : ℕ) → WellFormed k S → T (is_held K S h) → (l : ℕ) × (l ≤ k) × Held K S l h
unfolding get
held_at {S = S} K h F t = elim (small h) [
  | inl b ↦ (0, omega arith, b.1)
  | inr b ↦
      (let i = ltb→lt (index K h) (length (nodes K S)) (rw b.0 at t) in
      let f = F.fits K (index K h) i in (
        suc f.level,
        f.under,
        record {
          big = b.1;
          there = i;
          below = with_sign_held f.level K (h % 2) (get_or (nodes K S) (index K h) []) (formed_sized K F) f.sized
              f.below;
        },
      ))
]

pub held_level : {k : ℕ} {S : Store} (K : Kind) (h : ℕ) → WellFormed k S → T (is_held K S h) → Held K S (level_of k K S h) h
held_level {k} {S} K h F t = let r = held_at K h F t in subst (λ l. Held K S l h) (sym (level_is K S k r.0 h r.1 r.2)) r.2

-- and a handle that is held at some level is so by the test
pub held_tested : (K : Kind) (S : Store) (l h : ℕ) → Held K S l h → T (is_held K S h)
held_tested K S zero h A = elim (small h) [ inl b ↦ rw b.0 tt | inr b ↦ absurd (let z : ⊥ = omega (arith, b.1) in z) ]
held_tested K S (suc l) h A =
    elim (small h) [ inl b ↦ absurd (omega (arith, b.1, A.big)) | inr b ↦ rw b.0 (lt→ltb (index K h) (length (nodes K S)) A.there) ]

-- no handle is held above level k
pub held_most : {k : ℕ} {S : Store} (K : Kind) (l h : ℕ) → WellFormed k S → Held K S l h → l ≤ k
held_most K zero h F A = zero-le
held_most {S = S} K (suc l) h F A =
    let r = held_at K h F (held_tested K S (suc l) h A) in
    omega (arith, r.1, held_once K S (suc l) r.0 h A r.2)

-- two handles with one test passed are one
pub agrees_once : {k : ℕ} {S : Store} (K : Kind) (l a b : ℕ) (f : List ℕ → ℕ) → WellFormed k S → Held K S l a → Held K S l b → T (agrees f K l a S)
    → T (agrees f K l b S) ↔ (b ≡ a)
agrees_once {S = S} K l a b f F A B t = (
  λ u. canonical K l b a F B A (λ ds D. agrees_walk S f b u D ∙ sym (agrees_walk S f a t D)),
  λ e. subst (λ h. T (agrees f K l h S)) (sym e) t,
)
