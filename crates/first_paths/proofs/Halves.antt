-- `first_member`: what is left of it after the shortcuts, and the rank of the first of two halves.
use mathlib.Core.Path.{◌≡◌, refl, sym, subst}
use mathlib.Core.List.{List, [], ◌∷◌}
use Prim.Native.Nat.{ℕ, suc, ◌+◌, ◌-◌, ◌^◌, ◌<◌, ◌≤◌, min}
use native.Mathlib.Omega.{arith}
use borrow.Author.Tests.{lt-ltb, le-ltb}
use Rattle.model.specs.FirstInputs.{from_halves, first_member_op, first_member}
use Rattle.model.specs.Programs.{Prog, ret}
use Rattle.model.specs.Recursion.{node1, op1}
use Rattle.model.specs.Store.{Kind, set}
use Rattle.model.proofs.Recursion.{node1_open}
use Rattle.std.specs.Prelude.{Some}
use Rattle.memory.specs.Performing.{RunState, going, ended, Condition, PerformsOn, Reduces, ReadsChildren}
use Rattle.memory.proofs.Steps.{begin, by, looked, performs_less, performs_not_less, performs_ret}
use Rattle.memory.proofs.Stopping.{made}

-- a number is given by another name
pub performs_number : {Q : Condition} {K : Kind} {n h h' : ℕ} {m w : List ℕ} → h' ≡ h → PerformsOn Q K (ret h) (going n) m m w w (ended n (Some h'))
performs_number {Q} {K} {n} {h} {m = m} {w} e = subst (λ x. PerformsOn Q K (ret h) (going n) m m w w (ended n (Some x))) (sym e) performs_ret

-- the first program finds a packet, of rank r, and the second is not run; it finds none
module _ {Q : Condition} {K : Kind} {p q : Prog} {s : RunState} {n r : ℕ} {m m₁ w w₁ : List ℕ} (l : ℕ) {half : ℕ} (e : half ≡ 2 ^ l)
    (d : PerformsOn Q K p s m m₁ w w₁ (ended n (Some r))) where
  pub in_first : r < half → PerformsOn Q K (from_halves l p q) s m m₁ w w₁ (ended n (Some r))
  in_first i = made d (performs_less r (2 ^ l) (lt-ltb _ _ (subst (λ n. r < n) e i)) performs_ret)

  pub in_second : {t v : ℕ} {m₂ w₂ : List ℕ} → half ≤ r → PerformsOn Q K q (going n) m₁ m₂ w₁ w₂ (ended n (Some t)) → v ≡ 2 ^ l + min t (2 ^ l)
      → PerformsOn Q K (from_halves l p q) s m m₂ w w₂ (ended n (Some v))
  in_second i f g = made d (performs_not_less r (2 ^ l) (le-ltb _ _ (subst (λ n. n ≤ r) e i))
      (made f (performs_number g)))

module _ (l p : ℕ) where
  pub member_is : first_member l p ≡ first_member_op.short l p (node1 first_member_op l p)
  unfolding first_member op1
  member_is = refl

  pub member_opened : {m w : List ℕ} {p0 p1 : ℕ} → (l ≡ 0 → ⊥) → ReadsChildren set m p (p0 ∷ p1 ∷ [])
      → Reduces set (node1 first_member_op l p) (from_halves (l - 1) (first_member (l - 1) p0) (first_member (l - 1) p1)) m w
  unfolding first_member
  member_opened h X = looked (by begin (node1_open first_member_op l p h)) X

-- a level that is not 0 is one above another
pub one_above : (l : ℕ) → (l ≡ 0 → ⊥) → l ≡ suc (l - 1)
one_above l h = omega arith
