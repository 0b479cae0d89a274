-- Tests and what they decide: a Boolean beside its fact.
use mathlib.Core.Path.{◌≡◌, refl, subst}
use mathlib.Core.Logic.{◌↔◌}
use mathlib.Core.Bool.{Bool, true, false, ◌&&◌}
use Prim.Native.Nat.{ℕ, ◌<◌, ◌≤◌}
use lib.Dec.{eqb, ltb, leb, T, eqb→eq, eqb_refl, ltb→lt, lt→ltb, leb→le, le→leb}
use Rattle.model.specs.Programs.{all_below}
use Rattle.model.proofs.Bools.{and_T, both_T, T_true}
use Rattle.model.proofs.Tests.{all_below_T, all_below_all}

pub record Decided (b : Bool) (P : Type 0) : Type 0 where
  pub iff : T b ↔ P

pub decided_le : (m n : ℕ) → Decided (leb m n) (m ≤ n)
decided_le m n = record { iff = (leb→le m n, le→leb m n) }

pub decided_lt : (m n : ℕ) → Decided (ltb m n) (m < n)
decided_lt m n = record { iff = (ltb→lt m n, lt→ltb m n) }

pub decided_eq : (m n : ℕ) → Decided (eqb m n) (m ≡ n)
decided_eq m n = record { iff = (eqb→eq m n, λ e. subst (λ z. T (eqb m z)) e (eqb_refl m)) }

pub decided_yes : Decided true (Unit {0})
decided_yes = record { iff = (λ t. t, λ t. t) }

pub decided_and : {b c : Bool} {P Q : Type 0} → Decided b P → Decided c Q → Decided (b && c) (P × Q)
decided_and {b} {c} p q = record {
  iff = (λ t. let u = and_T b c t in (p.iff.0 u.0, q.iff.0 u.1), λ u. both_T b c (p.iff.1 u.0) (q.iff.1 u.1));
}

pub decided_all : (n : ℕ) (f : ℕ → Bool) (P : ℕ → Type 0) → ((d : ℕ) → Decided (f d) (P d)) → Decided (all_below n f) ((d : ℕ) → d < n → P d)
decided_all n f P s = record { iff = (λ t d h. (s d).iff.0 (all_below_T n f t d h), λ u. all_below_all n f (λ d h. (s d).iff.1 (u d h))) }

pub decided_as : {b : Bool} {P Q : Type 0} → (P → Q) → (Q → P) → Decided b P → Decided b Q
decided_as f g s = record { iff = (λ t. f (s.iff.0 t), λ q. s.iff.1 (g q)) }

-- a test that holds, and one that does not
pub decided_true : {b : Bool} {P : Type 0} → Decided b P → P → b ≡ true
decided_true {b} s p = T_true b (s.iff.1 p)

pub decided_false : {b : Bool} {P : Type 0} → Decided b P → (P → ⊥) → b ≡ false
decided_false {b} s n = go b (λ t. n (s.iff.0 t))
  where
    go : (b : Bool) → (T b → ⊥) → b ≡ false
    go true t = absurd (t tt)
    go false t = refl
