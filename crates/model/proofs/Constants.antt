-- The constants and the identity of a level: built from level 0 up, they mean what their names say.
use mathlib.Core.Path.{◌≡◌, refl, ap}
use mathlib.Core.Logic.{◌↔◌}
use mathlib.Core.List.{List}
use Prim.Native.Nat.{ℕ, zero, suc, ◌-◌, ◌<◌, ◌≤◌}
use native.Mathlib.Omega.{arith}
use lib.ListN.{replicate, length-replicate, get_or-replicate}
use Rattle.model.specs.Meaning.{Sem, Den}
use Rattle.model.specs.Operations.{constant, zero_at_depth}
use Rattle.model.specs.Packets.{Digits, none, more, walk}
use Rattle.model.specs.Programs.{ret, mk, ◌>>=◌}
use Rattle.model.specs.Store.{Kind, arity, Store}
use Rattle.model.specs.WellFormed.{WellFormed}
use Rattle.model.proofs.Rules.{Does, den_iff, Node, ret_does, post_does, bind_does, mk_does}

module _ {k : ℕ} where
  pub constant_does : {S : Store} (K : Kind) (c l : ℕ) → c < 2 → l ≤ k → WellFormed k S → Does k S (constant K c l) (Den K l (λ ds. c ≡ 1))
  unfolding constant
  constant_does {S} K c zero b i F = ret_does c F (record { held = b; means = means })
    where
      means : (ds : List ℕ) → Digits K zero ds → (walk K S c ds ≡ 1) ↔ (c ≡ 1)
      means ds none = (λ p. p, λ p. p)
  constant_does K c (suc l) b i F = bind_does (constant_does K c l b (omega arith) F) (λ S z E F A.
      post_does (λ S h. den_iff node)
      (mk_does K l (λ d ds. c ≡ 1) (replicate (arity K) z) F i (length-replicate (arity K) z) (λ d j. rw (get_or-replicate (arity K) d z 0 j) A)))
    where
      node : (ds : List ℕ) → Digits K (suc l) ds → Node (λ d ds. c ≡ 1) ds ↔ (c ≡ 1)
      node ds (more d i D) = (λ p. p, λ p. p)

  -- the empty and the full one, whatever empty or full meaning is asked for
  pub zero_does : {φ : Sem} {S : Store} (K : Kind) (l : ℕ) → l ≤ k → WellFormed k S → ((ds : List ℕ) → Digits K l ds → ¬ φ ds)
      → Does k S (zero_at_depth K l) (Den K l φ)
  zero_does K l i F n = post_does (λ S h. den_iff (λ ds D. (λ e. absurd (omega (arith, e)), λ p. absurd (n ds D p)))) (constant_does K 0 l (omega arith) i F)

  pub full_does : {φ : Sem} {S : Store} (K : Kind) (l : ℕ) → l ≤ k → WellFormed k S → ((ds : List ℕ) → Digits K l ds → φ ds)
      → Does k S (constant K 1 l) (Den K l φ)
  full_does K l i F a = post_does (λ S h. den_iff (λ ds D. (λ e. a ds D, λ p. refl))) (constant_does K 1 l (omega arith) i F)

-- OPENED one step
pub constant_zero : (K : Kind) (c l : ℕ) → l ≡ 0 → constant K c l ≡ ret c
unfolding constant
constant_zero K c zero e = refl
constant_zero K c (suc l) e = absurd (let z : ⊥ = omega arith in z)

pub constant_step : (K : Kind) (c l : ℕ) → (l ≡ 0 → ⊥) → constant K c l ≡ (constant K c (l - 1) >>= λ z. mk K (replicate (arity K) z))
unfolding constant
constant_step K c zero h = absurd (h refl)
constant_step K c (suc l) h = let e : l ≡ suc l - 1 = omega arith in ap (λ n. constant K c n >>= λ z. mk K (replicate (arity K) z)) e
