-- `ifelse` on two sets: what its node runs, from what its calls did.
use mathlib.Core.Path.{◌≡◌}
use mathlib.Core.List.{List, [], ◌∷◌}
use Prim.Native.Nat.{ℕ, ◌-◌}
use Rattle.model.specs.Programs.{mk, ◌>>=◌}
use Rattle.model.specs.Sets.{ifelse}
use Rattle.model.specs.Store.{set}
use Rattle.memory.specs.Performing.{ReadsChildren, Reduces}
use Rattle.memory.proofs.Steps.{begin, by, looked}
use Rattle.sets.proofs.Opened.{ifelse_here, ifelse_below}

module _ {m w : List ℕ} (l v t e : ℕ) {t0 t1 e0 e1 : ℕ} (h : l ≡ 0 → ⊥) (X : ReadsChildren set m t (t0 ∷ t1 ∷ []))
    (Y : ReadsChildren set m e (e0 ∷ e1 ∷ [])) where
  -- the field is that of the operands' nodes
  pub here_left : v ≡ 0 → Reduces set (ifelse l v t e) (mk set (e0 ∷ t1 ∷ [])) m w
  here_left g = looked (looked (by begin (ifelse_here l v t e h g)) X) Y

  -- it is below
  pub below_left : (v ≡ 0 → ⊥) → Reduces set (ifelse l v t e)
      (ifelse (l - 1) (v - 1) t0 e0 >>= λ r0. ifelse (l - 1) (v - 1) t1 e1 >>= λ r1. mk set (r0 ∷ r1 ∷ [])) m w
  below_left g = looked (looked (by begin (ifelse_below l v t e h g)) X) Y
