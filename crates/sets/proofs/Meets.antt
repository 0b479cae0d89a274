-- Whether two sets share a packet: what is left of a node when its operands' children are read.
use mathlib.Core.Path.{◌≡◌}
use mathlib.Core.List.{List, [], ◌∷◌}
use Prim.Native.Nat.{ℕ, ◌-◌}
use Rattle.model.specs.Recursion.{node2, or_else}
use Rattle.model.specs.Sets.{intersects_op, intersects}
use Rattle.model.specs.Store.{set}
use Rattle.model.proofs.Recursion.{node2_open}
use Rattle.memory.specs.Performing.{Reduces, ReadsChildren}
use Rattle.memory.proofs.Steps.{begin, by, looked}

-- the second children are asked where the first do not meet
pub meet_left : {m w : List ℕ} (l x y : ℕ) {p0 p1 q0 q1 : ℕ} → (l ≡ 0 → ⊥) → ReadsChildren set m x (p0 ∷ p1 ∷ []) → ReadsChildren set m y (q0 ∷ q1 ∷ [])
    → Reduces set (node2 intersects_op l x y) (or_else (intersects (l - 1) p0 q0) (intersects (l - 1) p1 q1)) m w
unfolding intersects
meet_left l x y h X Y = looked (looked (by begin (node2_open intersects_op l x y h)) X) Y
