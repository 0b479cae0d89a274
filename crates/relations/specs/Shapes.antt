-- Shapes of nodes, as lists of children.
use Rattle.std.specs.Prelude.{◌≡◌, List, [], ◌∷◌, ℕ}
use Rattle.model.specs.Recursion.{x00, x01}

-- x has one child on the diagonal, and so has y; off the diagonal both have one and the same
pub record Lifted (x y : List ℕ) : Type 0 where
  pub first : x ≡ x00 x ∷ x01 y ∷ x01 y ∷ x00 x ∷ []
  pub second : y ≡ x00 y ∷ x01 y ∷ x01 y ∷ x00 y ∷ []
