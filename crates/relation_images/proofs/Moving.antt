-- `push` and `pull`: what is left after the shortcuts.
use mathlib.Core.Path.{◌≡◌, ap}
use mathlib.Core.List.{List}
use Prim.Native.Nat.{ℕ}
use Rattle.model.specs.Operations.{constant}
use Rattle.model.specs.Programs.{Prog, ret}
use Rattle.model.specs.Store.{set}
use Rattle.memory.specs.Performing.{Condition, ReducesOn}
use Rattle.memory.proofs.Steps.{begin, by, further}
use Rattle.relation_images.specs.declared.moves.ImageShortcut.{ImageShortcut}
use Rattle.relation_images.specs.declared.moves.ImageShortcut.TheVariants.{Answer, Zero, One, Whole, Node}
use Rattle.relation_images.specs.Moves.{image_rest, ImageReduces}

-- the program is its shortcuts
pub tested : {Q : Condition} {p q whole node : Prog} {l : ℕ} {m w : List ℕ} {r : ImageShortcut} → p ≡ q → ImageReduces Q q l whole node m w r
    → ImageReduces Q p l whole node m w r
tested e t = record { reduces = further (by begin e) t.reduces }

-- each thing that they may leave
module _ {Q : Condition} {p whole node : Prog} {l : ℕ} {m w : List ℕ} {r : ImageShortcut} (t : ImageReduces Q p l whole node m w r) where
  rest_left : {i : ImageShortcut} → r ≡ i → ReducesOn Q set p (image_rest l whole node i) m w
  rest_left e = by t.reduces (ap (image_rest l whole node) e)

  pub answer_left : {h : ℕ} → r ≡ Answer h → ReducesOn Q set p (ret h) m w
  answer_left e = rest_left e

  pub zero_left : r ≡ Zero → ReducesOn Q set p (constant set 0 l) m w
  zero_left e = rest_left e

  pub one_left : r ≡ One → ReducesOn Q set p (constant set 1 l) m w
  one_left e = rest_left e

  pub whole_left : r ≡ Whole → ReducesOn Q set p whole m w
  whole_left e = rest_left e

  pub node_left : r ≡ Node → ReducesOn Q set p node m w
  node_left e = rest_left e
