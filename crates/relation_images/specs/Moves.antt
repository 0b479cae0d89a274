-- What the shortcuts of `push` and `pull` leave to do.
use Rattle.std.specs.Prelude.{List, ℕ}
use Rattle.model.specs.Store.{set}
use Rattle.model.specs.Programs.{Prog, ret}
use Rattle.model.specs.Operations.{zero_at_depth, one_at_depth}
use Rattle.memory.specs.Performing.{Condition, ReducesOn}
use Rattle.relation_images.specs.declared.moves.ImageShortcut.{ImageShortcut}
use Rattle.relation_images.specs.declared.moves.ImageShortcut.TheVariants.{Answer, Zero, One, Whole, Node}

-- at level l; `whole` is what a full set gives, `node` what is left where no shortcut answers
abbrev pub image_rest : ℕ → Prog → Prog → ImageShortcut → Prog
image_rest l whole node (Answer h) = ret h
image_rest l whole node Zero = zero_at_depth set l
image_rest l whole node One = one_at_depth set l
image_rest l whole node Whole = whole
image_rest l whole node Node = node

-- r says what is left of p
pub record ImageReduces (Q : Condition) (p : Prog) (l : ℕ) (whole node : Prog) (m w : List ℕ) (r : ImageShortcut) : Type 0 where
  pub reduces : ReducesOn Q set p (image_rest l whole node r) m w
