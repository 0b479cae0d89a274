-- What the shortcuts of `has_image` and `has_path` leave to do. Yes is 1 and no is 0.
use Rattle.std.specs.Prelude.{List, Bool, Option, Some, None, ℕ}
use Rattle.std.specs.Int.{from_bool}
use Rattle.model.specs.Store.{set}
use Rattle.model.specs.Programs.{Prog, ret}
use Rattle.model.specs.Sets.{intersects}
use Rattle.model.specs.Images.{has_image, has_path_node}
use Rattle.memory.specs.Performing.{Condition, ReducesOn}
use Rattle.relation_paths.specs.declared.PathShortcut.{PathShortcut}
use Rattle.relation_paths.specs.declared.PathShortcut.TheVariants.{Answer, Meet, Leave, Node}

-- r says what is left of the program t: an answer, or else the node
abbrev pub image_rest : Prog → Option Bool → Prog
image_rest node (Some b) = ret (from_bool b)
image_rest node None = node

pub record ImageTold (Q : Condition) (t node : Prog) (m w : List ℕ) (r : Option Bool) : Type 0 where
  pub reduces : ReducesOn Q set t (image_rest node r) m w

-- at level l, from the set p by the relation a to the set q
abbrev pub path_rest : ℕ → ℕ → ℕ → ℕ → PathShortcut → Prog
path_rest l p a q (Answer b) = ret (from_bool b)
path_rest l p a q Meet = intersects l p q
path_rest l p a q Leave = has_image l p a
path_rest l p a q Node = has_path_node l p a q

-- r says what is left of the program t
pub record PathReduces (Q : Condition) (t : Prog) (l p a q : ℕ) (m w : List ℕ) (r : PathShortcut) : Type 0 where
  pub reduces : ReducesOn Q set t (path_rest l p a q r) m w
