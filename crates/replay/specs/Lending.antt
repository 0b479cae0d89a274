-- How much of two memories is lent from call to call.
use Rattle.std.specs.Prelude.{List, ℕ, ◌≤◌, length}
use Rattle.model.specs.Store.{set, rel}
use Rattle.store_check.specs.Memory.{head}
use Rattle.replay.specs.declared.runs.Lent.{Lent}

-- the heads are lent, and no more than there is
pub record Lends (l : Lent) (r s : List ℕ) : Type 0 where
  pub relation_head : head rel ≤ l.relations
  pub relations : l.relations ≤ length r
  pub set_head : head set ≤ l.sets
  pub sets : l.sets ≤ length s
