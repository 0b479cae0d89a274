-- What turning the index to the nodes of the other kind does: c is the child count of a kind, m its nodes, w the working memory.
use Rattle.std.specs.Prelude.{◌≡◌, List, ℕ, length}
use Rattle.model.specs.Store.{Kind, arity, Store}
use Rattle.memory.specs.Performing.{other}
use Rattle.memory.specs.Rows.{plain}
use Rattle.memory.specs.Working.{Right}

-- w was right for j nodes of the other kind, in o, over the first n of kind K in m; w' is right for these n nodes over those j
pub record Reindexed (c n : ℕ) (m w w' : List ℕ) : Type 0 where
  pub right : (K : Kind) (B : Store) (o : List ℕ) (j : ℕ) → c ≡ arity K → Right (other K) (plain K B m n) w o j → Right K (plain (other K) B o j) w' m n
  pub work_length : length w' ≡ length w
