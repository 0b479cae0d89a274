-- What the index's functions do.
use Rattle.std.specs.Prelude.{◌≡◌, List, Bool, true, Option, Some, None, ℕ, ◌+◌, ◌<◌, length, take, drop}
use Rattle.memory.specs.Rows.{row}
use Rattle.memory.specs.Working.{memo_size, Indexed, index_size}

-- r is a place of x among the first n nodes, or none; where the search may be trusted, none only if x is not among them
pub record Finds (node : ℕ → List ℕ) (n : ℕ) (x : List ℕ) (good : Bool) (r : Option ℕ) : Type 0 where
  pub hit : (i : ℕ) → r ≡ Some i → (i < n) × (node i ≡ x)
  pub none : good ≡ true → r ≡ None → (k : ℕ) → k < n → node k ≡ x → ⊥

-- the search for x among the first n nodes of m may be trusted where the working memory's index is right for them
abbrev pub Search : List ℕ → List ℕ → List ℕ → ℕ → Option ℕ → Type 0
Search x m w n r = (good : Bool) → (good ≡ true → Indexed (row (length x) m) w n) → Finds (row (length x) m) n x good r

-- the same of a search that is given the place where the index begins
abbrev pub SearchAt : List ℕ → List ℕ → List ℕ → ℕ → ℕ → Option ℕ → Type 0
SearchAt x m w at n r = (good : Bool) → at ≡ memo_size (length w) → (good ≡ true → Indexed (row (length x) m) w n) → Finds (row (length x) m) n x good r

-- w' is w but for its index
pub record IndexApart (w w' : List ℕ) : Type 0 where
  pub memo : take (memo_size (length w)) w' ≡ take (memo_size (length w)) w
  pub words : drop (memo_size (length w) + index_size) w' ≡ drop (memo_size (length w) + index_size) w
  pub work_length : length w' ≡ length w

-- node n joins an index that is right
pub record Entered (node : ℕ → List ℕ) (n : ℕ) (w w' : List ℕ) : Type 0 where
  pub index : Indexed node w n → Indexed node w' (n + 1)
  pub apart : IndexApart w w'

-- the index is empty
pub record Emptied (w w' : List ℕ) : Type 0 where
  pub index : (node : ℕ → List ℕ) → Indexed node w' 0
  pub apart : IndexApart w w'
