-- What a function that finds a member of a set says.
use Rattle.std.specs.Prelude.{List, ℕ, ◌≤◌}
use Rattle.model.specs.Store.{set, Store}
use Rattle.model.specs.Packets.{contains}
use Rattle.model.specs.WellFormed.{Held, WellFormed}
use Rattle.model.specs.FieldOrder.{rank}
use Rattle.model.specs.FirstPair.{LeastRank}
use Rattle.memory.specs.Rows.{places, plain}
use Rattle.memory.specs.Working.{Words}

-- r is the rank of the first member of the set p, held at level l, whose rank is f or more, or 2^l; among the first n sets of m, whatever n
pub record FindsFrom (l p f : ℕ) (m w : List ℕ) (r : ℕ) : Type 0 where
  pub finds : (k : ℕ) (B : Store) (n : ℕ) → n ≤ places 2 m → WellFormed k (plain set B m n) → Words w (plain set B m n)
      → Held set (plain set B m n) l p → LeastRank l (λ x. contains (plain set B m n) p x × (f ≤ rank x)) r
