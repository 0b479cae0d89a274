-- What a function that finds the first pair says.
use Rattle.std.specs.Prelude.{List, ℕ, ◌≤◌}
use Rattle.model.specs.Store.{set, rel, Store}
use Rattle.model.specs.Packets.{packet}
use Rattle.model.specs.WellFormed.{Held}
use Rattle.model.specs.Meaning.{Some}
use Rattle.model.specs.FirstPair.{Through, FirstPair}
use Rattle.memory.specs.Rows.{places, plain}
use Rattle.memory.specs.Working.{Right}
use Rattle.memory.specs.Performing.{Condition}

-- x and y are the numbers of the first pair from the set p by the relation a to the set q, all held at level l among n sets of m, where there is a pair
pub record FindsPair (Q : Condition) (l p a q n : ℕ) (m w : List ℕ) (x y : ℕ) : Type 0 where
  pub finds : (B : Store) → Q B → n ≤ places 2 m → Right set B w m n → (let S = plain set B m n in
      Held set S l p → Held rel S l a → Held set S l q → Some l (λ x. Some l (λ y. Through S p a q x y))
      → FirstPair l (Through S p a q) (packet l x) (packet l y))
