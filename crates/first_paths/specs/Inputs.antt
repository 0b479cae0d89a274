-- What the memo knows and keeps of a rank.
use Rattle.std.specs.Prelude.{◌≡◌, ◌⊎◌, List, Option, Some, ℕ, ◌+◌, ◌*◌}
use Rattle.model.specs.Store.{Store}
use Rattle.model.specs.Programs.{run}
use Rattle.model.specs.FirstInputs.{first_input_node}
use Rattle.memory.specs.Memo.{op_first_input, rank_parts, rank_part}
use Rattle.memory.specs.Working.{Remembers}
use Rattle.memory.specs.Performing.{KeepsEntry}

-- r is part i of the rank, where the memo w is right
pub record KnowsPart (i l p a q : ℕ) (w : List ℕ) (r : Option ℕ) : Type 0 where
  pub part : (S : Store) (v : ℕ) → Remembers w S → r ≡ Some v → rank_part i (run (first_input_node l p a q) S).value ≡ v

-- from w to w' the memo keeps v as part i of the rank, or nothing
abbrev pub KeepsPart : ℕ → ℕ → ℕ → ℕ → ℕ → ℕ → List ℕ → List ℕ → Type 0
KeepsPart i v l p a q w w' = (w' ≡ w) ⊎ KeepsEntry w w' (op_first_input + q) l p (rank_parts * a + i) v

-- the parts of the rank h, one after the other
pub record KeepsRank (h l p a q : ℕ) (w w' : List ℕ) : Type 0 where
  pub w₁ : List ℕ
  pub w₂ : List ℕ
  pub low : KeepsPart 0 (rank_part 0 h) l p a q w w₁
  pub mid : KeepsPart 1 (rank_part 1 h) l p a q w₁ w₂
  pub high : KeepsPart 2 (rank_part 2 h) l p a q w₂ w'
