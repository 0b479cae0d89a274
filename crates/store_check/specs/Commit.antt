-- What is done to the memory of one kind once a program has run on its nodes.
use Rattle.std.specs.Prelude.{◌≡◌, true, false, List, ℕ, ◌+◌, ◌-◌, ◌*◌, set as put, replicate}
use borrow.Rule.Slice.PartMut.{put_mid}
use Rattle.memory.specs.Performing.{RunState}

-- the numbers from s up to e made zero
abbrev pub cleared : ℕ → ℕ → List ℕ → List ℕ
cleared s e m = put_mid s (e - s) m (replicate (e - s) 0)

-- the count, which is at `at`, is written where all fitted, else the places from n on that were written are zero again;
-- nodes of c numbers begin at `start`
pub record Committed (m m' : List ℕ) (at start c n : ℕ) (r : RunState) : Type 0 where
  pub fitted : r.ok ≡ true → m' ≡ put m at r.n
  pub full : r.ok ≡ false → m' ≡ cleared (start + c * n) (start + c * r.n) m
