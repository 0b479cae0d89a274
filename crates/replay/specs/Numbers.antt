-- What the functions that read numbers say.
use Rattle.std.specs.Prelude.{◌≡◌, List, [], ◌∷◌, ℕ, ◌+◌, ◌-◌, ◌*◌, ◌<◌, ◌≤◌, length, take, drop, get_or, Option, IfSome}
use Rattle.replay.specs.declared.lines.Row.{Row}

-- the number that decimal digits say, after those that say v
unfoldable pub spelt : ℕ → List ℕ → ℕ
spelt v [] = v
spelt v (d ∷ ds) = spelt (10 * v + (d - 48)) ds

-- v is what the bytes of the line from `from` to `end` say, and there is one at least
pub record Spells (line : List ℕ) (from v end : ℕ) : Type 0 where
  pub some : from < end
  pub within : end ≤ length line
  pub value : v ≡ spelt 0 (take (end - from) (drop from line))

-- a number that is read, and where it ends
abbrev pub ReadsNumber : List ℕ → ℕ → Option (ℕ × ℕ) → Type 0
ReadsNumber line from r = IfSome r (λ p. Spells line from p.0 p.1)

-- what the line has from a place on: these numbers, each after a space, and nothing else
pub data Rest (line : List ℕ) : ℕ → List ℕ → Type 0 where
  none : {at : ℕ} → at ≡ length line → Rest line at []
  more : {at v end : ℕ} {xs : List ℕ} → get_or line at 0 ≡ 32 → Spells line (at + 1) v end → Rest line end xs → Rest line at (v ∷ xs)

-- a row that is read has all of them
abbrev pub ReadsRow : List ℕ → ℕ → Option Row → Type 0
ReadsRow line from o = IfSome o (λ r. Rest line from (take r.count r.x))
