-- What the functions that make a new store say; a and b are the lengths of the relation memory and the set memory.
use Rattle.std.specs.Prelude.{◌≡◌, List, ◌++◌, ℕ, ◌+◌, ◌-◌, ◌*◌, ◌≤◌, length, drop, Ok, Err}
use Rattle.model.specs.Store.{Kind, set, rel, arity, Nodes}
use Rattle.memory.specs.Rows.{rows, places_of}
use Rattle.store_check.specs.Commit.{cleared}
use Rattle.store_check.specs.Memory.{Memories, head}
use Rattle.call_rules.specs.Outcome.{Check, outcome}
use Rattle.call_rules.specs.OnMemories.{new_step}

-- the places for nodes of kind K in a memory of a numbers
abbrev pub places_for : Kind → ℕ → ℕ
places_for K a = places_of (a - head K) (arity K)

-- at most 32 fields, and a memory of a numbers has its head and places for n nodes of kind K
pub record NewFits (K : Kind) (k n a : ℕ) : Type 0 where
  pub few : k ≤ 32
  pub headed : head K ≤ a
  pub within : n ≤ places_for K a

-- k fields fit, or why not
abbrev pub NewChecked : ℕ → ℕ → ℕ → Check → Type 0
NewChecked a b k (Err q) = (M : Memories) → length M.relations ≡ a → length M.sets ≡ b → outcome (Err q) M ≡ new_step k M
NewChecked a b k (Ok l) = (l ≡ k) × NewFits rel k (3 * k) a × NewFits set k k b

-- a memory whose places are zero; nodes of c numbers begin at `start`
abbrev pub freed : ℕ → ℕ → List ℕ → List ℕ
freed start c m = cleared start (start + c * places_of (length m - start) c) m

-- m' is m with the nodes N, of c numbers each, written from place p to before place e
pub record NodesWritten (c p e : ℕ) (N : Nodes) (m m' : List ℕ) : Type 0 where
  pub long : length m' ≡ length m
  pub nodes : rows c e m' ≡ rows c p m ++ N
  pub rest : drop (c * e) m' ≡ drop (c * e) m
