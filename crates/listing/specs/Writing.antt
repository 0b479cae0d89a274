-- What the functions that write into a lent slice say.
use Rattle.std.specs.Prelude.{◌≡◌, List, ◌++◌, ℕ, ◌+◌, ◌*◌, ◌≤◌, length, take}
use Rattle.store_check.specs.Memory.{Memories}
use Rattle.policies.specs.Outcome.{policy_step}
use Rattle.listing.specs.Listing.{answer_line, last_line, policy_lines}

-- the bytes s come after the first `at` of o: o' holds both, up to r
pub record Adds (at : ℕ) (s o o' : List ℕ) (r : ℕ) : Type 0 where
  pub end : r ≡ at + length s
  pub text : take r o' ≡ take at o ++ s

-- at most n of them
pub record AddsFew (n at : ℕ) (s o o' : List ℕ) (r : ℕ) : Type 0 where
  pub adds : Adds at s o o' r
  pub few : r ≤ at + n

-- the policy t, number i: its line, and the memories after it
pub record PolicyLine (t : List ℕ) (i : ℕ) (M M' : Memories) (at : ℕ) (o o' : List ℕ) (r : ℕ) : Type 0 where
  pub adds : AddsFew 64 at (answer_line i (policy_step t M).answer) o o' r
  pub state : M' ≡ (policy_step t M).state

-- the policies ts from number 1 on, at most n: all lines but the last are written
pub record PolicyLines (n : ℕ) (ts : List (List ℕ)) (M M' : Memories) (at : ℕ) (o o' : List ℕ) (r : ℕ) : Type 0 where
  pub text : take at o ++ policy_lines 1 ts M ≡ take r o' ++ last_line M'
  pub few : r ≤ at + 64 * n
