-- `index::equal` meets its contract. The loop's invariant: the numbers before j are the same in both.
use mathlib.Core.Path.{◌≡◌}
use Prim.Native.Nat.{ℕ, ◌<◌}
use lib.ListN.{get_or}
use Rattle.memory.proofs.index.equal.Given as goal

abbrev pub invariant-loop-j : goal.invariant-loop-j
invariant-loop-j l = (k : ℕ) → k < l.j → get_or l.a k 0 ≡ get_or l.b k 0
