-- `memory::memo::slot` meets its contract. The loop's invariant: i is an even number behind the window's begin, and the lowest entry so far is of the window.
use mathlib.Core.Path.{◌≡◌}
use Prim.Native.Nat.{ℕ, ◌+◌, ◌*◌, ◌%◌, ◌≤◌}
use Rattle.memory.specs.Working.{window_size}
use Rattle.memory.proofs.memo.slot.Given as goal

-- an entry of the window from `at` on begins at r
abbrev pub Begins : ℕ → ℕ → Type 0
Begins at r = (r % 2 ≡ at % 2) × (at ≤ r) × (r + 2 ≤ at + 2 * window_size)

abbrev pub invariant-loop-j : goal.invariant-loop-j
invariant-loop-j l = Begins l.at l.lowest
