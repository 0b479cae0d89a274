-- `level` is the level of a held handle: the loop keeps what is left of it, and ends at a handle below 2 or at k.
use mathlib.Core.Path.{◌≡◌}
use Prim.Native.Nat.{ℕ, ◌≤◌}
use Rattle.model.specs.Store.{Kind, arity, Store}
use Rattle.model.specs.WellFormed.{Held}
use Rattle.memory.specs.Rows.{places, plain}
use Rattle.memory.proofs.Descending.{Descended}
use Rattle.memory.proofs.property_words.level.Given as goal

abbrev pub invariant-loop-l : goal.invariant-loop-l
invariant-loop-l l = (K : Kind) (B : Store) (n t : ℕ) → l.c ≡ arity K → n ≤ places l.c l.nodes → Held K (plain K B l.nodes n) t l.h → t ≤ l.k
    → Descended K (plain K B l.nodes n) t l.l l.g
