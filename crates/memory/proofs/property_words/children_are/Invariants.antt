-- `children_are` compares the children in order. The loop's invariant: those before d are x.
use mathlib.Core.Path.{◌≡◌}
use Prim.Native.Nat.{ℕ, ◌<◌, ◌≤◌}
use Rattle.model.specs.Store.{Kind, Store, arity, child}
use Rattle.model.specs.Safety.{Within}
use Rattle.memory.specs.Rows.{places, plain}
use Rattle.memory.proofs.property_words.children_are.Given as goal

abbrev pub invariant-loop-d : goal.invariant-loop-d
invariant-loop-d l = (K : Kind) (B : Store) (n : ℕ) → l.c ≡ arity K → n ≤ places l.c l.nodes → Within K (plain K B l.nodes n) l.h
    → (j : ℕ) → j < l.d → child K (plain K B l.nodes n) l.h j ≡ l.x
