-- `walks_to` goes down one child a level. The loop's invariant: g is held at level l, and the test of h is that of g.
use mathlib.Core.Path.{◌≡◌}
use Prim.Native.Nat.{ℕ, ◌≤◌, ◌-◌}
use Rattle.model.specs.Store.{Kind, Store, arity}
use Rattle.model.specs.Programs.{agrees}
use Rattle.model.specs.WellFormed.{Held, WellFormed}
use Rattle.memory.specs.Rows.{places, plain}
use Rattle.memory.proofs.property_words.walks_to.Given as goal

abbrev pub invariant-loop : goal.invariant-loop
invariant-loop l = (K : Kind) (k : ℕ) (B : Store) (n : ℕ) → l.c ≡ arity K → n ≤ places l.c l.nodes → WellFormed k (plain K B l.nodes n)
    → Held K (plain K B l.nodes n) l.level l.h → Held K (plain K B l.nodes n) (l.level - l.counter) l.g ×
    (agrees (λ ds. l.v) K l.level l.h (plain K B l.nodes n) ≡ agrees (λ ds. l.v) K (l.level - l.counter) l.g (plain K B l.nodes n))
