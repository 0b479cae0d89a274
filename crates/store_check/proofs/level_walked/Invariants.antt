-- `level_walked` finds the level above the children's: the loop keeps that those passed are held at the first one's level.
use mathlib.Core.Path.{◌≡◌}
use Prim.Native.Nat.{ℕ, ◌+◌, ◌*◌, ◌<◌, ◌≤◌}
use lib.ListN.{get_or}
use Rattle.model.specs.Store.{Kind, arity, Store}
use Rattle.model.specs.WellFormed.{Held, WellFormed}
use Rattle.memory.specs.Rows.{places, plain}
use Rattle.store_check.specs.StoreChecking.{Earlier}
use Rattle.store_check.proofs.level_walked.Given as goal

abbrev pub invariant-loop-x : goal.invariant-loop-x
invariant-loop-x l = (K : Kind) (B : Store) → l.c ≡ arity K → l.i ≤ places l.c l.nodes → WellFormed l.k (plain K B l.nodes l.i)
    → Earlier K l.nodes l.i
    → (j : ℕ) → j < l.x-index → Held K (plain K B l.nodes l.i) l.l (get_or l.nodes (arity K * l.i + j) 0)
