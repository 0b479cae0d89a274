-- `relates` walks down one field at a time: what is left of the walk ends where the whole does.
use Prim.Native.Nat.{ℕ, ◌-◌, ◌≤◌}
use Rattle.model.specs.Store.{rel, Store}
use Rattle.model.specs.WellFormed.{Held}
use Rattle.memory.specs.Rows.{places, plain}
use Rattle.call_rules.proofs.Walking.{Walking}
use Rattle.store.proofs.relation_reads.relates.Given as goal

abbrev pub invariant-loop-step : goal.invariant-loop-step
invariant-loop-step l = (B : Store) (n : ℕ) → n ≤ places 4 l.nodes → Held rel (plain rel B l.nodes n) l.level l.a
    → Walking (plain rel B l.nodes n) l.level l.a l.input l.output (l.level - l._step) l.h l.i l.o
