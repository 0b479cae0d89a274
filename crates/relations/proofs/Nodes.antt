-- A relation's node is stored as it is given, and its handle has no sign.
use mathlib.Core.Path.{◌≡◌, refl}
use mathlib.Core.List.{List}
use mathlib.Core.Bool.{true, false}
use Prim.Native.Nat.{ℕ, ◌+◌}
use lib.ListN.{length}
use Rattle.model.specs.Programs.{mk}
use Rattle.model.specs.Store.{rel}
use Rattle.std.specs.Prelude.{Option, None}
use Rattle.memory.specs.Performing.{RunState, run_state, ended, Performs, JoinsAs}
use Rattle.memory.proofs.Steps.{false≢true}
use Rattle.memory.proofs.Stopping.{stopped}

-- a node that joined, with its handle; none joined
module _ {s : RunState} {n : ℕ} {m m' w w' : List ℕ} (x : List ℕ) (z : length x ≡ 4) where
  pub joined_performs : {i : ℕ} → JoinsAs x s m m' w w' (run_state true n i) → Performs rel (mk rel x) s m m' w w' (run_state true n (i + 2))
  joined_performs J = record { runs = λ B _ R. (J.node rel x z refl).joins B _ R refl }

  pub joined_none : {r : Option ℕ} → JoinsAs x s m m' w w' (run_state false n 0) → r ≡ None → Performs rel (mk rel x) s m m' w w' (ended n r)
  joined_none {r} J e = stopped (record {
    runs = λ B _ R.
        let d = (J.node rel x z refl).joins B _ R refl in
        record { okay = d.okay; done = λ t. absurd (false≢true t); writes = d.writes; work_length = d.work_length };
  }) e
