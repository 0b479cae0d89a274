-- A set's node as it is stored, and its handle: the sign of the first child goes to the handle.
use mathlib.Core.Path.{◌≡◌, refl, ap, ◌∙◌}
use mathlib.Core.List.{List, [], ◌∷◌}
use Prim.Native.Nat.{ℕ, zero, suc, ◌+◌, ◌*◌, ◌%◌, ◌<◌}
use native.Mathlib.Omega.{arith}
use lib.ListN.{length}
use Rattle.model.specs.Programs.{mk}
use Rattle.model.specs.Recursion.{x0, x1}
use Rattle.model.specs.Store.{set, signed, handle_of, sign, stored}
use Rattle.std.specs.Prelude.{Option, None}
use Rattle.memory.specs.Performing.{RunState, run_state, ended, Performs, JoinsAs}
use Rattle.memory.proofs.Steps.{false≢true}
use Rattle.memory.proofs.Stopping.{stopped}
use mathlib.Core.Bool.{true, false}

pub stored_even : (x0 x1 : ℕ) → x0 % 2 ≡ 0 → x0 ∷ x1 ∷ [] ≡ stored set (x0 ∷ x1 ∷ [])
stored_even x0 x1 o = go (x0 % 2) o
  where
    go : (s : ℕ) → s ≡ 0 → x0 ∷ x1 ∷ [] ≡ signed s x0 ∷ signed s x1 ∷ []
    go s e = rw e

pub handle_signed : (s i : ℕ) → s < 2 → 2 * (i + 1) + s ≡ handle_of set s i
handle_signed zero i h = omega arith
handle_signed (suc zero) i h = omega arith
handle_signed (suc (suc s)) i h = absurd (omega arith)

-- a node that joined, with its handle; one for which there is no place
pub joined_performs : {s : RunState} {n i : ℕ} {m m' w w' : List ℕ} (x y : List ℕ) (p : ℕ) → length x ≡ 2 → x ≡ stored set y → p ≡ sign y → p < 2
    → JoinsAs x s m m' w w' (run_state true n i) → Performs set (mk set y) s m m' w w' (run_state true n (2 * (i + 1) + p))
joined_performs {i = i} x y p z e q b J = record {
  runs = λ B _ R. (J.node set y z e).joins B _ R (handle_signed p i b ∙ ap (λ s. handle_of set s i) q);
}

pub joined_none : {s : RunState} {n : ℕ} {r : Option ℕ} {m m' w w' : List ℕ} (x y : List ℕ) → length x ≡ 2 → x ≡ stored set y
    → JoinsAs x s m m' w w' (run_state false n 0) → r ≡ None → Performs set (mk set y) s m m' w w' (ended n r)
joined_none x y z e J f = stopped (record {
  runs = λ B _ R. let a = (J.node set y z e).joins B _ R refl in record {
    okay = a.okay;
    done = λ t. absurd (false≢true t);
    writes = a.writes;
    work_length = a.work_length;
  };
}) f
