-- `test` of a field: what is left of it after the set at depth, and its answer.
use mathlib.Core.Path.{◌≡◌, sym, ap, ◌∙◌}
use mathlib.Core.List.{List, [], ◌∷◌}
use mathlib.Core.Bool.{Bool, true, false}
use Prim.Native.Nat.{ℕ, ◌-◌}
use Rattle.std.specs.Prelude.{Option, None}
use Rattle.model.specs.Operations.{constant, raise, test}
use Rattle.model.specs.Programs.{mk, ret, ◌>>=◌}
use Rattle.model.specs.Store.{set, pick, signed}
use Rattle.memory.specs.Performing.{RunState, run_state, going, ended, Performs}
use Rattle.memory.proofs.Steps.{performs_by, performs_ret}
use Rattle.memory.proofs.Stopping.{made, failed}

module _ {s : RunState} {n0 : ℕ} {m m1 w w1 : List ℕ} (k v : ℕ) (b : Bool) {f : ℕ} (e : f ≡ k - v - 1) where
  pub zero_fails : {r : Option ℕ} → Performs set (constant set 0 f) s m m1 w w1 (run_state false n0 0) → r ≡ None
      → Performs set (test set k v b) s m m1 w w1 (ended n0 r)
  unfolding test
  zero_fails d x = failed (performs_by (ap (constant set 0) (sym e)) d) x

  -- z is made, and its node, whose second child is o, is next
  pub zero_made : {z o : ℕ} {q : RunState} {m2 w2 : List ℕ} → Performs set (constant set 0 f) s m m1 w w1 (run_state true n0 z) → o ≡ signed 1 z
      → Performs set (mk set (z ∷ o ∷ []) >>= λ t. raise v t >>= λ r. ret (signed (pick b 0 1) r)) (going n0) m1 m2 w1 w2 q
      → Performs set (test set k v b) s m m2 w w2 q
  unfolding test
  zero_made {z} d g a = made (performs_by (ap (constant set 0) (sym e)) d)
      (performs_by (ap (λ y. mk set (z ∷ y ∷ []) >>= λ t. raise v t >>= λ r. ret (signed (pick b 0 1) r)) (sym g)) a)

-- the answer for the value c
pub test_gives : {n h : ℕ} {m w : List ℕ} (b c : Bool) (i : ℕ) → b ≡ c → h ≡ signed (pick c 0 1) i
    → Performs set (ret (signed (pick b 0 1) i)) (going n) m m w w (run_state true n h)
test_gives b c i y h = performs_by (ap (λ q. ret (signed (pick q 0 1) i)) y ∙ ap ret (sym h)) performs_ret
