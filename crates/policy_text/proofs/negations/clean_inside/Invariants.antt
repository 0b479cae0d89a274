-- `clean_inside` is the test `is_clean_inside`: each step is one byte of it.
use mathlib.Core.Path.{◌≡◌}
use Prim.Native.Nat.{◌+◌, ◌≤◌}
use lib.ListN.{drop}
use Rattle.policy_text.specs.Reading.{is_clean_inside}
use Rattle.policy_text.proofs.negations.clean_inside.Given as goal

abbrev pub invariant-loop-b : goal.invariant-loop-b
invariant-loop-b l = (l.count ≤ l.b-index + 1) × (is_clean_inside l.rest 1 ≡ is_clean_inside (drop l.b-index l.rest) l.count)
