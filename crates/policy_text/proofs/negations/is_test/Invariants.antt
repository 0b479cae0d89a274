-- `is_test` is the test `is_test`: each step is one byte of it.
use mathlib.Core.Path.{◌≡◌}
use lib.ListN.{drop}
use Rattle.policy_text.specs.Reading.{is_test}
use Rattle.policy_text.proofs.negations.is_test.Given as goal

abbrev pub invariant-loop-b : goal.invariant-loop-b
invariant-loop-b l = is_test l.rest ≡ is_test (drop l.b-index l.rest)
