-- `clean` is the test `is_clean`: each step passes one `!`.
use mathlib.Core.Path.{◌≡◌}
use lib.ListN.{length}
use Rattle.policy_text.specs.XForms.{x_forms}
use Rattle.policy_text.specs.Reading.{is_clean}
use Rattle.policy_text.proofs.negations.clean.Given as goal

abbrev pub invariant-loop-atom : goal.invariant-loop-atom
invariant-loop-atom l = is_clean x_forms l.rest ≡ is_clean x_forms l.atom

abbrev pub decreases-loop-atom : goal.decreases-loop-atom
decreases-loop-atom l = length l.atom
