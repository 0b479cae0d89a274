-- `is_zero` gives what the property EMPTY says.
use mathlib.Core.Path.{refl}
use Rattle.memory.proofs.Steps.{begin, by, empty_says, tested}
use Rattle.sets.proofs.Opened.{is_zero_is}
use Rattle.sets.proofs.is_zero.Goals as goal

pub returns : goal.returns
returns c n = tested (by begin (is_zero_is _ _)) (empty_says c.set_properties.ensures refl)
