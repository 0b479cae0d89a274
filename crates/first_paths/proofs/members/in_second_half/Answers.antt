-- `in_second_half` puts a rank behind those of the first half; no sum is above 2^31.
use native.Mathlib.Omega.{arith}
use Rattle.model.proofs.Powers.{pow_less}
use Rattle.first_paths.proofs.members.in_second_half.Goals as goal

pub overflow_add-result : goal.overflow_add-result
overflow_add-result c = let t = pow_less _ 30 c.requires in omega (arith, c.none_at-half.ensures)
