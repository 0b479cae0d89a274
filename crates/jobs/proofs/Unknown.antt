-- A number of no operation, 0 or one past the last: the job asks to be refused with 12.
use mathlib.Core.Bool.{◌&&◌, false}
use mathlib.Core.Path.{◌≡◌, ap}
use Prim.Native.Nat.{◌<◌}
use native.Mathlib.Omega.{arith}
use borrow.Author.Tests.{lt-ltb, lt-leb}
use Rattle.jobs.specs.Operations.{is_known_operation}
use Rattle.jobs.specs.Jobs.{refuses, asks}
use Rattle.jobs.specs.declared.Job.{Job}

unknown : (j a b c : Job) → is_known_operation j.operation ≡ false → refuses 12 ≡ asks j a b c
unfolding asks
unknown j a b c e = rw e

pub of_zero : (j a b c : Job) → j.operation ≡ 0 → refuses 12 ≡ asks j a b c
of_zero j a b c e = unknown j a b c (ap is_known_operation e)

pub past_last : (j a b c : Job) → 38 < j.operation → refuses 12 ≡ asks j a b c
past_last j a b c h = unknown j a b c (λ i. lt-ltb 0 j.operation (omega arith) i && lt-leb j.operation 38 h i)
