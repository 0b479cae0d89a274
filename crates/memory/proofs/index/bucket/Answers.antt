-- `memory::index::bucket` meets its contract: the sum of products is that of the specification, and twelve bits are below 4,096.
use mathlib.Core.Path.{refl}
use native.Mathlib.Omega.{arith}
use Rattle.memory.specs.Working.{bucket}
use Rattle.memory.proofs.index.bucket.Goals as goal

pub returns : goal.returns
unfolding bucket
returns c = (refl, omega arith)
