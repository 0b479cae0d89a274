-- `memory::index::hash` meets its contract: a bucket goes by the first four numbers.
use mathlib.Core.Path.{◌∙◌}
use Rattle.memory.specs.Working.{bucket}
use Rattle.memory.proofs.index.hash.Goals as goal

pub returns : goal.returns
unfolding bucket
returns c = (
  c.bucket.ensures.0 ∙ rw (
    c.number-4.ensures,
    c.number-3.ensures,
    c.number-2.ensures,
    c.number.ensures,
  ),
  c.bucket.ensures.1,
)
