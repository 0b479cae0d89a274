-- `index::enter` meets its contract: `link_in` puts node n at the head of the chain of its bucket.
use mathlib.Core.Path.{ap, ◌∙◌}
use Rattle.memory.specs.Rows.{row}
use Rattle.memory.specs.Working.{bucket}
use Rattle.memory.proofs.Rows.{row_part}
use Rattle.memory.proofs.index.enter.Goals as goal

pub returns : goal.returns
returns c =
    let a = c.args in
    c.link_in.ensures (row a.c a.nodes.now) (c.hash.ensures.0 ∙ ap bucket (row_part a.c a.nodes.now a.n))
