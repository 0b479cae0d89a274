-- `node_level` reads the level in the word, or walks.
use mathlib.Core.Path.{ap}
use native.Mathlib.Omega.{arith}
use Rattle.memory.specs.declared.Properties.{Properties}
use Rattle.store_check.proofs.Fitting.{level_known}
use Rattle.store_check.proofs.node_level.Goals as goal

pub returns-then-word-ne0 : goal.returns-then-word-ne0
returns-then-word-ne0 c =
    let a = c.args in
    let z = c.if-word-ne0.true in
    λ K B e p F E A. level_known K B a.nodes.now a.k a.i a.word _ (omega arith)
    (ap (λ (r : Properties). r.level) c.properties_in.ensures) F E A
