-- `memory::property_words::opposite_word` meets its contract: a set's other handle is empty where the handle is universal, and the other way round.
use mathlib.Core.Path.{ap, ◌∙◌}
use mathlib.Core.Bool.{false}
use native.Mathlib.Omega.{arith}
use Rattle.memory.specs.Noting.{properties}
use Rattle.memory.proofs.Known.{known_other}
use Rattle.memory.specs.declared.Properties.{Properties}
use Rattle.memory.proofs.property_words.opposite_word.Goals as goal

pub returns : goal.returns
returns c k S h F W =
    let e = c.properties_in-r.ensures in
    known_other k S h c.args.v _ (omega arith)
    (λ p. c.word_of.ensures.0 p ∙ ap (λ (r : Properties). properties r.universal r.empty false r.level) e) F W
