-- `set_word` gathers the words of two children that share a level.
use mathlib.Core.Path.{refl, ap, ◌∙◌}
use mathlib.Core.Bool.{false}
use Prim.Native.Nat.{◌+◌}
use native.Mathlib.Omega.{arith}
use Rattle.model.specs.Store.{set}
use Rattle.memory.specs.Noting.{WordsOf, properties}
use Rattle.memory.specs.declared.Properties.{Properties}
use Rattle.memory.proofs.Known.{set_gathers}
use Rattle.memory.proofs.property_words.set_word.Goals as goal

pub returns : goal.returns
returns c =
    let a = c.args in
    set_gathers (WordsOf set a.words.now) a.x.now c.handle_word-v0.result c.handle_word-v1.result _
    (λ k S F W. c.handle_word-v0.ensures set k S refl F W) (λ k S F W. c.handle_word-v1.ensures set k S refl F W) (omega arith)
    c.if-v1-v0.false (λ p. c.word_of.ensures.0 p ∙ ap (λ (r : Properties). properties r.empty r.universal false (r.level + 1))
    c.shared-r.ensures)
