-- `relation_word` gathers the words of four children that share a level.
use mathlib.Core.Path.{refl, ◌∙◌}
use native.Mathlib.Omega.{arith}
use Rattle.model.specs.Store.{rel}
use Rattle.memory.specs.Noting.{WordsOf}
use Rattle.memory.proofs.Known.{relation_gathers, relation_properties}
use Rattle.memory.proofs.property_words.relation_word.Goals as goal

pub returns : goal.returns
returns c = relation_gathers (WordsOf rel c.args.words.now) _ c.handle_word-v00.result c.handle_word-v01.result
    c.handle_word-v10.result c.handle_word-v11.result _
    (λ k S F W. c.handle_word-v00.ensures rel k S refl F W) (λ k S F W. c.handle_word-v01.ensures rel k S refl F W)
    (λ k S F W. c.handle_word-v10.ensures rel k S refl F W) (λ k S F W. c.handle_word-v11.ensures rel k S refl F W)
    (omega arith) c.if-v01-v00.false c.if-v10-v00.false c.if-v11-v00.false
    (λ p. c.word_of.ensures.0 p ∙ relation_properties refl refl refl
    c.shared-on.ensures c.shared-off.ensures)
