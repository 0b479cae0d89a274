-- `gather_relation`: the words of relations are a part of the working memory.
use mathlib.Core.Path.{refl}
use Rattle.model.specs.Store.{rel}
use Rattle.memory.proofs.Known.{gathers_in}
use Rattle.memory.proofs.property_words.gather_relation.Goals as goal

pub returns : goal.returns
returns c = gathers_in c.args.work.now _ c.words_start-s.result c.words_end-e.result _
    (c.words_start-s.ensures.0 rel refl) c.words_end-e.ensures.1
    c.words_end-e.ensures.2 c.relation_word.ensures
