-- `known_word` reads among the words of the handle's kind, a part of the working memory.
use Rattle.memory.proofs.Known.{words_part}
use Rattle.memory.proofs.property_words.known_word.Goals as goal

pub returns : goal.returns
returns c =
    let s = c.args in
    λ K k S a F W. c.handle_word.ensures K k S a F
    (words_part K s.work.now S c.words_start-s.result c.words_end-e.result
    (c.words_start-s.ensures.0 K a) c.words_end-e.ensures.1 c.words_end-e.ensures.2 W)
