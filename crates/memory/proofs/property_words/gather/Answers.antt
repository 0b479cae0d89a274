-- `gather`: a relation's node by its four numbers, and the words of sets as a part of the working memory.
use native.Mathlib.Omega.{arith}
use Rattle.model.specs.Store.{set}
use Rattle.memory.specs.Working.{Words}
use Rattle.memory.specs.Noting.{Gathers}
use Rattle.memory.proofs.Known.{is_set, gathers_in}
use Rattle.memory.proofs.property_words.gather.Goals as goal

pub returns-then-x-eq2 : goal.returns-then-x-eq2
returns-then-x-eq2 c =
    let a = c.args in
    λ K z. is_set (λ K. Gathers K (Words a.work.now) a.x.now c.set_word.result)
    (gathers_in a.work.now a.x.now c.words_start-s.result c.words_end-e.result _
    (c.words_start-s.ensures.0 set (omega arith))
    c.words_end-e.ensures.1 c.words_end-e.ensures.2 c.set_word.ensures) K (omega arith)
