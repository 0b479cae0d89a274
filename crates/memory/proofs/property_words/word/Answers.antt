-- `word` has the working memory's word, which says nothing wrong, or that of the nodes.
use native.Mathlib.Omega.{arith}
use Rattle.memory.proofs.property_words.word.Goals as goal

pub returns-then-v-ne0 : goal.returns-then-v-ne0
returns-then-v-ne0 c = λ K a. record { knows = λ k B n r F W A. c.known_word-v.ensures K k _ a F W (omega arith) _ A }
