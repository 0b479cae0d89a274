-- What an exported function says of a call: its answer packed, and the memories after it.
use Rattle.std.specs.Prelude.{◌≡◌, List, ℕ, length, replicate, Result}
use Rattle.store_check.specs.Memory.{Memories}
use Rattle.call_rules.specs.Added.{held_in, counted}
use Rattle.call_rules.specs.Outcome.{Outcome}
use Rattle.call_rules.specs.declared.Answer.{Answer}
use Rattle.call_rules.specs.declared.Refusal.{Refusal}
use Rattle.packing.specs.declared.AddedReply.{AddedReply}
use Rattle.packing.specs.declared.PairReply.{PairReply}
use Rattle.packing.specs.Packed.{packed, packed_pair, packed_reply}

-- r, the memories and the working memory after a call whose outcome is `out` and whose answers `pack` packs
pub record Returns {A R : Type 0} (pack : A → R) (out : Outcome A Memories) (M' : Memories) (w w' : List ℕ) (r : R) : Type 0 where
  pub answer : r ≡ pack out.answer
  pub state : M' ≡ out.state
  pub zeros : w' ≡ replicate (length w) 0

-- the same of a call with the answers that `pack` packs
abbrev pub Answers : Outcome (Result Answer Refusal) Memories → Memories → List ℕ → List ℕ → ℕ → Type 0
Answers out M' w w' r = Returns packed out M' w w' r

-- and with the pair in the answer beside it
abbrev pub AnswersPair : Outcome (Result Answer Refusal) Memories → Memories → List ℕ → List ℕ → PairReply → Type 0
AnswersPair out M' w w' r = Returns packed_pair out M' w w' r

-- a call that may add nodes, whose outcome on the memories M is `call M`: with the nodes that it added
abbrev pub AnswersAdded : (Memories → Outcome (Result Answer Refusal) Memories) → Memories → Memories → List ℕ → List ℕ → AddedReply → Type 0
AnswersAdded call M M' w w' r = Returns packed_reply (counted held_in M (call M)) M' w w' r
