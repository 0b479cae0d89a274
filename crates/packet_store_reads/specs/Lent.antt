-- What an exported function says that is lent a place for what it finds, the children of `get` or the record of `next`: its answer packed, and what is there
-- afterwards.
use Rattle.std.specs.Prelude.{◌≡◌, List, ℕ, Result}
use Rattle.store_check.specs.Memory.{Memories}
use Rattle.call_rules.specs.declared.Answer.{Answer}
use Rattle.call_rules.specs.declared.Refusal.{Refusal}
use Rattle.packing.specs.Returns.{Answers}
use Rattle.store.specs.Calls.{Call, step}

-- r, the working memory and what is lent, x, after the call C, which leaves the memories M; `written` makes of an answer and x what is there then
pub record AnswersLent {X : Type 0} (written : Result Answer Refusal → X → X) (C : Call) (M : Memories) (w w' : List ℕ) (x x' : X) (r : ℕ) : Type 0 where
  pub call : Answers (step C M) M w w' r
  pub lent : x' ≡ written (step C M).answer x
