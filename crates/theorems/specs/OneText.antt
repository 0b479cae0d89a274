-- DEMAND 3, one policy call by itself: "Whatever memory is handed in, an accepted text's handle relates exactly the text's pairs."
use Rattle.std.specs.Prelude.{List, ℕ}
use Rattle.model.specs.Meaning.{Relates}
use Rattle.store_check.specs.Memory.{Memories, fields, decode}
use Rattle.store_check.specs.Valid.{IsStore}
use Rattle.policies.specs.Outcome.{policy_step}
use Rattle.theorems.specs.AllCalls.{WithinRules, text_relates}

-- WHAT IS CLAIMED of the text t on any memories M, where it was accepted with the handle h: M are a store, of k fields say; the text keeps
-- the rules for k fields; and in the memories that the call leaves h relates exactly the text's pairs
pub record TextRight (t : List ℕ) (M : Memories) (h : ℕ) : Type 0 where
  pub store : IsStore M
  pub keeps : WithinRules (fields M) t
  pub relates : Relates (fields M) (text_relates (fields M) t) (decode (policy_step t M).state) h
