-- A policy's answer as one number, with the nodes added beside it, and what the exported function says of a policy.
use Rattle.std.specs.Prelude.{List, ℕ, get_or, Ok, Err}
use Rattle.store_check.specs.Memory.{Memories}
use Rattle.call_rules.specs.Added.{held_in, counted}
use Rattle.call_rules.specs.declared.added.NodeCounts.{NodeCounts}
use Rattle.packing.specs.Packed.{halves, with_added}
use Rattle.packing.specs.declared.AddedReply.{AddedReply}
use Rattle.packing.specs.Returns.{Returns}
use Rattle.policies.specs.Answers.{PolicyAnswer, policy_refusal, policy_values}
use Rattle.policies.specs.Outcome.{policy_step}

abbrev pub packed_policy : PolicyAnswer → ℕ
packed_policy a = halves (policy_refusal a) (policy_values a)

abbrev pub packed_policy_reply : PolicyAnswer × NodeCounts → AddedReply
packed_policy_reply r = with_added (packed_policy r.0) r.1

-- the place in the text that a refusal carries, or 0
abbrev pub offset : PolicyAnswer → ℕ
offset (Ok h) = 0
offset (Err r) = get_or (policy_values (Err r)) 0 0

-- r, the memories and the working memory after the policy t on the memories M
abbrev pub AnswersPolicy : List ℕ → Memories → Memories → List ℕ → List ℕ → AddedReply → Type 0
AnswersPolicy t M M' w w' r = Returns packed_policy_reply (counted held_in M (policy_step t M)) M' w w' r
