-- All 45 calls as one type, the outcome of each on two memories and on the plain store, with the nodes that it added, and what the text of a
-- policy relates; 01, "A list of calls, and its count", and 02, M-101.
use Rattle.std.specs.Prelude.{List, ℕ, ◌≤◌, length, Result}
use Rattle.model.specs.Meaning.{Rel}
use Rattle.model.specs.Policies.{Policy, meaning}
use Rattle.store_check.specs.Memory.{Memories}
use Rattle.store.specs.Calls.{Call, new_store, set_call, set_read, relation_call, relation_read, image_call, filter_call, path_read, step}
use Rattle.theorems.specs.Lists.{Calling, NewRefused}
use Rattle.call_rules.specs.Added.{node_counts, held_in, less, added_by_new}
use Rattle.call_rules.specs.Answers.{refusal}
use Rattle.call_rules.specs.Outcome.{Outcome, outcome, map_answer}
use Rattle.theorems.specs.PlainStore.{Plain, lengths, plain_step, plain_policy_step}
use Rattle.call_rules.specs.declared.Answer.{Answer}
use Rattle.call_rules.specs.declared.Refusal.{Refusal}
use Rattle.call_rules.specs.declared.added.NodeCounts.{NodeCounts}
use Rattle.policies.specs.Answers.{policy_refusal}
use Rattle.policy_text.specs.XForms.{x_forms}
use Rattle.policy_text.specs.Answers.{KeepsRules}
use Rattle.policy_text.specs.Grammar.{Sum}
use Rattle.policies.specs.Outcome.{policy_step, most_bytes}
use Rattle.policies.specs.Answers.{PolicyAnswer}

-- ALL 45 CALLS: those of `store`, and policies of any bytes
pub data AnyCall : Type 0 where
  call : Call → AnyCall
  policy : List ℕ → AnyCall

pub data AnyAnswer : Type 0 where
  answered : Result Answer Refusal → AnyAnswer
  read : PolicyAnswer → AnyAnswer

-- the refusal's number, or 0
abbrev pub any_refusal : AnyAnswer → ℕ
any_refusal (answered a) = refusal a
any_refusal (read a) = policy_refusal a

unfoldable pub any_step : AnyCall → Memories → Outcome AnyAnswer Memories
any_step (call c) M = map_answer answered (step c M)
any_step (policy t) M = map_answer read (policy_step t M)

unfoldable pub plain_any_step : ℕ → ℕ → AnyCall → Plain → Outcome AnyAnswer Plain
plain_any_step m n (call c) P = map_answer answered (plain_step m n c P)
plain_any_step m n (policy t) P = map_answer read (plain_policy_step m n t P)

-- WHAT A CALL ADDED. A call begins a store, may add nodes to it, or only reads it
pub data Effect : Type 0 where
  begins adds reads : Effect

unfoldable pub effect : AnyCall → Effect
effect (call (new_store k)) = begins
effect (call (set_call c)) = adds
effect (call (set_read c)) = reads
effect (call (relation_call c)) = adds
effect (call (relation_read c)) = reads
effect (call (image_call c)) = adds
effect (call (filter_call c)) = adds
effect (call (path_read c)) = reads
effect (policy t) = adds

-- r is the refusal's number, or 0; n and n' are the nodes held before the call and after it
abbrev pub nodes_added : Effect → ℕ → NodeCounts → NodeCounts → NodeCounts
nodes_added begins r n n' = added_by_new r n'
nodes_added adds r n n' = less n' n
nodes_added reads r n n' = node_counts 0 0

-- an answer, and the nodes that its call added
abbrev pub AnyReply : Type 0
AnyReply = AnyAnswer × NodeCounts

-- the outcome t of the call c on the state x with the nodes that c added; `held` counts the nodes of a state
abbrev pub any_counted : {X : Type 0} → (X → NodeCounts) → AnyCall → X → Outcome AnyAnswer X → Outcome AnyReply X
any_counted held c x t = outcome (t.answer, nodes_added (effect c) (any_refusal t.answer) (held x) (held t.state)) t.state

abbrev pub reply_step : AnyCall → Memories → Outcome AnyReply Memories
reply_step c M = any_counted held_in c M (any_step c M)

-- on the plain store it is the growth of its lists
abbrev pub plain_reply_step : ℕ → ℕ → AnyCall → Plain → Outcome AnyReply Plain
plain_reply_step m n c P = any_counted lengths c P (plain_any_step m n c P)

-- 01: "and any `new` that is refused"
abbrev pub AnyContinues : AnyCall → Memories → Type 0
AnyContinues (call c) M = NewRefused c M
AnyContinues (policy t) M = Unit {0}

abbrev pub all_calls : Calling AnyCall AnyReply
all_calls = record { on_memories = reply_step; on_plain = plain_reply_step; Continues = AnyContinues }

-- 01: "A text relates the pairs that its meaning above gives for packets of k fields."
abbrev pub text_relates : ℕ → List ℕ → Rel
text_relates k t p q = (x : Policy) × Sum x_forms 32 t x × meaning k x p q

-- 01: "A text keeps the rules when it has at most 4,096 bytes, follows the grammar, nests no atom deeper than 32, names only fields
-- below k and has neither `:=` nor `*` in the operand of a `!`." 02, M-104: the grammar is the wider one, and `T` counts with these two
pub record WithinRules (k : ℕ) (t : List ℕ) : Type 0 where
  pub short : length t ≤ most_bytes
  pub rules : KeepsRules x_forms k t

-- the policy that such a text is of
abbrev pub policy_of : {k : ℕ} {t : List ℕ} → WithinRules k t → Policy
policy_of r = r.rules.policy
