-- The outcome of a policy call, in document 01's order of refusals.
use Rattle.std.specs.Prelude.{Bool, List, ℕ, leb, length, Ok, Err}
use Rattle.model.specs.Policies.{policy_program}
use Rattle.model.specs.Programs.{Ran}
use Rattle.model.specs.Store.{Store as Nodes, pick}
use Rattle.store_check.specs.Memory.{Memories}
use Rattle.call_rules.specs.OnMemories.{on_store}
use Rattle.call_rules.specs.Outcome.{Verdict, gives, runs, Outcome}
use Rattle.call_rules.specs.declared.Refusal.{Refusal}
use Rattle.call_rules.specs.declared.Refusal.TheVariants.{TooLong}
use Rattle.policy_text.specs.XForms.{x_forms}
use Rattle.policy_text.specs.Answers.{tree}
use Rattle.policy_text.specs.Reading.{reading}
use Rattle.policy_text.specs.Misreads.{Reading}
use Rattle.policies.specs.Answers.{PolicyAnswer}
use Rattle.policies.specs.declared.PolicyRefusal.TheVariants.{At, Store}

-- a refusal of the store as a policy's answer, and the answer of a program
abbrev pub refused : Refusal → PolicyAnswer
refused r = Err (Store r)

abbrev pub built_handle : Ran → PolicyAnswer
built_handle R = Ok R.value

-- 7, 9, 5 and 8 at their places; a text within the rules runs its policy's program
unfoldable pub of_reading : ℕ → List ℕ → Reading → Verdict PolicyAnswer
of_reading k t (Ok u) = runs (policy_program k (tree x_forms t)) built_handle
of_reading k t (Err m) = gives (Err (At m))

-- 01: "A policy is at most 4,096 bytes"
abbrev pub most_bytes : ℕ
most_bytes = 4096

abbrev pub is_short : List ℕ → Bool
is_short t = leb (length t) most_bytes

-- 01: "Policy: 1; 10; 7 .. or 9 ..; 5 ..; 8 ..; 6", from 10 on and up to 8
unfoldable pub text_verdict : List ℕ → ℕ → Nodes → Verdict PolicyAnswer
text_verdict t k S = pick (is_short t) (of_reading k t (reading x_forms k t)) (gives (refused TooLong))

-- the answer of a policy call on two memories, and the memories after it
unfoldable pub policy_step : List ℕ → Memories → Outcome PolicyAnswer Memories
policy_step t M = on_store refused (text_verdict t) M
