-- Document 01's number and values for every case of a policy's answer.
use Rattle.std.specs.Prelude.{List, [], ◌∷◌, ℕ, Result, Ok, Err}
use Rattle.call_rules.specs.Answers.{refusal_number}
use Rattle.policy_text.specs.Misreads.{fault_number}
use Rattle.policies.specs.declared.PolicyRefusal.{PolicyRefusal}
use Rattle.policies.specs.declared.PolicyRefusal.TheVariants.{At, Store}

-- what a policy call answers: a handle, or the refusal
abbrev pub PolicyAnswer : Type 0
PolicyAnswer = Result ℕ PolicyRefusal

-- 01, "What each operation declines, in order"
abbrev pub policy_number : PolicyRefusal → ℕ
policy_number (At m) = fault_number m.fault
policy_number (Store r) = refusal_number r

-- the refusal's number, or 0
abbrev pub policy_refusal : PolicyAnswer → ℕ
policy_refusal (Ok h) = 0
policy_refusal (Err r) = policy_number r

-- the handle, or the offset of a fault; nothing with the store's own refusals
abbrev pub policy_values : PolicyAnswer → List ℕ
policy_values (Ok h) = h ∷ []
policy_values (Err (At m)) = m.at ∷ []
policy_values (Err (Store r)) = []
