-- Why a text is refused, as values: document 01's number of a fault, and a fault at an offset.
use Rattle.std.specs.Prelude.{ℕ, Result}
use Rattle.policy_text.specs.declared.Fault.{Fault}
use Rattle.policy_text.specs.declared.Misread.{Misread}

-- 01, "What each operation declines, in order": the number of a fault
abbrev pub fault_number : Fault → ℕ
fault_number Fault.NotPolicy = 7
fault_number Fault.NotPredicate = 8
fault_number Fault.TooDeep = 9
fault_number Fault.NoField = 5

abbrev pub misread : Fault → ℕ → Misread
misread f i = record { fault = f; at = i }

-- what a text reads as: a policy that keeps the rules, or the refusal
abbrev pub Reading : Type 0
Reading = Result (Unit {0}) Misread
