-- The plain store's step on a text, by the grammar alone: document 01, "A list of calls, and its count". No reader of bytes is asked.
use Rattle.std.specs.Prelude.{◌≡◌, List, ℕ, Ok, Err}
use Rattle.model.specs.Places.{fits_places}
use Rattle.model.specs.Policies.{policy_program}
use Rattle.model.specs.Programs.{run}
use Rattle.model.specs.Store.{pick}
use Rattle.call_rules.specs.Outcome.{Outcome, outcome}
use Rattle.call_rules.specs.declared.Refusal.TheVariants.{UsedUp}
use Rattle.policies.specs.Answers.{PolicyAnswer}
use Rattle.policies.specs.declared.PolicyRefusal.{PolicyRefusal}
use Rattle.policies.specs.declared.PolicyRefusal.TheVariants.{Store}
use Rattle.theorems.specs.PlainStore.{Plain, plain_store}
use Rattle.theorems.specs.AllCalls.{WithinRules, policy_of}

-- WHAT IS CLAIMED of `out`, the outcome of the text t on the plain store P with m places for sets and n for relations
pub record PlainText (m n : ℕ) (t : List ℕ) (P : Plain) (out : Outcome PolicyAnswer Plain) : Type 0 where
  -- 01: "A policy runs its text's operations, operands first, left before right"; "Where a copy ends longer than its places, the call gets 6.
  -- A call that gets 6 .. leaves those lists as they were; any other call takes the copies."
  pub kept : (r : WithinRules P.width t) → (let R = run (policy_program P.width (policy_of r)) P.lists in
      out ≡ pick (fits_places m n R.store) (outcome (Ok R.value) (plain_store P.width R.store)) (outcome (Err (Store UsedUp)) P))
  -- any other text is refused, and leaves the lists as they were
  pub other : ¬ WithinRules P.width t → (r : PolicyRefusal) × (out ≡ outcome (Err r) P)
