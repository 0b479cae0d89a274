-- The plain store beside the memories: document 01, "A list of calls, and its count".
use Rattle.std.specs.Prelude.{List, ℕ, leb, length, Result, Ok, Err}
use Rattle.model.specs.Images.{blank, new}
use Rattle.model.specs.Programs.{run}
use Rattle.model.specs.Store.{Store}
use Rattle.store.specs.Calls.{Call, new_store, set_call, set_read, relation_call, relation_read, image_call, filter_call, path_read}
use Rattle.store.specs.ImageCalls.{image_verdict, filter_verdict, path_verdict}
use Rattle.call_rules.specs.Added.{node_counts}
use Rattle.call_rules.specs.Outcome.{Verdict, runs, unless_declined, as_handle, guard, Outcome, finishes}
use Rattle.store.specs.RelationCalls.{relation_verdict, relation_read_verdict}
use Rattle.store.specs.SetCalls.{set_verdict, set_read_verdict}
use Rattle.call_rules.specs.declared.Answer.{Answer}
use Rattle.call_rules.specs.declared.Refusal.{Refusal}
use Rattle.call_rules.specs.declared.added.NodeCounts.{NodeCounts}
use Rattle.call_rules.specs.declared.Refusal.TheVariants.{OutOfRange, UsedUp}
use Rattle.policies.specs.Outcome.{refused, text_verdict}
use Rattle.policies.specs.Answers.{PolicyAnswer}

-- 01: "k and two lists of nodes, one of each kind, without limit"
pub record Plain : Type 0 where
  pub width : ℕ
  pub lists : Store

abbrev pub plain_store : ℕ → Store → Plain
plain_store k S = record { width = k; lists = S }

abbrev pub lengths : Plain → NodeCounts
lengths P = node_counts (length P.lists.rels) (length P.lists.sets)

-- WHAT A CALL ASKS of the plain store: a verdict, the lists that its program runs on, and what takes the lists that this leaves
pub record Asked (A : Type 0) : Type 0 where
  pub verdict : Verdict A
  pub lists : Store
  pub taken : Store → Plain

-- a call whose verdict on a store is v
abbrev pub asked_here : {A : Type 0} → (ℕ → Store → Verdict A) → Plain → Asked A
asked_here v P = record { verdict = v P.width P.lists; lists = P.lists; taken = plain_store P.width }

-- 01: "`new(k)` makes its 3k and k nodes .. on copies that begin empty"
unfoldable pub asked : Call → Plain → Asked (Result Answer Refusal)
asked (new_store k) P =
    record { verdict = unless_declined Err (guard OutOfRange (leb k 32) (Ok k)) (λ k. runs (new k) as_handle); lists = blank; taken = plain_store k }
asked (set_call c) P = asked_here (set_verdict c) P
asked (set_read c) P = asked_here (set_read_verdict c) P
asked (relation_call c) P = asked_here (relation_verdict c) P
asked (relation_read c) P = asked_here (relation_read_verdict c) P
asked (image_call c) P = asked_here (image_verdict c) P
asked (filter_call c) P = asked_here (filter_verdict c) P
asked (path_read c) P = asked_here (path_verdict c) P

-- 01: "A policy runs its text's operations, operands first, left before right"
abbrev pub asked_policy : List ℕ → Plain → Asked PolicyAnswer
asked_policy t P = asked_here (text_verdict t) P

-- THE OUTCOME, m places being there for sets and n for relations; 01: "Where a copy ends longer than its places, the call gets 6"
abbrev pub within : {A : Type 0} → (Refusal → A) → ℕ → ℕ → Asked A → Plain → Outcome A Plain
within refuse m n q P = finishes (refuse UsedUp) m n q.verdict q.lists P q.taken

unfoldable pub on_lists : {A : Type 0} → (Refusal → A) → ℕ → ℕ → (ℕ → Store → Verdict A) → Plain → Outcome A Plain
on_lists refuse m n v P = within refuse m n (asked_here v P) P

-- 01: "It is fed the calls' arguments and both numbers of places, no answers"
unfoldable pub plain_step : ℕ → ℕ → Call → Plain → Outcome (Result Answer Refusal) Plain
plain_step m n c P = within Err m n (asked c P) P

unfoldable pub plain_policy_step : ℕ → ℕ → List ℕ → Plain → Outcome PolicyAnswer Plain
plain_policy_step m n t P = on_lists refused m n (text_verdict t) P

-- as `new k` leaves it: 01, "In demand 3's list they begin with `new`"
abbrev pub begun : ℕ → Plain
begun k = plain_store k (run (new k) blank).store
