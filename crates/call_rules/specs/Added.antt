-- 02, M-101: "Every call that may append .. then returns the relation nodes and set nodes it added. Each number is the count held after less the
-- count before (for `new`, the count after), and both are 0 on a refusal." One definition for memories and for the plain store.
use Rattle.std.specs.Prelude.{ℕ, ◌-◌, eqb, Result}
use Rattle.model.specs.Store.{Kind, set, rel, pick}
use Rattle.store_check.specs.Memory.{Memories, count}
use Rattle.call_rules.specs.Answers.{refusal}
use Rattle.call_rules.specs.Outcome.{Outcome, outcome}
use Rattle.call_rules.specs.declared.Answer.{Answer}
use Rattle.call_rules.specs.declared.Refusal.{Refusal}
use Rattle.call_rules.specs.declared.added.NodeCounts.{NodeCounts}

abbrev pub node_counts : ℕ → ℕ → NodeCounts
node_counts r s = record { relations = r; sets = s }

abbrev pub of_kind : Kind → NodeCounts → ℕ
of_kind set n = n.sets
of_kind rel n = n.relations

-- the nodes that the memories hold
abbrev pub held_in : Memories → NodeCounts
held_in M = node_counts (count rel M.relations) (count set M.sets)

abbrev pub less : NodeCounts → NodeCounts → NodeCounts
less n m = node_counts (n.relations - m.relations) (n.sets - m.sets)

-- what `new` added: r is its refusal's number, or 0, and n are the nodes held after it
abbrev pub added_by_new : ℕ → NodeCounts → NodeCounts
added_by_new r n = pick (eqb r 0) n (node_counts 0 0)

-- THE OUTCOME of a call on the state x, its answer with the nodes that it added; `held` counts the nodes of a state
abbrev pub counted : {A X : Type 0} → (X → NodeCounts) → X → Outcome A X → Outcome (A × NodeCounts) X
counted held x t = outcome (t.answer, less (held t.state) (held x)) t.state

-- that of `new`
abbrev pub new_counted : {X : Type 0} → (X → NodeCounts) → Outcome (Result Answer Refusal) X → Outcome (Result Answer Refusal × NodeCounts) X
new_counted held t = outcome (t.answer, added_by_new (refusal t.answer) (held t.state)) t.state
