-- What every public function promises of the call that it makes, for any numbers in both memories and any working memory.
use Rattle.std.specs.Prelude.{◌≡◌, List, ℕ, length, replicate}
use Rattle.store_check.specs.Memory.{Memories}
use Rattle.call_rules.specs.Added.{held_in, counted}
use Rattle.call_rules.specs.Outcome.{Outcome, outcome}
use Rattle.call_rules.specs.declared.added.NodeCounts.{NodeCounts}

-- the outcome of the call is `out`: a is its answer and M' are the memories after it; the working memory w is zero afterwards, and as long
abbrev pub Meets : {A : Type 0} → Outcome A Memories → Memories → List ℕ → List ℕ → A → Type 0
Meets out M' w w' a = (outcome a M' ≡ out) × (w' ≡ replicate (length w) 0)

-- the same of a call that may add nodes, whose outcome on the memories M is `call M`: n are the nodes that it added
abbrev pub Replies : {A : Type 0} → (Memories → Outcome A Memories) → Memories → Memories → List ℕ → List ℕ → A → NodeCounts → Type 0
Replies call M M' w w' a n = Meets (counted held_in M (call M)) M' w w' (a, n)
