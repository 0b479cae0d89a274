-- 02, M-101: what is claimed of the nodes that a call says it added, on any memories, and of those that the calls of a history added together.
use Rattle.std.specs.Prelude.{◌≡◌, ◌↔◌, List, [], ◌∷◌, ℕ, ◌+◌, ◌*◌, ◌<◌, get_or}
use Rattle.model.specs.Store.{Kind, stored}
use Rattle.store_check.specs.Memory.{Memories, memory, count, nodes_in}
use Rattle.call_rules.specs.Added.{node_counts, of_kind, held_in}
use Rattle.call_rules.specs.declared.added.NodeCounts.{NodeCounts}
use Rattle.store.specs.Calls.{new_store}
use Rattle.theorems.specs.AllCalls.{AnyCall, call, AnyAnswer, any_refusal, AnyContinues, reply_step}
use Rattle.theorems.specs.EveryHistory.{memories_after}
use Rattle.theorems.specs.Histories.{Made, History}

-- the answer of a call, the nodes that it added, and the memories that it left
module _ (c : AnyCall) (M : Memories) where
  abbrev pub its_answer : AnyAnswer
  its_answer = (reply_step c M).answer.0

  abbrev pub its_added : NodeCounts
  its_added = (reply_step c M).answer.1

  abbrev pub its_memories : Memories
  its_memories = (reply_step c M).state

  -- 02: "the count held after less the count before", nothing being cut off, where the store that was there goes on; "both are 0 on a refusal"
  pub record AddedRight : Type 0 where
    pub grows : AnyContinues c M → (K : Kind) → count K (memory K its_memories) ≡ count K (memory K M) + of_kind K its_added
    pub refused : ¬ (any_refusal its_answer ≡ 0) → its_added ≡ node_counts 0 0

-- 02: "for `new`, the count after", which is 3k and k
pub record NewAdded (k : ℕ) (M : Memories) : Type 0 where
  pub after : its_added (call (new_store k)) M ≡ held_in (its_memories (call (new_store k)) M)
  pub counts : its_added (call (new_store k)) M ≡ node_counts (3 * k) k

-- a node with the children x is held; a set's is stored without its sign
pub record NodeHeld (K : Kind) (x : List ℕ) (M : Memories) : Type 0 where
  pub place : ℕ
  pub inside : place < count K (memory K M)
  pub is : get_or (nodes_in K (memory K M)) place [] ≡ stored K x

-- 02: "`mk` in both stores also returns whether it appended": n are the nodes that `mk` of the children x added, where it was accepted
pub record MkAdded (K : Kind) (x : List ℕ) (M : Memories) (n : NodeCounts) : Type 0 where
  pub appended : (of_kind K n ≡ 1) ↔ ¬ NodeHeld K x M
  pub not_appended : (of_kind K n ≡ 0) ↔ NodeHeld K x M
  pub no_other : (J : Kind) → ¬ (J ≡ K) → of_kind J n ≡ 0

-- OVER A HISTORY: the nodes that some of its calls added, together
abbrev pub plus : NodeCounts → NodeCounts → NodeCounts
plus n m = node_counts (n.relations + m.relations) (n.sets + m.sets)

unfoldable pub together : List Made → NodeCounts
together [] = node_counts 0 0
together (c ∷ cs) = plus c.added (together cs)

-- what is held at the end is what `new` and the calls after it said that they added
pub record AddedTogether (H : History) : Type 0 where
  pub held_at_end : (K : Kind) → count K (memory K (memories_after H H.calls)) ≡ of_kind K H.new.added + of_kind K (together H.calls)
