-- Which memories are a store: document 01, "The store", and the test that decides it.
use Rattle.std.specs.Prelude.{◌≡◌, List, [], Bool, true, ◌&&◌, ℕ, ◌+◌, ◌-◌, ◌*◌, ◌<◌, ◌≤◌, length, get_or, leb, ltb, eqb}
use Rattle.model.specs.Store.{Kind, set, rel, arity, Store, nodes, sign, handle_of, place}
use Rattle.model.specs.Programs.{all_below}
use Rattle.model.specs.WellFormed.{WellFormed, level_of}
use Rattle.store_check.specs.Memory.{Memories, memory, head, count, fields, places_in, decode}

-- the head is there; 01: "Neither count exceeds its places, and places past the count are zero"
pub record Room (K : Kind) (m : List ℕ) : Type 0 where
  pub headed : head K ≤ length m
  pub within : count K m ≤ places_in K m
  pub blank : (j : ℕ) → j < arity K * (places_in K m - count K m) → get_or m (head K + arity K * count K m + j) 0 ≡ 0

-- 01: "Memory that breaks any of this is not a store"; `WellFormed` has the rules on nodes
pub record IsStore (M : Memories) : Type 0 where
  pub few : fields M ≤ 32
  pub room : (K : Kind) → Room K (memory K M)
  pub formed : WellFormed (fields M) (decode M)

-- THE TEST
unfoldable pub has_room : Kind → List ℕ → Bool
has_room K m = leb (head K) (length m)
    && (leb (count K m) (places_in K m) && all_below (arity K * (places_in K m - count K m)) (λ j. eqb (get_or m (head K + arity K * count K m + j) 0) 0))

abbrev pub is_even : Kind → List ℕ → Bool
is_even set x = eqb (sign x) 0
is_even rel x = true

-- the child h of a node at place i is held earlier, at level l
abbrev pub is_child : ℕ → Kind → Store → ℕ → ℕ → ℕ → Bool
is_child k K S i l h = ltb h (handle_of K 0 i) && eqb (level_of k K S h) l

-- the node at place i: its first child's level is below k, each child is right, x0 is even, and no earlier node equals it
unfoldable pub is_node : ℕ → Kind → Store → ℕ → Bool
is_node k K S i = (let x = get_or (nodes K S) i [] in let l = level_of k K S (get_or x 0 0) in
    ltb l k && (all_below (arity K) (λ d. is_child k K S i l (get_or x d 0)) && (is_even K x && eqb (place x (nodes K S)) i)))

unfoldable pub are_nodes : ℕ → Kind → Store → Bool
are_nodes k K S = all_below (length (nodes K S)) (is_node k K S)

unfoldable pub is_store : Memories → Bool
is_store M = has_room rel M.relations
    && (has_room set M.sets && (leb (fields M) 32 && (are_nodes (fields M) rel (decode M) && are_nodes (fields M) set (decode M))))
