-- The nodes that `new` makes, written out: one a level, lowest first. That `new` makes these is `new_is` of `proofs/New`.
use Rattle.std.specs.Prelude.{List, [], ◌∷◌, ◌++◌, ℕ, zero, suc, ◌+◌, ◌*◌}
use Rattle.model.specs.Store.{Kind, rel, Nodes, handle_of}

-- the nodes above the levels below k, lowest first
abbrev pub levels : (ℕ → List ℕ) → ℕ → Nodes
levels node zero = []
levels node (suc l) = levels node l ++ (node l ∷ [])

-- the handle of level l where these nodes begin at place p; at level 0 it is c
abbrev pub level_handle : Kind → ℕ → ℕ → ℕ → ℕ
level_handle K p c zero = c
level_handle K p c (suc l) = handle_of K 0 (p + l)

-- a relation's node above level l: where the field keeps its bit it has the handle of level l among the nodes from place p on, where it changes among those
-- from place q on
abbrev pub level_node : ℕ → ℕ → ℕ → ℕ → ℕ → List ℕ
level_node p c q d l = level_handle rel p c l ∷ level_handle rel q d l ∷ level_handle rel q d l ∷ level_handle rel p c l ∷ []

-- `zero_at_depth` of sets; the full set is its complement
abbrev pub new_sets : ℕ → Nodes
new_sets k = levels (λ l. 2 * l ∷ 2 * l ∷ []) k

-- `zero_at_depth`, `one_at_depth` and `top_at_depth` of relations
abbrev pub new_relations : ℕ → Nodes
new_relations k = (levels (level_node 0 0 0 0) k ++ levels (level_node k 1 0 0) k) ++ levels (level_node (2 * k) 1 (2 * k) 1) k
