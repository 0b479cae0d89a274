-- Nodes in a lent slice, c numbers a node, and the plain store that has them.
use Rattle.std.specs.Prelude.{List, [], ◌∷◌, ℕ, zero, suc, ◌*◌, ◌/◌, min, length, take, drop}
use Rattle.model.specs.Store.{Kind, arity, Nodes, Store, with_nodes}

-- the numbers of the node at place i
abbrev pub row : ℕ → List ℕ → ℕ → List ℕ
row c m i = take c (drop (c * i) m)

-- n nodes from number i on
abbrev pub nodes_from : (ℕ → List ℕ) → ℕ → ℕ → Nodes
nodes_from node i zero = []
nodes_from node i (suc n) = node i ∷ nodes_from node (suc i) n

-- the first n nodes of c numbers each
unfoldable pub rows : ℕ → ℕ → List ℕ → Nodes
rows c n m = nodes_from (row c m) 0 n

-- 01: "Places are the whole nodes that fit, at most 4,096 in each"
abbrev pub most_places : ℕ
most_places = 4096

-- how many nodes of c numbers fit in n numbers
abbrev pub places_of : ℕ → ℕ → ℕ
places_of n c = min most_places (n / c)

abbrev pub places : ℕ → List ℕ → ℕ
places c m = places_of (length m) c

-- the store B with the first n nodes of m for its nodes of kind K
abbrev pub plain : Kind → Store → List ℕ → ℕ → Store
plain K B m n = with_nodes K (rows (arity K) n m) B
