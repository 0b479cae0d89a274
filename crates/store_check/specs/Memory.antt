-- The two memories of document 01, "The store", as lists of numbers, and the plain store that they hold.
use Rattle.std.specs.Prelude.{List, [], ◌∷◌, ◌++◌, ℕ, ◌+◌, ◌-◌, ◌*◌, length, get_or, drop, replicate}
use Rattle.model.specs.Store.{Kind, set, rel, arity, Nodes, Store}
use Rattle.memory.specs.Rows.{rows, places}

pub record Memories : Type 0 where
  pub relations : List ℕ
  pub sets : List ℕ

abbrev pub memories : List ℕ → List ℕ → Memories
memories r s = record { relations = r; sets = s }

abbrev pub memory : Kind → Memories → List ℕ
memory set M = M.sets
memory rel M = M.relations

-- THE HEAD of a memory, before its nodes; `src/head.rt` has its lengths and places for the code.
-- 01: "Relation memory: k, the node count n, then four numbers a node"; "Set memory: the node count m, then two numbers a node"
abbrev pub head_of : Kind → ℕ → ℕ → List ℕ
head_of set k n = n ∷ []
head_of rel k n = k ∷ n ∷ []

-- how many numbers it has
abbrev pub head : Kind → ℕ
head set = 1
head rel = 2

-- the place of the node count
abbrev pub count_at : Kind → ℕ
count_at set = 0
count_at rel = 1

-- the place of k in a relation memory
abbrev pub fields_at : ℕ
fields_at = 0

abbrev pub count : Kind → List ℕ → ℕ
count K m = get_or m (count_at K) 0

-- the number k of fields
abbrev pub fields : Memories → ℕ
fields M = get_or M.relations fields_at 0

-- the numbers after the head, and how many nodes fit there
abbrev pub body : Kind → List ℕ → List ℕ
body K m = drop (head K) m

abbrev pub places_in : Kind → List ℕ → ℕ
places_in K m = places (arity K) (body K m)

abbrev pub nodes_in : Kind → List ℕ → Nodes
nodes_in K m = rows (arity K) (count K m) (body K m)

-- the plain store that the memories hold
unfoldable pub decode : Memories → Store
decode M = record { sets = nodes_in set M.sets; rels = nodes_in rel M.relations }

-- the numbers of some nodes, one after the other
unfoldable pub flat : Nodes → List ℕ
flat [] = []
flat (x ∷ N) = x ++ flat N

-- the memory m with other head numbers h and nodes N: 01, "places past the count are zero", "numbers beyond the last place are never touched"
unfoldable pub write : Kind → List ℕ → Nodes → List ℕ → List ℕ
write K h N m = h ++ (flat N ++ (replicate (arity K * (places_in K m - length N)) 0 ++ drop (head K + arity K * places_in K m) m))

-- the memories M with the plain store S of k fields written into them
unfoldable pub encode : ℕ → Store → Memories → Memories
encode k S M = record {
  relations = write rel (head_of rel k (length S.rels)) S.rels M.relations;
  sets = write set (head_of set k (length S.sets)) S.sets M.sets;
}
