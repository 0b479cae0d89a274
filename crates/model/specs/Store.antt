-- The plain store of document 01 ("The store", "A list of calls, and its count"): two lists of nodes without limit;
-- handles and signs; `get` and `mk` after sp.rs and spp.rs.
use Rattle.std.specs.Prelude.{List, [], ◌∷◌, map, Bool, true, false, ◌&&◌, ℕ, zero, suc, ◌+◌, ◌-◌, ◌*◌, ◌/◌, ◌%◌, get_or, eqb}

-- 01, "The store": a set node has two children, a relation node four
pub data Kind : Type 0 where
  set rel : Kind

abbrev pub arity : Kind → ℕ
arity set = 2
arity rel = 4

-- a node is the list of its children's handles: x0, x1 of a set; x00, x01, x10, x11 of a relation
abbrev pub Nodes : Type 0
Nodes = List (List ℕ)

pub record Store : Type 0 where
  pub sets : Nodes
  pub rels : Nodes

abbrev pub nodes : Kind → Store → Nodes
nodes set S = S.sets
nodes rel S = S.rels

abbrev pub with_nodes : Kind → Nodes → Store → Store
with_nodes set N S = record { sets = N; rels = S.rels }
with_nodes rel N S = record { sets = S.sets; rels = N }

-- if b then x else y
abbrev pub pick {ℓ} : {A : Type ℓ} → Bool → A → A → A
pick true x y = x
pick false x y = y

-- HANDLES. 01: "Relation handles 0 and 1 are the empty and full relation at level 0; node i has handle i + 2.
-- Set handles 0 and 1 are the constants; node j has handle 2(j + 1), and the odd handle after it is its complement."

-- sp.rs, `SP(h ^ s)`: for s = 1 the complement of a set's handle
abbrev pub signed : ℕ → ℕ → ℕ
signed zero h = h
signed (suc s) h = h + 1 - 2 * (h % 2)

-- the place of a handle's node
abbrev pub index : Kind → ℕ → ℕ
index set h = h / 2 - 1
index rel h = h - 2

-- the handle, with sign s, of the node at place i
abbrev pub handle_of : Kind → ℕ → ℕ → ℕ
handle_of set s i = signed s (2 * (i + 1))
handle_of rel s i = i + 2

-- a node seen through a handle of sign s: a set's complement has the complements of its children
abbrev pub with_sign : Kind → ℕ → List ℕ → List ℕ
with_sign set s x = map (signed s) x
with_sign rel s x = x

-- GET, of sp.rs and spp.rs: the children of a handle
unfoldable pub get : Kind → Store → ℕ → List ℕ
get K S h = with_sign K (h % 2) (get_or (nodes K S) (index K h) [])

abbrev pub child : Kind → Store → ℕ → ℕ → ℕ
child K S h d = get_or (get K S h) d 0

-- MK, of sp.rs and spp.rs: 01, "`mk` returns the node held, else appends it"
abbrev pub same_node : List ℕ → List ℕ → Bool
same_node [] [] = true
same_node [] (b ∷ y) = false
same_node (a ∷ x) [] = false
same_node (a ∷ x) (b ∷ y) = eqb a b && same_node x y

-- the place of the first node equal to x, or the length
unfoldable pub place : List ℕ → Nodes → ℕ
place x [] = 0
place x (y ∷ ys) = pick (same_node x y) 0 (suc (place x ys))

-- the nodes with x at the end, unless it is there
unfoldable pub having : List ℕ → Nodes → Nodes
having x [] = x ∷ []
having x (y ∷ ys) = pick (same_node x y) (y ∷ ys) (y ∷ having x ys)

-- 01: "a set node's x0 is even": a new node's sign is that of its first child, and it is stored without it
abbrev pub sign : List ℕ → ℕ
sign x = get_or x 0 0 % 2

abbrev pub stored : Kind → List ℕ → List ℕ
stored K x = with_sign K (sign x) x

-- the store after `mk` of the children x, and the handle that `mk` gives
unfoldable pub mk_store : Kind → List ℕ → Store → Store
mk_store K x S = with_nodes K (having (stored K x) (nodes K S)) S

unfoldable pub mk_handle : Kind → List ℕ → Store → ℕ
mk_handle K x S = handle_of K (sign x) (place (stored K x) (nodes K S))
