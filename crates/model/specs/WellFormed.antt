-- Held handles, their levels, and the rules of a store: 01, "The store".
use Rattle.std.specs.Prelude.{◌≡◌, List, [], ◌++◌, Bool, ◌||◌, ℕ, zero, suc, ◌<◌, ◌≤◌, length, get_or, ltb}
use Rattle.model.specs.Store.{Kind, set, rel, arity, Nodes, Store, nodes, pick, sign, index, handle_of, child}

-- h is the handle of a node whose children have P
pub record Inner (K : Kind) (S : Store) (P : ℕ → Type 0) (h : ℕ) : Type 0 where
  pub big : 2 ≤ h
  pub there : index K h < length (nodes K S)
  pub below : (d : ℕ) → d < arity K → P (child K S h d)

-- h is held at level l: 0 and 1 at level 0, a node one above its children
abbrev pub Held : Kind → Store → ℕ → ℕ → Type 0
Held K S zero h = h < 2
Held K S (suc l) h = Inner K S (Held K S l) h

-- 01: "a set node's x0 is even"
abbrev pub Even : Kind → List ℕ → Type 0
Even set x = sign x ≡ 0
Even rel x = Unit {0}

-- the node x may be at place i: 01, "A node's level is its children's plus one and at most k. A node's children are held earlier and share a level"
pub record Fits (k : ℕ) (K : Kind) (S : Store) (i : ℕ) (x : List ℕ) : Type 0 where
  pub sized : length x ≡ arity K
  pub level : ℕ
  pub under : level < k
  pub below : (d : ℕ) → d < arity K → Held K S level (get_or x d 0)
  pub earlier : (d : ℕ) → d < arity K → get_or x d 0 < handle_of K 0 i
  pub even : Even K x

-- 01: "no two nodes are equal"
abbrev pub Distinct : Nodes → Type 0
Distinct N = (i j : ℕ) → i < length N → j < length N → get_or N i [] ≡ get_or N j [] → i ≡ j

pub record WellFormed (k : ℕ) (S : Store) : Type 0 where
  pub fits : (K : Kind) (i : ℕ) → i < length (nodes K S) → Fits k K S i (get_or (nodes K S) i [])
  pub distinct : (K : Kind) → Distinct (nodes K S)

-- S' has the nodes of S and perhaps more after them
pub record Extends (S S' : Store) : Type 0 where
  pub tail : Kind → Nodes
  pub split : (K : Kind) → nodes K S' ≡ nodes K S ++ tail K

-- TESTS on numbers: whether a handle is held in a store of k fields, and its level there
abbrev pub is_held : Kind → Store → ℕ → Bool
is_held K S h = ltb h 2 || ltb (index K h) (length (nodes K S))

unfoldable pub level_of : ℕ → Kind → Store → ℕ → ℕ
level_of zero K S h = 0
level_of (suc n) K S h = pick (ltb h 2) 0 (suc (level_of n K S (child K S h 0)))
