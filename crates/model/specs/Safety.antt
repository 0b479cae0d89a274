-- What the contracts of the code cite beside the definitions above: programs that are safe, settled, or only read.
use Rattle.std.specs.Prelude.{◌≡◌, List, ℕ, ◌<◌, ◌≤◌, length, get_or}
use Rattle.model.specs.Store.{Kind, arity, Store, nodes, index, get, pick}
use Rattle.model.specs.Programs.{Test, same, less, has, holds, Prog, panic, ret, ask, look, mk, bind, ran, run}
use Rattle.model.specs.WellFormed.{Held, Extends}

-- the handle has a node
pub record Within (K : Kind) (S : Store) (h : ℕ) : Type 0 where
  pub big : 2 ≤ h
  pub there : index K h < length (nodes K S)

-- a test of a property is of a handle held at its level
abbrev pub Sure : Test → Store → Type 0
Sure (same a b) S = Unit {0}
Sure (less a b) S = Unit {0}
Sure (has P K l h) S = Held K S l h

-- the children of a new node are held at one level
pub record Kids (K : Kind) (x : List ℕ) (S : Store) : Type 0 where
  pub level : ℕ
  pub sized : length x ≡ arity K
  pub held : (d : ℕ) → d < arity K → Held K S level (get_or x d 0)

-- no panic, every test is sure, every look is at a node that is there, and a new node's children are held at one level
unfoldable pub Safe : Prog → Store → Type 0
Safe panic S = ⊥
Safe (ret h) S = Unit {0}
Safe (ask t p q) S = Sure t S × pick (holds t S) (Safe p S) (Safe q S)
Safe (look K h f) S = Within K S h × Safe (f (get K S h)) S
Safe (mk K x) S = Kids K x S
Safe (bind p f) S = Safe p S × Safe (f (run p S).value) (run p S).store

-- p adds nothing to S or to any extension of it, and gives r
pub record Settled (p : Prog) (S : Store) (r : ℕ) : Type 0 where
  pub again : (S' : Store) → Extends S S' → run p S' ≡ ran S' r

-- REDUCES: in S the program p runs as q, which is safe there
pub record ReducesTo (p q : Prog) (S : Store) : Type 0 where
  pub runs : run p S ≡ run q S
  pub safe : Safe q S

-- p makes no node
unfoldable pub ReadOnly : Prog → Type 0
ReadOnly panic = Unit {0}
ReadOnly (ret h) = Unit {0}
ReadOnly (ask t p q) = ReadOnly p × ReadOnly q
ReadOnly (look K h f) = (x : List ℕ) → ReadOnly (f x)
ReadOnly (mk K x) = ⊥
ReadOnly (bind p f) = ReadOnly p × ((h : ℕ) → ReadOnly (f h))
