-- A relation's node is noted: the word is the one that `gather_relation` gives.
use mathlib.Core.Path.{◌≡◌, refl}
use mathlib.Core.List.{List}
use Prim.Native.Nat.{ℕ}
use native.Mathlib.Omega.{arith}
use Rattle.model.specs.Store.{Kind, set, rel, arity}
use Rattle.memory.specs.Noting.{Noted}
use Rattle.memory.proofs.relation_node.FourNumbers.note.Goals as goal

-- a node of four numbers is a relation's
of_relation : (x : List ℕ) (n : ℕ) (w w' : List ℕ) → Noted rel x n w w' → (K : Kind) → 4 ≡ arity K → Noted K x n w w'
of_relation x n w w' N rel e = N
of_relation x n w w' N set e = absurd (omega arith)

pub returns : goal.returns
returns c =
    let v = c.gather_relation-v in
    of_relation _ _ _ _ (record { word = v.result; known = v.ensures.known; written = c.write.ensures rel refl })
