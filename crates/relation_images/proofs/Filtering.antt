-- A set as a relation: the program of a filter opened one step, and its number in the memo.
use mathlib.Core.Path.{◌≡◌, refl}
use mathlib.Core.Bool.{Bool, true, false}
use mathlib.Core.List.{List, [], ◌∷◌}
use Prim.Native.Nat.{ℕ, ◌-◌, ◌<◌, ◌≤◌}
use borrow.Author.Tests.{lt-ltb, le-ltb}
use Rattle.model.specs.Images.{ifwd, diagonal}
use Rattle.model.specs.Programs.{Prog, less, panic, ret, ask, ◌>>=◌}
use Rattle.model.specs.Recursion.{node1, op1}
use Rattle.model.specs.Store.{set, rel}
use Rattle.model.proofs.Recursion.{node1_zero, node1_open}
use Rattle.memory.specs.Performing.{Condition, OtherNodes, ReducesOn, ReadsChildren}
use Rattle.memory.specs.Memo.{memo_program}
use Rattle.memory.proofs.OtherNodes.{read_of_other}
use Rattle.memory.proofs.Steps.{begin, by, yes, no, less_says}
use Rattle.relation_images.specs.Filters.{filter, filter_op, filter_number, filter_node}

pub filter_is : (d : Bool) (l p : ℕ) → filter d l p ≡ ask (less p 2) (ret p) (node1 (filter_op d) l p)
unfolding ifwd diagonal op1
filter_is true l p = refl
filter_is false l p = refl

pub filter_memo : (d : Bool) (l p : ℕ) {k : ℕ} → k ≡ filter_number d → node1 (filter_op d) l p ≡ memo_program k l p 0
unfolding memo_program
filter_memo true l p q = rw q
filter_memo false l p q = rw q

module _ {Q : Condition} {m w : List ℕ} (d : Bool) (l p : ℕ) where
  pub filter_small : p < 2 → ReducesOn Q rel (filter d l p) (ret p) m w
  filter_small h = yes (by begin (filter_is d l p)) (less_says (lt-ltb p 2 h))

  pub filter_left : 2 ≤ p → ReducesOn Q rel (filter d l p) (node1 (filter_op d) l p) m w
  filter_left h = no (by begin (filter_is d l p)) (less_says (le-ltb p 2 h))

pub filter_zero : (d : Bool) (l p : ℕ) → l ≡ 0 → node1 (filter_op d) l p ≡ panic
filter_zero d l p z = node1_zero (filter_op d) l p z

-- the children of p are asked in order
pub filter_opened : {o m w : List ℕ} {j : ℕ} {n : Prog} (d : Bool) (l p : ℕ) {p0 p1 : ℕ}
    → ReducesOn (OtherNodes rel o j) rel n (node1 (filter_op d) l p) m w → (l ≡ 0 → ⊥) → ReadsChildren set o p (p0 ∷ p1 ∷ [])
    → ReducesOn (OtherNodes rel o j) rel n (filter d (l - 1) p0 >>= λ r0. filter d (l - 1) p1 >>= λ r1. filter_node d (l - 1) r0 r1) m w
unfolding ifwd diagonal
filter_opened true l p u z X = read_of_other (by u (node1_open (filter_op true) l p z)) X
filter_opened false l p u z X = read_of_other (by u (node1_open (filter_op false) l p z)) X
