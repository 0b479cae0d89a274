-- An operation on the children of a node: what is left when they are read.
use mathlib.Core.Path.{◌≡◌, subst}
use mathlib.Core.List.{List}
use mathlib.Core.Bool.{Bool}
use Prim.Native.Nat.{ℕ, ◌-◌}
use Rattle.model.specs.Programs.{Prog, ◌>>=◌}
use Rattle.model.specs.Recursion.{Op1, node1, op1, Op2, node2, op2, x00, x01}
use Rattle.model.specs.Store.{rel}
use Rattle.model.proofs.Diagonal.{node}
use Rattle.model.proofs.Recursion.{node1_open, node2_open}
use Rattle.memory.specs.Performing.{Reduces, ReadsChildren}
use Rattle.memory.proofs.Steps.{begin, turn, by, looked}
use Rattle.relations.specs.Shapes.{Lifted}
use Rattle.relations.specs.Binary.{Tests, binary, Lifts}

-- an operation on one relation, on two
abbrev pub on_one : (ℕ → ℕ → Prog → Prog) → (ℕ → (ℕ → Prog) → List ℕ → Prog) → Op1
on_one short kids = record { kind = rel; short = short; kids = kids }

abbrev pub on_two : (ℕ → ℕ → ℕ → (ℕ → ℕ → Prog) → Prog) → (ℕ → (ℕ → ℕ → Prog) → List ℕ → List ℕ → Prog) → Op2
on_two short kids = record { first = rel; second = rel; short = short; kids = kids }

-- the children are read, after what was done before
module _ {n : Prog} {m w : List ℕ} where
  pub opened1 : (short : ℕ → ℕ → Prog → Prog) (kids : ℕ → (ℕ → Prog) → List ℕ → Prog) (l x : ℕ) {p : List ℕ}
      → Reduces rel n (node1 (on_one short kids) l x) m w → (l ≡ 0 → ⊥) → ReadsChildren rel m x p
      → Reduces rel n (kids (l - 1) (op1 (on_one short kids) (l - 1)) p) m w
  opened1 short kids l x u h X = looked (by u (node1_open (on_one short kids) l x h)) X

  pub opened2 : (short : ℕ → ℕ → ℕ → (ℕ → ℕ → Prog) → Prog) (kids : ℕ → (ℕ → ℕ → Prog) → List ℕ → List ℕ → Prog) (l x y : ℕ) {p q : List ℕ}
      → Reduces rel n (node2 (on_two short kids) l x y) m w → (l ≡ 0 → ⊥) → ReadsChildren rel m x p → ReadsChildren rel m y q
      → Reduces rel n (kids (l - 1) (op2 (on_two short kids) (l - 1)) p q) m w
  opened2 short kids l x y u h X Y = looked (looked (by u (node2_open (on_two short kids) l x y h)) X) Y

-- of lifted nodes one call is left, where the operation lifts
pub lift_left : (cancels : Bool) (tests : Tests) {m w : List ℕ} (l x y : ℕ) {p q : List ℕ} → Lifts (op2 (binary cancels tests)) → (l ≡ 0 → ⊥)
    → ReadsChildren rel m x p → ReadsChildren rel m y q → Lifted p q
    → Reduces rel (node2 (binary cancels tests) l x y) (op2 (binary cancels tests) (l - 1) (x00 p) (x00 q) >>= λ t. node t (x01 q) (x01 q) t) m w
lift_left cancels tests {m} {w} l x y {p} {q} f h X Y L = turn (opened2 _ _ l x y begin h (subst (ReadsChildren rel m x) L.first X)
    (subst (ReadsChildren rel m y) L.second Y)) (λ B c n i s R. f (l - 1) (x00 p) (x00 q) (x01 q) _ s)
