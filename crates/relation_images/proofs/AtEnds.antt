-- What is asked of an end of a relation's pairs: its programs opened one step, and their numbers in the memo. The code's own numbers and orders
-- come with an equation, since they are the trait's.
use mathlib.Core.Path.{◌≡◌, refl, sym, ap}
use mathlib.Core.Bool.{Bool, true, false}
use mathlib.Core.List.{List, [], ◌∷◌}
use Prim.Native.Nat.{ℕ, ◌-◌, ◌<◌, ◌≤◌}
use borrow.Author.Tests.{lt-ltb, le-ltb}
use Rattle.model.specs.Images.{two_unions, fwd, bwd, image_short, push_op, push, pull_op, pull}
use Rattle.model.specs.Programs.{Prog, less, panic, ret, ask}
use Rattle.model.specs.Recursion.{node1, op1, op2, four}
use Rattle.model.specs.Store.{set, rel}
use Rattle.model.proofs.Recursion.{node1_zero, node1_open, node2_zero, node2_open}
use Rattle.memory.specs.Performing.{RunState, Condition, PerformsOn, OtherNodes, ReducesOn, ReadsChildren}
use Rattle.memory.specs.Memo.{memo_program}
use Rattle.memory.proofs.OtherNodes.{read_of_other}
use Rattle.memory.proofs.Steps.{begin, by, yes, no, looked, less_says, performs_by}
use Rattle.relation_images.specs.Ends.{in_order, range_op, range_number, range, image, image_node, image_number}

-- RANGE
pub range_is : (e : Bool) (l a : ℕ) → range e l a ≡ ask (less a 2) (ret a) (node1 (range_op e) l a)
unfolding fwd bwd op1
range_is true l a = refl
range_is false l a = refl

pub range_memo : (e : Bool) (l a : ℕ) {k : ℕ} → k ≡ range_number e → node1 (range_op e) l a ≡ memo_program k l a 0
unfolding memo_program
range_memo true l a q = rw q
range_memo false l a q = rw q

module _ {Q : Condition} {m w : List ℕ} (e : Bool) (l a : ℕ) where
  pub range_small : a < 2 → ReducesOn Q set (range e l a) (ret a) m w
  range_small h = yes (by begin (range_is e l a)) (less_says (lt-ltb a 2 h))

  pub range_left : 2 ≤ a → ReducesOn Q set (range e l a) (node1 (range_op e) l a) m w
  range_left h = no (by begin (range_is e l a)) (less_says (le-ltb a 2 h))

pub range_zero : (e : Bool) (l a : ℕ) → l ≡ 0 → node1 (range_op e) l a ≡ panic
range_zero e l a z = node1_zero (range_op e) l a z

-- the children of a are asked, the middle two in order
module _ {o m w : List ℕ} {j : ℕ} {n : Prog} where
  open_range : (e : Bool) (l a : ℕ) {a00 a01 a10 a11 : ℕ} → ReducesOn (OtherNodes set o j) set n (node1 (range_op e) l a) m w → (l ≡ 0 → ⊥)
      → ReadsChildren rel o a (a00 ∷ a01 ∷ a10 ∷ a11 ∷ [])
      → ReducesOn (OtherNodes set o j) set n (four (range e (l - 1) a00) (range e (l - 1) (in_order e a01 a10).0)
      (range e (l - 1) (in_order e a01 a10).1) (range e (l - 1) a11) (two_unions (l - 1))) m w
  unfolding fwd bwd
  open_range true l a u z X = read_of_other (by u (node1_open (range_op true) l a z)) X
  open_range false l a u z X = read_of_other (by u (node1_open (range_op false) l a z)) X

  pub range_opened : (e : Bool) (l a : ℕ) {a00 a01 a10 a11 : ℕ} {r : ℕ × ℕ} → ReducesOn (OtherNodes set o j) set n (node1 (range_op e) l a) m w
      → (l ≡ 0 → ⊥) → ReadsChildren rel o a (a00 ∷ a01 ∷ a10 ∷ a11 ∷ []) → r ≡ in_order e a01 a10
      → ReducesOn (OtherNodes set o j) set n (four (range e (l - 1) a00) (range e (l - 1) r.0) (range e (l - 1) r.1) (range e (l - 1) a11)
      (two_unions (l - 1))) m w
  range_opened e l a {a00 = a00} {a01} {a10} {a11} {r} u z X q =
      by (open_range e l a u z X) (ap (λ (r : ℕ × ℕ). four (range e (l - 1) a00) (range e (l - 1) r.0) (range e (l - 1) r.1) (range e (l - 1) a11)
      (two_unions (l - 1))) (sym q))

-- IMAGE
pub image_is : (e : Bool) (l p a : ℕ) → image e l p a ≡ image_short l p a (range e l a) (image_node e l p a)
unfolding push pull op2
image_is true l p a = refl
image_is false l p a = refl

pub image_memo : (e : Bool) (l p a : ℕ) {k : ℕ} {r : ℕ × ℕ} → k ≡ image_number e → r ≡ in_order e a p → image_node e l p a ≡ memo_program k l r.0 r.1
unfolding memo_program
image_memo true l p a q s = rw (q, s)
image_memo false l p a q s = rw (q, s)

pub image_zero : (e : Bool) (l p a : ℕ) → l ≡ 0 → image_node e l p a ≡ panic
image_zero true l p a z = node2_zero push_op l p a z
image_zero false l p a z = node2_zero pull_op l a p z

-- the children of p and a are asked, the middle two with the children of p in order, and their results are united in order
abbrev pub united : Bool → ℕ → ℕ → ℕ → ℕ → ℕ → Prog
united e l r00 r10 r01 r11 = two_unions l r00 (in_order e r01 r10).0 (in_order e r01 r10).1 r11

module _ {o m w : List ℕ} {j : ℕ} {n : Prog} where
  open_image : (e : Bool) (l p a : ℕ) {p0 p1 a00 a01 a10 a11 : ℕ} → ReducesOn (OtherNodes set o j) set n (image_node e l p a) m w → (l ≡ 0 → ⊥)
      → ReadsChildren set m p (p0 ∷ p1 ∷ []) → ReadsChildren rel o a (a00 ∷ a01 ∷ a10 ∷ a11 ∷ [])
      → ReducesOn (OtherNodes set o j) set n (four (image e (l - 1) p0 a00) (image e (l - 1) (in_order e p0 p1).0 a10)
      (image e (l - 1) (in_order e p0 p1).1 a01) (image e (l - 1) p1 a11) (united e (l - 1))) m w
  unfolding push pull
  open_image true l p a u z X Y = read_of_other (looked (by u (node2_open push_op l p a z)) X) Y
  open_image false l p a u z X Y = looked (read_of_other (by u (node2_open pull_op l a p z)) Y) X

  pub image_opened : (e : Bool) (l p a : ℕ) {p0 p1 a00 a01 a10 a11 : ℕ} {r : ℕ × ℕ} → ReducesOn (OtherNodes set o j) set n (image_node e l p a) m w
      → (l ≡ 0 → ⊥) → ReadsChildren set m p (p0 ∷ p1 ∷ []) → ReadsChildren rel o a (a00 ∷ a01 ∷ a10 ∷ a11 ∷ []) → r ≡ in_order e p0 p1
      → ReducesOn (OtherNodes set o j) set n (four (image e (l - 1) p0 a00) (image e (l - 1) r.0 a10) (image e (l - 1) r.1 a01)
      (image e (l - 1) p1 a11) (united e (l - 1))) m w
  image_opened e l p a {p0 = p0} {p1} {a00} {a01} {a10} {a11} {r} u z X Y q =
      by (open_image e l p a u z X Y) (ap (λ (r : ℕ × ℕ). four (image e (l - 1) p0 a00) (image e (l - 1) r.0 a10) (image e (l - 1) r.1 a01)
      (image e (l - 1) p1 a11) (united e (l - 1))) (sym q))

pub performs_united : {Q : Condition} {s t : RunState} {m m' w w' : List ℕ} (e : Bool) (l r00 r10 r01 r11 : ℕ) {q : ℕ × ℕ} → q ≡ in_order e r01 r10
    → PerformsOn Q set (two_unions l r00 q.0 q.1 r11) s m m' w w' t → PerformsOn Q set (united e l r00 r10 r01 r11) s m m' w w' t
performs_united e l r00 r10 r01 r11 q d = performs_by (ap (λ (q : ℕ × ℕ). two_unions l r00 q.0 q.1 r11) (sym q)) d
