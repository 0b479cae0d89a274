-- `has_image` and `has_path`: what is left after the shortcuts, and of the node when its children are read.
use mathlib.Core.Path.{◌≡◌, refl, sym, ap, subst}
use mathlib.Core.Logic.{◌⊎◌, inl, inr}
use mathlib.Core.List.{List, [], ◌∷◌}
use mathlib.Core.Bool.{Bool, true, false}
use Rattle.std.specs.Prelude.{Option, Some, None}
use Prim.Native.Nat.{ℕ, zero, suc, ◌+◌, ◌-◌, ◌<◌}
use native.Mathlib.Omega.{arith}
use lib.Dec.{ltb}
use borrow.Author.Tests.{lt-ltb, le-ltb}
use Rattle.std.specs.Int.{from_bool}
use Rattle.model.specs.Images.{has_image_op, has_image, has_path_short, has_path_kids, has_path_node, has_path}
use Rattle.model.specs.Programs.{Prog, panic, ret, look}
use Rattle.model.specs.Recursion.{node2, op2, or_else}
use Rattle.model.specs.Sets.{intersects}
use Rattle.model.specs.Store.{set, rel}
use Rattle.model.proofs.Recursion.{node2_open}
use Rattle.memory.specs.Performing.{going, told, KeepsEntry, Condition, PerformsOn, OtherNodes, ReducesOn, ReadsChildren}
use Rattle.memory.specs.Memo.{memo_program, op_has_image, op_has_path, op_first_input}
use Rattle.memory.proofs.OtherNodes.{read_of_other}
use Rattle.memory.proofs.YesNo.{told_kept}
use Rattle.memory.proofs.Steps.{begin, by, further, looked, called}
use Rattle.relation_paths.specs.declared.PathShortcut.{PathShortcut}
use Rattle.relation_paths.specs.declared.PathShortcut.TheVariants.{Answer, Meet, Leave, Node}
use Rattle.relation_paths.specs.Paths.{image_rest, ImageTold, path_rest, PathReduces}

-- HAS_IMAGE
module _ (l p a : ℕ) where
  pub image_is : has_image l p a ≡ has_image_op.short l p a (node2 has_image_op l)
  unfolding has_image op2
  image_is = refl

  pub image_memo : node2 has_image_op l p a ≡ memo_program op_has_image l p a
  unfolding memo_program
  image_memo = refl

  pub image_opened : {o m w : List ℕ} {j p0 p1 a00 a01 a10 a11 : ℕ} → (l ≡ 0 → ⊥) → ReadsChildren set m p (p0 ∷ p1 ∷ [])
      → ReadsChildren rel o a (a00 ∷ a01 ∷ a10 ∷ a11 ∷ [])
      → ReducesOn (OtherNodes set o j) set (node2 has_image_op l p a) (or_else (has_image (l - 1) p0 a00) (or_else (has_image (l - 1) p0 a01)
      (or_else (has_image (l - 1) p1 a10) (has_image (l - 1) p1 a11)))) m w
  unfolding has_image
  image_opened h X Y = read_of_other (looked (by begin (node2_open has_image_op l p a h)) X) Y

-- what the shortcuts say, and what it leaves
pub image_known : {Q : Condition} {l p a : ℕ} {node : Prog} {m w : List ℕ} {b : Bool}
    → ReducesOn Q set (has_image_op.short l p a (node2 has_image_op l)) (ret (from_bool b)) m w → ImageTold Q (has_image l p a) node m w (Some b)
image_known {l = l} {p} {a} u = record { reduces = further (by begin (image_is l p a)) u }

pub image_unknown : {Q : Condition} {t node : Prog} {m w : List ℕ} {r : Option Bool} → r ≡ None → ReducesOn Q set t node m w → ImageTold Q t node m w r
image_unknown {node = node} e u = record { reduces = by u (ap (image_rest node) (sym e)) }

module _ {Q : Condition} {t node : Prog} {m w : List ℕ} {r : Option Bool} (u : ImageTold Q t node m w r) where
  pub image_told : {b : Bool} → r ≡ Some b → ReducesOn Q set t (ret (from_bool b)) m w
  image_told e = by u.reduces (ap (image_rest node) e)

  pub image_left : r ≡ None → ReducesOn Q set t node m w
  image_left e = by u.reduces (ap (image_rest node) e)

-- HAS_PATH
pub path_is : (l p a q : ℕ) → has_path l p a q ≡ has_path_short l p a q (has_path_node l p a q)
unfolding has_path
path_is l p a q = refl

pub path_memo : (l p a q : ℕ) → op_has_path + q < op_first_input → has_path_node l p a q ≡ memo_program (op_has_path + q) l p a
unfolding memo_program
path_memo l p a q h =
    let c : ltb 16383 (1024 + q) ≡ false = le-ltb 16383 (1024 + q) (omega arith) in
    let b : ltb 1023 (1024 + q) ≡ true = lt-ltb 1023 (1024 + q) (omega arith) in
    let d : 1024 + q - 1024 ≡ q = omega arith in
    rw (c, b, d)

pub path_zero : (l p a q : ℕ) → l ≡ 0 → has_path_node l p a q ≡ panic
unfolding has_path_node
path_zero zero p a q e = refl
path_zero (suc l) p a q e = absurd (let z : ⊥ = omega arith in z)

path_open : (l p a q : ℕ) → (l ≡ 0 → ⊥)
    → has_path_node l p a q ≡ look set p (λ x. look set q (λ y. look rel a (λ r. has_path_kids (has_path (l - 1)) x r y)))
unfolding has_path_node has_path
path_open zero p a q h = absurd (h refl)
path_open (suc l) p a q h = let e : l ≡ suc l - 1 = omega arith in
    ap (λ n. look set p (λ x. look set q (λ y. look rel a (λ r. has_path_kids (λ p a q. has_path_short n p a q (has_path_node n p a q)) x r y)))) e

pub path_opened : (l p a q : ℕ) {o m w : List ℕ} {j p0 p1 q0 q1 a00 a01 a10 a11 : ℕ} → (l ≡ 0 → ⊥) → ReadsChildren set m p (p0 ∷ p1 ∷ [])
    → ReadsChildren set m q (q0 ∷ q1 ∷ []) → ReadsChildren rel o a (a00 ∷ a01 ∷ a10 ∷ a11 ∷ [])
    → ReducesOn (OtherNodes set o j) set (has_path_node l p a q) (or_else (has_path (l - 1) p0 a00 q0) (or_else (has_path (l - 1) p0 a01 q1)
    (or_else (has_path (l - 1) p1 a10 q0) (has_path (l - 1) p1 a11 q1)))) m w
path_opened l p a q h X Z Y = read_of_other (looked (looked (by begin (path_open l p a q h)) X) Z) Y

pub path_known : {Q : Condition} {l p a q : ℕ} {m w : List ℕ} {r : PathShortcut}
    → ReducesOn Q set (has_path_short l p a q (has_path_node l p a q)) (path_rest l p a q r) m w → PathReduces Q (has_path l p a q) l p a q m w r
path_known {l = l} {p} {a} {q} u = record { reduces = further (by begin (path_is l p a q)) u }

-- each thing that the shortcuts may leave
module _ {Q : Condition} {t : Prog} {l p a q : ℕ} {m w : List ℕ} {r : PathShortcut} (u : PathReduces Q t l p a q m w r) where
  rest_left : {i : PathShortcut} → r ≡ i → ReducesOn Q set t (path_rest l p a q i) m w
  rest_left e = by u.reduces (ap (path_rest l p a q) e)

  pub answer_left : {b : Bool} → r ≡ Answer b → ReducesOn Q set t (ret (from_bool b)) m w
  answer_left e = rest_left e

  pub meet_left : r ≡ Meet → ReducesOn Q set t (intersects l p q) m w
  meet_left e = rest_left e

  pub leave_left : r ≡ Leave → ReducesOn Q set t (has_image l p a) m w
  leave_left e = rest_left e

  pub node_left : r ≡ Node → ReducesOn Q set t (has_path_node l p a q) m w
  node_left e = rest_left e

-- the answer is kept where the memo has a number for it
pub path_kept : {Q : Condition} {t : Prog} {n : ℕ} (b : Bool) {m w w₁ w₂ : List ℕ} (l p a q : ℕ) → ReducesOn Q set t (has_path_node l p a q) m w
    → PerformsOn Q set (has_path_node l p a q) (going n) m m w w₁ (told n b)
    → (w₂ ≡ w₁) ⊎ ((op_has_path + q < op_first_input) × KeepsEntry w₁ w₂ (op_has_path + q) l p a (from_bool b))
    → PerformsOn Q set t (going n) m m w w₂ (told n b)
path_kept {Q} {t} {n} b {m} {w} l p a q u d (inl e) = subst (λ v. PerformsOn Q set t (going n) m m w v (told n b)) (sym e) (called u d)
path_kept b l p a q u d (inr f) = told_kept b _ l p a (path_memo l p a q f.0) u d refl f.1
