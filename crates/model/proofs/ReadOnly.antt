-- A program that makes no node leaves the store as it was; the yes or no operations and those that find the first pair are such programs.
use mathlib.Core.Path.{◌≡◌, refl, ◌∙◌}
use mathlib.Core.List.{List}
use mathlib.Core.Bool.{Bool}
use Prim.Native.Nat.{ℕ, zero, suc}
use Rattle.model.specs.FirstInputs.{first_member_op, first_member, first_input_short, first_input_node, first_input, output_bit, first_digit}
use Rattle.model.specs.Images.{has_image_op, has_image, has_path_short, has_path_node, has_path}
use Rattle.model.specs.Operations.{is_zero}
use Rattle.model.specs.Programs.{holds, Prog, panic, ret, ask, look, mk, bind, run}
use Rattle.model.specs.Recursion.{Op1, node1, op1, Op2, node2, op2, x0, x1, x00, x01, x10, x11}
use Rattle.model.specs.Safety.{ReadOnly}
use Rattle.model.specs.Sets.{intersects_op, intersects}
use Rattle.model.specs.Store.{Kind, Store, pick, get}
use Rattle.model.proofs.Bools.{by_test}

pub run_same : (p : Prog) (S : Store) → ReadOnly p → (run p S).store ≡ S
unfolding run ReadOnly
run_same panic S r = refl
run_same (ret h) S r = refl
run_same (ask t p q) S r = by_test (λ (b : Bool). (pick b (run p S) (run q S)).store ≡ S) (holds t S) (λ e. run_same p S r.0) (λ e. run_same q S r.1)
run_same (look K h f) S r = run_same (f (get K S h)) S (r (get K S h))
run_same (mk K x) S r = absurd r
run_same (bind p f) S r = run_same (f (run p S).value) (run p S).store (r.1 (run p S).value) ∙ run_same p S r.0

-- an operation makes no node where its shortcuts and its node make none
pub op1_read_only : (O : Op1) → ((l a : ℕ) (node : Prog) → ReadOnly node → ReadOnly (O.short l a node))
    → ((l : ℕ) (f : ℕ → Prog) (x : List ℕ) → ((a : ℕ) → ReadOnly (f a)) → ReadOnly (O.kids l f x)) → (l a : ℕ) → ReadOnly (op1 O l a)
unfolding op1 node1 ReadOnly
op1_read_only O short kids l a = short l a (node1 O l a) (node l a)
  where
    node : (l a : ℕ) → ReadOnly (node1 O l a)
    node zero a = tt
    node (suc l) a = λ x. kids l _ x (λ a. short l a (node1 O l a) (node l a))

pub op2_read_only : (O : Op2) → ((l a b : ℕ) (node : ℕ → ℕ → Prog) → ((a b : ℕ) → ReadOnly (node a b)) → ReadOnly (O.short l a b node))
    → ((l : ℕ) (f : ℕ → ℕ → Prog) (x y : List ℕ) → ((a b : ℕ) → ReadOnly (f a b)) → ReadOnly (O.kids l f x y)) → (l a b : ℕ) → ReadOnly (op2 O l a b)
unfolding op2 node2 ReadOnly
op2_read_only O short kids l a b = short l a b (node2 O l) (node l)
  where
    node : (l a b : ℕ) → ReadOnly (node2 O l a b)
    node zero a b = tt
    node (suc l) a b = λ x y. kids l _ x y (λ a b. short l a b (node2 O l) (node l))

pub is_zero_read_only : (K : Kind) (l a : ℕ) → ReadOnly (is_zero K l a)
unfolding is_zero ReadOnly
is_zero_read_only K l a = (tt, tt)

pub intersects_read_only : (l a b : ℕ) → ReadOnly (intersects l a b)
unfolding intersects ReadOnly
intersects_read_only = op2_read_only intersects_op (λ l a b node n. (tt, (tt, (tt, (tt, (tt, (tt, (n b a, n a b))))))))
    (λ l f x y n. (n (x0 x) (x0 y), λ r. (tt, n (x1 x) (x1 y))))

pub has_image_read_only : (l p a : ℕ) → ReadOnly (has_image l p a)
unfolding has_image ReadOnly
has_image_read_only = op2_read_only has_image_op (λ l p a node n. (tt, (tt, (tt, (tt, (tt, n p a))))))
    (λ l f p r n. (n (x0 p) (x00 r), λ z. (tt, (n (x0 p) (x01 r), λ z. (tt, (n (x1 p) (x10 r), λ z. (tt, n (x1 p) (x11 r))))))))

pub has_path_read_only : (l p a q : ℕ) → ReadOnly (has_path l p a q)
unfolding has_path has_path_node ReadOnly
has_path_read_only l p a q = short l p a q
  where
    short : (l p a q : ℕ) → ReadOnly (has_path_short l p a q (has_path_node l p a q))
    short zero p a q = (tt, (tt, (tt, (tt, (intersects_read_only 0 p q, (has_image_read_only 0 p a, tt))))))
    short (suc l) p a q = (
      tt,
      (
        tt,
        (
          tt,
          (
            tt,
            (
              intersects_read_only (suc l) p q,
              (
                has_image_read_only (suc l) p a,
                λ x y r. (
                  short l (x0 x) (x00 r) (x0 y),
                  λ z. (
                    tt,
                    (short l (x0 x) (x01 r) (x1 y), λ z. (tt, (short l (x1 x) (x10 r) (x0 y), λ z. (tt, short l (x1 x) (x11 r) (x1 y))))),
                  ),
                ),
              ),
            ),
          ),
        ),
      ),
    )

pub first_member_read_only : (l p : ℕ) → ReadOnly (first_member l p)
unfolding first_member ReadOnly
first_member_read_only = op1_read_only first_member_op (λ l p node n. (tt, (tt, n))) (λ l f x n. (n (x0 x), λ m. (tt, (n (x1 x), λ n. tt))))

pub first_input_read_only : (l p a q : ℕ) → ReadOnly (first_input l p a q)
unfolding first_input first_input_node ReadOnly
first_input_read_only l p a q = short l p a q
  where
    short : (l p a q : ℕ) → ReadOnly (first_input_short l p a q (first_input_node l p a q))
    short zero p a q = (tt, (tt, (tt, (first_member_read_only 0 p, tt))))
    short (suc l) p a q = (
      tt,
      (
        tt,
        (
          tt,
          (
            first_member_read_only (suc l) p,
            (
              has_path_read_only (suc l) p a q,
              λ h. (
                λ x y r. (
                  (short l (x0 x) (x00 r) (x0 y), λ m. (tt, (short l (x0 x) (x01 r) (x1 y), λ n. tt))),
                  λ m. (tt, ((short l (x1 x) (x10 r) (x0 y), λ m. (tt, (short l (x1 x) (x11 r) (x1 y), λ n. tt))), λ n. tt)),
                ),
                tt,
              ),
            ),
          ),
        ),
      ),
    )

output_bit_read_only : (l p a b q0 q1 : ℕ) → ReadOnly (output_bit l p a b q0 q1)
unfolding output_bit ReadOnly
output_bit_read_only l p a b q0 q1 = (first_input_read_only l p a q0, λ m. (first_input_read_only l p b q1, λ n. (tt, (tt, tt))))

pub first_digit_read_only : (l p a q : ℕ) → ReadOnly (first_digit l p a q)
unfolding first_digit ReadOnly
first_digit_read_only zero p a q = tt
first_digit_read_only (suc l) p a q = λ x y r.
    (output_bit_read_only l _ _ _ _ _, λ d. (tt, (output_bit_read_only l _ _ _ _ _, λ e. tt)))
