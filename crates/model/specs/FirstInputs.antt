-- Programs that find the first pair by ranks. They only read. A rank stands for a packet of l fields, FieldOrder's place; 2^l stands for none.
use Rattle.std.specs.Prelude.{List, ℕ, zero, suc, ◌+◌, ◌^◌, min}
use Rattle.model.specs.Store.{set, rel}
use Rattle.model.specs.Programs.{is_empty, is_universal, same, less, has, Prog, panic, ret, ask, look, ◌>>=◌}
use Rattle.model.specs.Recursion.{Op1, op1, x0, x1, x00, x01, x10, x11}
use Rattle.model.specs.Images.{has_path}

-- p gives the first rank among the packets that begin with 0, and q among those with 1, without that bit. A rank of q is at most 2^l: `min`
-- only keeps the sum small
abbrev pub from_halves : ℕ → Prog → Prog → Prog
from_halves l p q = p >>= λ m. ask (less m (2 ^ l)) (ret m) (q >>= λ n. ret (2 ^ l + min n (2 ^ l)))

-- the first packet of a set
abbrev pub first_member_op : Op1
first_member_op = record {
  kind = set;
  short = λ l p node. ask (has is_empty set l p) (ret (2 ^ l)) (ask (has is_universal set l p) (ret 0) node);
  kids = λ l f x. from_halves l (f (x0 x)) (f (x1 x));
}

unfoldable pub first_member : ℕ → ℕ → Prog
first_member l p = op1 first_member_op l p

-- the first packet of the set p that the relation a leads from to a packet of the set q
abbrev pub first_input_short : ℕ → ℕ → ℕ → ℕ → Prog → Prog
first_input_short l p a q node =
    ask (has is_empty set l p) (ret (2 ^ l))
    (ask (has is_empty set l q) (ret (2 ^ l))
    (ask (has is_empty rel l a) (ret (2 ^ l))
    (ask (has is_universal rel l a) (first_member l p) node)))

-- the lesser of two ranks; nothing is below 0
abbrev pub lesser : Prog → Prog → Prog
lesser p q = p >>= λ m. ask (same m 0) (ret m) (q >>= λ n. ret (min m n))

-- from p, by a to q0 or by b to q1
abbrev pub either_output : (ℕ → ℕ → ℕ → Prog) → ℕ → ℕ → ℕ → ℕ → ℕ → Prog
either_output f p a b q0 q1 = lesser (f p a q0) (f p b q1)

abbrev pub first_input_kids : ℕ → (ℕ → ℕ → ℕ → Prog) → List ℕ → List ℕ → List ℕ → Prog
first_input_kids l f x r y =
    from_halves l (either_output f (x0 x) (x00 r) (x01 r) (x0 y) (x1 y)) (either_output f (x1 x) (x10 r) (x11 r) (x0 y) (x1 y))

-- what `has_path` refutes is not ranked: one entry of the memo knows it
abbrev pub if_path : ℕ → ℕ → ℕ → ℕ → Prog → Prog
if_path l p a q there = has_path l p a q >>= λ h. ask (same h 1) there (ret (2 ^ l))

unfoldable pub first_input_node : ℕ → ℕ → ℕ → ℕ → Prog
first_input_node zero p a q = panic
first_input_node (suc l) p a q = if_path (suc l) p a q (look set p λ x. look set q λ y. look rel a λ r.
    first_input_kids l (λ p a q. first_input_short l p a q (first_input_node l p a q)) x r y)

unfoldable pub first_input : ℕ → ℕ → ℕ → ℕ → Prog
first_input l p a q = first_input_short l p a q (first_input_node l p a q)

-- what is left of the node where there is a path
unfoldable pub children_rank : ℕ → ℕ → ℕ → ℕ → Prog
children_rank zero p a q = panic
children_rank (suc l) p a q = look set p λ x. look set q λ y. look rel a λ r. first_input_kids l (first_input l) x r y

-- of the pairs from p, by a to q0 and by b to q1, the output's bit of the first one: 0, 1, or 2 where there is none. The outputs of one input are compared
-- where their inputs are equal, so 1 is the bit only where its first input is before the other's
unfoldable pub output_bit : ℕ → ℕ → ℕ → ℕ → ℕ → ℕ → Prog
output_bit l p a b q0 q1 =
    first_input l p a q0 >>= λ m. first_input l p b q1 >>= λ n. ask (less n m) (ret 1) (ask (less m (2 ^ l)) (ret 0) (ret 2))

-- the first digit of the first pair: 2 * input bit + output bit. There is a pair
abbrev pub first_digit_kids : ℕ → List ℕ → List ℕ → List ℕ → Prog
first_digit_kids l x r y = output_bit l (x0 x) (x00 r) (x01 r) (x0 y) (x1 y) >>= λ d.
    ask (less d 2) (ret d) (output_bit l (x1 x) (x10 r) (x11 r) (x0 y) (x1 y) >>= λ e. ret (2 + min e 1))

unfoldable pub first_digit : ℕ → ℕ → ℕ → ℕ → Prog
first_digit zero p a q = panic
first_digit (suc l) p a q = look set p λ x. look set q λ y. look rel a λ r. first_digit_kids l x r y
