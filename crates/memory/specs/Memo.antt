-- The operations that the memo keeps, by number: each is the part of its program that is left where no shortcut answers.
use Rattle.std.specs.Prelude.{ℕ, zero, suc, ◌-◌, ◌/◌, ◌%◌, eqb, leb}
use Rattle.model.specs.Store.{set, rel, pick}
use Rattle.model.specs.Programs.{Prog, panic, ret, ◌>>=◌}
use Rattle.model.specs.Recursion.{node1, node2}
use Rattle.model.specs.Operations.{constant, identity_at_depth, complement_op, union_op, intersect_op, xor_op, difference_op, test, assign}
use Rattle.model.specs.Relations.{sequence_op, star_op, flip_op}
use Rattle.model.specs.Sets.{intersects_op, ifelse}
use Rattle.model.specs.Images.{fwd_op, bwd_op, ifwd_op, diagonal_op, push_op, pull_op, has_image_op, has_path_node}
use Rattle.model.specs.FirstInputs.{first_input_node}

-- THE OPERATIONS' NUMBERS; src/memo.rt has them for the code. `ifelse` has a number for each field, `has_path` and `first_input` one for each output set, from
-- these on.
abbrev pub op_set_union : ℕ
op_set_union = 1

abbrev pub op_set_xor : ℕ
op_set_xor = 2

abbrev pub op_intersects : ℕ
op_intersects = 3

abbrev pub op_union : ℕ
op_union = 4

abbrev pub op_intersect : ℕ
op_intersect = 5

abbrev pub op_xor : ℕ
op_xor = 6

abbrev pub op_difference : ℕ
op_difference = 7

abbrev pub op_complement : ℕ
op_complement = 8

abbrev pub op_sequence : ℕ
op_sequence = 9

abbrev pub op_star : ℕ
op_star = 10

abbrev pub op_flip : ℕ
op_flip = 11

abbrev pub op_test : ℕ
op_test = 12

abbrev pub op_assign : ℕ
op_assign = 13

abbrev pub op_fwd : ℕ
op_fwd = 14

abbrev pub op_bwd : ℕ
op_bwd = 15

abbrev pub op_ifwd : ℕ
op_ifwd = 16

abbrev pub op_diagonal : ℕ
op_diagonal = 17

abbrev pub op_push : ℕ
op_push = 18

abbrev pub op_pull : ℕ
op_pull = 19

abbrev pub op_has_image : ℕ
op_has_image = 20

abbrev pub op_constant : ℕ
op_constant = 21

abbrev pub op_identity : ℕ
op_identity = 22

abbrev pub op_ifelse : ℕ
op_ifelse = 64

abbrev pub op_has_path : ℕ
op_has_path = 1024

abbrev pub op_first_input : ℕ
op_first_input = 16384

-- numbers are below this, so that an entry has room for one
abbrev pub op_limit : ℕ
op_limit = 32768

-- A RANK is too large for an entry, and is kept in three parts of fourteen bits, the lowest first. Part i of the rank that the relation a has is kept with
-- 3 * a + i in place of a.
abbrev pub rank_parts : ℕ
rank_parts = 3

abbrev pub rank_unit : ℕ
rank_unit = 16384

abbrev pub rank_part : ℕ → ℕ → ℕ
rank_part zero r = r % rank_unit
rank_part (suc zero) r = r / rank_unit % rank_unit
rank_part (suc (suc i)) r = r / rank_unit / rank_unit

abbrev pub first_input_part : ℕ → ℕ → ℕ → ℕ → ℕ → Prog
first_input_part i l p a q = first_input_node l p a q >>= λ r. ret (rank_part i r)

-- the first program whose number is op
abbrev entry : ℕ → ℕ → Prog → Prog → Prog
entry op n p rest = pick (eqb op n) p rest

-- operation op at level l on a and b
unfoldable pub memo_program : ℕ → ℕ → ℕ → ℕ → Prog
memo_program op l a b =
    pick (leb op_first_input op) (first_input_part (b % rank_parts) l a (b / rank_parts) (op - op_first_input))
    (pick (leb op_has_path op) (has_path_node l a b (op - op_has_path))
    (pick (leb op_ifelse op) (ifelse l (op - op_ifelse) a b)
    (entry op op_set_union (node2 (union_op set) l a b)
    (entry op op_set_xor (node2 (xor_op set) l a b)
    (entry op op_intersects (node2 intersects_op l a b)
    (entry op op_union (node2 (union_op rel) l a b)
    (entry op op_intersect (node2 intersect_op l a b)
    (entry op op_xor (node2 (xor_op rel) l a b)
    (entry op op_difference (node2 difference_op l a b)
    (entry op op_complement (node1 complement_op l a)
    (entry op op_sequence (node2 sequence_op l a b)
    (entry op op_star (node1 star_op l a)
    (entry op op_flip (node1 flip_op l a)
    (entry op op_test (test rel l a (eqb b 1))
    (entry op op_assign (assign l a (eqb b 1))
    (entry op op_fwd (node1 fwd_op l a)
    (entry op op_bwd (node1 bwd_op l a)
    (entry op op_ifwd (node1 ifwd_op l a)
    (entry op op_diagonal (node1 diagonal_op l a)
    (entry op op_push (node2 push_op l a b)
    (entry op op_pull (node2 pull_op l a b)
    (entry op op_has_image (node2 has_image_op l a b)
    (entry op op_constant (constant rel a l)
    (entry op op_identity (identity_at_depth l) panic))))))))))))))))))))))))
