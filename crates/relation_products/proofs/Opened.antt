-- The programs of products opened one step, and their numbers in the memo.
use mathlib.Core.Path.{◌≡◌, refl}
use Prim.Native.Nat.{ℕ}
use Rattle.model.specs.Recursion.{node1, op1, node2, op2}
use Rattle.model.specs.Relations.{sequence_op, sequence, star_op, star}
use Rattle.memory.specs.Memo.{memo_program, op_sequence, op_star}

module _ (l a b : ℕ) where
  pub sequence_is : sequence l a b ≡ sequence_op.short l a b (node2 sequence_op l)
  unfolding sequence op2
  sequence_is = refl

  pub sequence_memo : node2 sequence_op l a b ≡ memo_program op_sequence l a b
  unfolding memo_program
  sequence_memo = refl

  -- the memo's second operand says nothing of an operation on one
  pub star_memo : node1 star_op l a ≡ memo_program op_star l a b
  unfolding memo_program
  star_memo = refl

pub star_is : (l a : ℕ) → star l a ≡ star_op.short l a (node1 star_op l a)
unfolding star op1
star_is l a = refl
