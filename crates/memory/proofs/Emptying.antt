-- Taking all nodes out of the index: its heads become zero, from the laws of a part put back.
use mathlib.Core.Path.{◌≡◌, sym, ap, ◌∙◌, subst}
use mathlib.Core.List.{List, ◌++◌}
use Prim.Native.Nat.{ℕ, ◌+◌, ◌-◌, ◌<◌, ◌≤◌}
use native.Mathlib.Omega.{arith}
use lib.ListN.{length, get_or, take, drop, replicate, get_or-append, length-replicate, get_or-replicate}
use lib.Seq.{drop-drop, get_or-append-add, length-take-le}
use borrow.Rule.Slice.PartMut.{mid_of, post_of, put_mid, same_len_mid, take_put, drop_put, mid_len}
use Rattle.memory.specs.Finding.{Emptied}
use Rattle.memory.specs.Working.{memo_size, last_in, index_size, part_size}

-- z is put for the heads, from p on
module _ (w z : List ℕ) (p : ℕ) (e : p ≡ memo_size (length w)) (h : index_size ≤ length w - p)
    (q : z ≡ replicate (length (mid_of p (p + part_size - p) w)) 0) where
  size : length (mid_of p (p + part_size - p) w) ≡ p + part_size - p
  size = mid_len p (p + part_size) w (omega arith)

  heads_long : length z ≡ p + part_size - p
  heads_long = ap length q ∙ length-replicate (length (mid_of p (p + part_size - p) w)) 0 ∙ size

  after : List ℕ
  after = put_mid p (p + part_size - p) w z

  length_after : length after ≡ length w
  unfolding after
  length_after = same_len_mid p (p + part_size - p) w z (heads_long ∙ sym size)

  head_zero : (b : ℕ) → b < part_size → get_or after (p + b) 0 ≡ 0
  unfolding after
  head_zero b l =
      let rest = post_of p (p + part_size - p) w in
      let at : length (take p w) ≡ p = length-take-le p w (omega arith) in
      ap (λ k. get_or (take p w ++ (z ++ rest)) (k + b) 0) (sym at) ∙ get_or-append-add (take p w) (z ++ rest) b 0
      ∙ get_or-append z rest 0 b (omega (arith, heads_long)) ∙ ap (λ (z : List ℕ). get_or z b 0) q
      ∙ get_or-replicate (length (mid_of p (p + part_size - p) w)) b 0 0 (omega (arith, size))

  further : (m : List ℕ) → drop (p + index_size) m ≡ drop part_size (drop (p + part_size) m)
  further m = let s : p + index_size ≡ p + part_size + part_size = omega arith in ap (λ k. drop k m) s ∙ sym (drop-drop part_size (p + part_size) m)

  kept_behind : drop (p + part_size) after ≡ drop (p + part_size) w
  unfolding after
  kept_behind = drop_put p (p + part_size) w z (omega arith) (omega arith) heads_long

  pub index_empty : Emptied w (put_mid p (p + part_size - p) w z)
  unfolding after last_in
  index_empty = record {
    index = λ node f. record {
      heads = λ b l. ap (λ k. get_or after (k + b) 0) (ap memo_size length_after ∙ sym e) ∙ head_zero b l;
      links = λ i l. absurd (let z : ⊥ = omega arith in z);
    };
    apart = record {
      memo = subst (λ k. take k after ≡ take k w) e (take_put p (p + part_size - p) w z (omega arith));
      words = subst (λ k. drop (k + index_size) after ≡ drop (k + index_size) w) e (further after ∙ ap (drop part_size) kept_behind ∙ sym (further w));
      work_length = length_after;
    };
  }
