-- A buffer that a reader fills from the front.
use Rattle.std.proofs.Common.{◌≡◌, ℕ, ◌+◌, ◌≤◌, List, ◌++◌, length, take, sym, ap, ◌∙◌, append_assoc, length-append}
use Rattle.std.specs.Prelude.{Option, None, Some}
use Rattle.std.specs.Io.KnownBytes.{Consumes}
use borrow.Rule.Slice.PartMut.{put_mid, post_of}
use lib.Seq.{take_at, length-take-le}

-- what a reader gives to one buffer and then to another, it gives to both
pub gives_both : (a b c : Option (List ℕ)) (xs ys : List ℕ) → Consumes a b xs → Consumes b c ys → Consumes a c (xs ++ ys)
gives_both None b c xs ys p q = tt
gives_both (Some x) None c xs ys p q = absurd p
gives_both (Some x) (Some y) None xs ys p q = absurd q
gives_both (Some x) (Some y) (Some z) xs ys p q = p ∙ (ap (λ (l : List ℕ). xs ++ l) q ∙ sym (append_assoc xs ys z))

-- bytes put at the front of a part of o
pub put_there : (at k n : ℕ) (s o q z : List ℕ) → at ≤ length o → n ≡ length s → z ≡ s ++ q → take (at + n) (put_mid at k o z) ≡ take at o ++ s
put_there at k n s o q z within e f =
    let long : length (take at o ++ s) ≡ at + n
    = length-append (take at o) s ∙ (ap (λ (j : ℕ). j + length s) (length-take-le at o within) ∙ ap (λ (j : ℕ). at + j) (sym e)) in
    let post = post_of at k o in
    let split : take at o ++ (z ++ post) ≡ (take at o ++ s) ++ (q ++ post)
    = ap (λ (y : List ℕ). take at o ++ (y ++ post)) f
    ∙ (ap (λ (y : List ℕ). take at o ++ y) (append_assoc s q post) ∙ sym (append_assoc (take at o) s (q ++ post))) in
    ap (λ (y : List ℕ). take (at + n) y) split ∙ take_at (take at o ++ s) (q ++ post) (at + n) long
