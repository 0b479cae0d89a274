-- `zeros` says whether a part is all zero: the bits of the numbers passed are 0 exactly where each is.
use mathlib.Core.Path.{subst}
use native.Mathlib.Omega.{arith}
use Rattle.std.proofs.Common.{rules}
use Rattle.std.proofs.lemmas.Fn.{fold_over, slice_gives, fronts}
use Rattle.store_check.proofs.Rooms.{BitsOf, bits_none, bits_more, zeros_by_bits}
use Rattle.store_check.proofs.room.zeros.Goals as goal

pub returns : goal.returns
returns c =
    let a = c.args in
    zeros_by_bits a.m.now a.s a.e c.fold.result (omega arith) (omega arith) (subst (λ l. BitsOf l c.fold.result) c.iter.ensures.rest
    (fold_over fronts (λ y. y.now) _ BitsOf _ (λ ys b x b' f' j k. bits_more ys b x.now b' f' _ j (search rules)) _ _ _ _ (slice_gives c.iter.result) bits_none
    c.fold.ensures.ran))
