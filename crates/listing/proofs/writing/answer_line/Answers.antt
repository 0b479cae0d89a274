-- `answer_line` from its three pieces.
use native.Mathlib.Omega.{arith}
use Rattle.listing.specs.Listing.{answer_line}
use Rattle.listing.proofs.Adding.{adds_then}
use Rattle.listing.proofs.writing.answer_line.Goals as goal

pub returns : goal.returns
unfolding answer_line
returns c =
    let a = c.put_number-from.ensures in
    let b = c.put_answer-end.ensures in
    let e = c.put.ensures in record
    { adds = adds_then (adds_then a.adds b.adds) e; few = omega (arith, e.end, b.few, a.few) }
