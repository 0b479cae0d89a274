-- `first_line` from its two pieces.
use native.Mathlib.Omega.{arith}
use Rattle.listing.specs.Listing.{first_line}
use Rattle.listing.proofs.Adding.{adds_then}
use Rattle.listing.proofs.writing.first_line.Goals as goal

pub returns : goal.returns
unfolding first_line
returns c =
    let a = c.put_number-end.ensures in
    let b = c.put.ensures in record { adds = adds_then a.adds b; few = omega (arith, b.end, a.few) }
