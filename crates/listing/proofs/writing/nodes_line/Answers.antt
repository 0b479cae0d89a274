-- `nodes_line` from its three pieces.
use native.Mathlib.Omega.{arith}
use Rattle.listing.specs.Listing.{nodes_line}
use Rattle.listing.proofs.Adding.{adds_then}
use Rattle.listing.proofs.writing.nodes_line.Goals as goal

pub returns : goal.returns
unfolding nodes_line
returns c =
    let a = c.put_number-from.ensures in
    let b = c.put_number-end.ensures in
    let e = c.put.ensures in record
    { adds = adds_then (adds_then a.adds b.adds) e; few = omega (arith, e.end, b.few, a.few) }
