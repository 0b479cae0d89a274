-- `put_number`: the bytes, and the digits that `io::decimal` wrote.
use native.Mathlib.Omega.{arith}
use Rattle.listing.proofs.Adding.{number_adds}
use Rattle.listing.proofs.writing.put_number.Goals as goal

pub returns : goal.returns
returns c =
    let d = c.decimal-k.ensures in number_adds c.args.n c.decimal-k.result (omega arith) c.put-from.ensures d.len
    d.in_bounds.1 d.digits c.put.ensures
