-- `write` from what its lines say.
use native.Mathlib.Omega.{arith}
use Rattle.listing.proofs.Listed.{whole}
use Rattle.listing.proofs.lines.write.Goals as goal

pub returns : goal.returns
returns c =
    let f = c.first_line-first.ensures in
    let p = c.policy_lines-end.ensures in
    let n = c.nodes_line.ensures in
    let y = c.requires in
    record {
      upper_bound = omega (arith, y.0, f.few, p.few, n.few);
      out_after = whole _ _ _ _ _ _ _ _ _ _ _ _ _ _ y.1 y.2 c.begin.ensures f p n;
    }
