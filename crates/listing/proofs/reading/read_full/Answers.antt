-- A read puts at the end of what is there what the reader gives next, so that both together are what it has given (`Filling`).
use Rattle.std.proofs.Common.{rules, take, drop, sym, subst, take-append-drop}
use Rattle.std.specs.Io.KnownBytes.{Consumes}
use Rattle.listing.proofs.Filling.{gives_both, put_there}
use Rattle.listing.proofs.reading.read_full.Goals as goal

pub loop-done-preserved : goal.loop-done-preserved
loop-done-preserved g c =
    let z = c.read.new.buf in
    let n = c.in_ok-n.n in
    let read = c.in_ok-n.ensures in record {
      long = search rules;
      within = search rules;
      bytes = subst (Consumes _ _)
          (sym (put_there c.loop-done.done _ n (take n z) c.loop-done.buffer (drop n z) z c.loop-done.invariant.within read.bound.1
          (sym (take-append-drop n z))))
          (gives_both _ _ _ _ _ c.loop-done.invariant.bytes read.bytes.0);
    }
