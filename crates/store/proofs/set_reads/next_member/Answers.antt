-- `next_member` gives the first member from the rank after the last packet, or none.
use native.Mathlib.Omega.{arith}
use Rattle.store.proofs.NextMember.{found, not_found}
use Rattle.store.proofs.set_reads.next_member.Goals as goal

pub returns-then-r-power : goal.returns-then-r-power
returns-then-r-power c =
    found _ c.args.c c.if-c-ne0.false _ c.first_from-r.ensures.first c.from.ensures
    (omega (arith, c.power.ensures, c.if-r-power.true)) c.reversed-x.ensures

pub returns : goal.returns
returns c =
    not_found _ c.args.c c.if-c-ne0.false _ c.first_from-r.ensures.first c.from.ensures
    (omega (arith, c.power.ensures, c.if-r-power.false))
