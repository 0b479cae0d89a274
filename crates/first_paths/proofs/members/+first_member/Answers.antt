-- `first_member` runs its program; the measure is the level.
use mathlib.Core.Path.{sym, ap}
use Rattle.model.specs.FirstInputs.{first_member_op}
use Rattle.model.specs.Programs.{ret}
use Rattle.model.proofs.Recursion.{node1_zero}
use Rattle.memory.proofs.Steps.{begin, by, yes, no, further, empty_says, universal_says, called, given, impossible}
use Rattle.first_paths.proofs.Halves.{in_first, in_second, member_is, member_opened}
use Rattle.first_paths.proofs.members.+first_member.Goals as goal
use Rattle.first_paths.proofs.members.+first_member.Goals.{then-pp-2-via-then-pp-2, then-pp-2-via-else-pp-2+then-level-eq0}

pub returns-then-pp : goal.returns-then-pp
returns-then-pp t c n =
    given (by (yes (by begin (member_is _ _)) (empty_says c.set_properties-pp.ensures c.if-pp.true)) (ap ret (sym c.none_at.ensures)))

pub returns-then-pp-2 : goal.returns-then-pp-2
returns-then-pp-2 t c n =
    elim c.then-pp-2.branch [
      | then-pp-2-via-then-pp-2 w ↦
          given (yes (no (by begin (member_is _ _)) (empty_says c.set_properties-pp.ensures c.if-pp.false))
          (universal_says c.set_properties-pp.ensures w.if-pp-2.true))
      | then-pp-2-via-else-pp-2+then-level-eq0 w ↦
          impossible (by (no (no (by begin (member_is _ _)) (empty_says c.set_properties-pp.ensures c.if-pp.false))
          (universal_says c.set_properties-pp.ensures w.if-pp-2.false)) (node1_zero first_member_op _ _ w.if-level-eq0.true))
    ]

pub returns-then-r0-none_at : goal.returns-then-r0-none_at
returns-then-r0-none_at t c n =
    called (further (no (no (by begin (member_is _ _))
    (empty_says c.set_properties-pp.ensures c.if-pp.false))
    (universal_says c.set_properties-pp.ensures c.if-pp-2.false)) (member_opened _ _ c.if-level-eq0.false c.get-x.ensures))
    (in_first _ c.none_at-2.ensures (c.first_member-r0.ensures n) c.if-r0-none_at.true)

pub returns : goal.returns
returns t c n =
    called (further (no (no (by begin (member_is _ _))
    (empty_says c.set_properties-pp.ensures c.if-pp.false))
    (universal_says c.set_properties-pp.ensures c.if-pp-2.false)) (member_opened _ _ c.if-level-eq0.false c.get-x.ensures))
    (in_second _ c.none_at-2.ensures (c.first_member-r0.ensures n) c.if-r0-none_at.false (c.first_member-r1.ensures n)
    c.in_second_half.ensures)
