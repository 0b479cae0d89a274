-- `either_output`, `first_input` and `rank_children` run their programs; the measure is the level, then which of the three.
use mathlib.Core.Path.{sym, ap}
use native.Mathlib.Omega.{arith}
use Rattle.model.specs.Programs.{ret}
use Rattle.memory.proofs.OtherNodes.{empty_of_other, universal_of_other}
use Rattle.memory.proofs.Steps.{yes, no, empty_says, performs_on, begin, by, called, given, impossible}
use Rattle.first_paths.proofs.Halves.{in_first, in_second}
use Rattle.first_paths.proofs.FirstInputs.{first_at_once, both_asked, input_zero, no_input, some_input, children_zero, children_opened}
use Rattle.first_paths.proofs.FirstInputs.{input_is, tests_left, node_left, rank_recalled}
use Rattle.first_paths.proofs.Ranks.{rank_kept}
use Rattle.first_paths.proofs.inputs.+either_output_first_input_rank_children.Goals as goal

pub either_output-returns-then-r0-eq0 : goal.either_output-returns-then-r0-eq0
either_output-returns-then-r0-eq0 t c j n = first_at_once (c.first_input-r0.ensures j n) c.if-r0-eq0.true

pub either_output-returns : goal.either_output-returns
either_output-returns t c j n = both_asked (c.first_input-r0.ensures j n) c.if-r0-eq0.false (c.first_input-r1.ensures j n) (omega arith)

pub first_input-returns-then-pp : goal.first_input-returns-then-pp
first_input-returns-then-pp t c j n =
    given (by (yes (by begin (input_is _ _ _ _)) (empty_says c.set_properties-pp.ensures c.if-pp.true)) (ap ret (sym c.none_at-none.ensures)))

pub first_input-returns-then-pq : goal.first_input-returns-then-pq
first_input-returns-then-pq t c j n =
    given (by (yes (no (by begin (input_is _ _ _ _)) (empty_says c.set_properties-pp.ensures c.if-pp.false))
    (empty_says c.set_properties-pq.ensures c.if-pq.true)) (ap ret (sym c.none_at-none.ensures)))

pub first_input-returns-then-pa : goal.first_input-returns-then-pa
first_input-returns-then-pa t c j n =
    given (by (yes (tests_left _ _ _ _ c.set_properties-pp.ensures c.if-pp.false c.set_properties-pq.ensures c.if-pq.false)
    (empty_of_other c.relation_properties-pa.ensures c.if-pa.true)) (ap ret (sym c.none_at-none.ensures)))

pub first_input-returns-then-pa-2 : goal.first_input-returns-then-pa-2
first_input-returns-then-pa-2 t c j n =
    called (yes (no (tests_left _ _ _ _ c.set_properties-pp.ensures c.if-pp.false c.set_properties-pq.ensures c.if-pq.false)
    (empty_of_other c.relation_properties-pa.ensures c.if-pa.false))
    (universal_of_other c.relation_properties-pa.ensures c.if-pa-2.true)) (performs_on (c.first_member.ensures n))

pub first_input-returns-in-Some : goal.first_input-returns-in-Some
first_input-returns-in-Some t c j n =
    given (rank_recalled (node_left _ _ _ _ c.set_properties-pp.ensures c.if-pp.false c.set_properties-pq.ensures c.if-pq.false
    c.relation_properties-pa.ensures c.if-pa.false c.if-pa-2.false) (λ S m. c.recall_rank.ensures S _ m c.in-Some.is))

pub first_input-returns-then-level-eq0 : goal.first_input-returns-then-level-eq0
first_input-returns-then-level-eq0 t c j n =
    impossible (by (node_left _ _ _ _ c.set_properties-pp.ensures c.if-pp.false c.set_properties-pq.ensures c.if-pq.false
    c.relation_properties-pa.ensures c.if-pa.false c.if-pa-2.false) (input_zero _ _ _ _ c.if-level-eq0.true))

pub first_input-returns-then-not-path : goal.first_input-returns-then-not-path
first_input-returns-then-not-path t c j n =
    called (node_left _ _ _ _ c.set_properties-pp.ensures c.if-pp.false c.set_properties-pq.ensures c.if-pq.false
    c.relation_properties-pa.ensures c.if-pa.false c.if-pa-2.false)
    (no_input _ _ _ _ c.if-level-eq0.false (c.has_path-path.ensures j n) c.if-not-path.true c.none_at-none.ensures)

pub first_input-returns : goal.first_input-returns
first_input-returns t c j n =
    called (node_left _ _ _ _ c.set_properties-pp.ensures c.if-pp.false c.set_properties-pq.ensures c.if-pq.false
    c.relation_properties-pa.ensures c.if-pa.false c.if-pa-2.false)
    (rank_kept _ _ _ _ (some_input _ _ _ _ c.if-level-eq0.false (c.has_path-path.ensures j n) c.if-not-path.false (c.rank_children-h.ensures j n))
    c.keep_rank.ensures)

pub rank_children-returns-then-level-eq0 : goal.rank_children-returns-then-level-eq0
rank_children-returns-then-level-eq0 t c j n = impossible (by begin (children_zero _ _ _ _ c.if-level-eq0.true))

pub rank_children-returns-then-r0-none_at : goal.rank_children-returns-then-r0-none_at
rank_children-returns-then-r0-none_at t c j n =
    called (children_opened _ _ _ _ c.if-level-eq0.false c.get-x.ensures c.get-z.ensures c.get-y.ensures)
    (in_first _ c.none_at.ensures (c.either_output-r0.ensures j n) c.if-r0-none_at.true)

pub rank_children-returns : goal.rank_children-returns
rank_children-returns t c j n =
    called (children_opened _ _ _ _ c.if-level-eq0.false c.get-x.ensures c.get-z.ensures c.get-y.ensures)
    (in_second _ c.none_at.ensures (c.either_output-r0.ensures j n) c.if-r0-none_at.false
    (c.either_output-r1.ensures j n) c.in_second_half.ensures)
