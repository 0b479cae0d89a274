-- `intersects_tests` knows what the properties and the memo say of whether two sets share a packet.
use mathlib.Core.Path.{sym, ◌∙◌}
use borrow.Author.Tests.{eq-eqb, ne_eqb, lt-ltb, le-ltb}
use Rattle.memory.proofs.Steps.{begin, yes, no, empty_says, universal_says, same_says, less_says, answer}
use Rattle.memory.proofs.Remembering.{answer_recalled}
use Rattle.sets.proofs.Opened.{intersects_memo}
use Rattle.sets.proofs.intersects_tests.Goals as goal

pub returns-then-a-other : goal.returns-then-a-other
returns-then-a-other c = answer (yes begin (same_says (eq-eqb _ _ (c.if-a-other.true ∙ c.other.ensures))))

pub returns-then-pa : goal.returns-then-pa
returns-then-pa c =
    answer (yes (no begin (same_says (ne_eqb _ _ (λ e. c.if-a-other.false (e ∙ sym c.other.ensures)))))
    (empty_says c.set_properties-pa.ensures c.if-pa.true))

pub returns-then-pb : goal.returns-then-pb
returns-then-pb c =
    answer (yes (no (no begin (same_says (ne_eqb _ _ (λ e. c.if-a-other.false (e ∙ sym c.other.ensures)))))
    (empty_says c.set_properties-pa.ensures c.if-pa.false))
    (empty_says c.set_properties-pb.ensures c.if-pb.true))

pub returns-then-a-b : goal.returns-then-a-b
returns-then-a-b c =
    answer (yes (no (no (no begin (same_says (ne_eqb _ _ (λ e. c.if-a-other.false (e ∙ sym c.other.ensures)))))
    (empty_says c.set_properties-pa.ensures c.if-pa.false))
    (empty_says c.set_properties-pb.ensures c.if-pb.false))
    (same_says (eq-eqb _ _ c.if-a-b.true)))

pub returns-then-pa-2 : goal.returns-then-pa-2
returns-then-pa-2 c =
    answer (yes (no (no (no (no begin (same_says (ne_eqb _ _ (λ e. c.if-a-other.false (e ∙ sym c.other.ensures)))))
    (empty_says c.set_properties-pa.ensures c.if-pa.false))
    (empty_says c.set_properties-pb.ensures c.if-pb.false))
    (same_says (ne_eqb _ _ c.if-a-b.false))) (universal_says c.set_properties-pa.ensures c.if-pa-2.true))

pub returns-then-pb-2 : goal.returns-then-pb-2
returns-then-pb-2 c =
    answer (yes (no (no (no (no (no begin (same_says (ne_eqb _ _ (λ e. c.if-a-other.false (e ∙ sym c.other.ensures)))))
    (empty_says c.set_properties-pa.ensures c.if-pa.false))
    (empty_says c.set_properties-pb.ensures c.if-pb.false))
    (same_says (ne_eqb _ _ c.if-a-b.false))) (universal_says c.set_properties-pa.ensures c.if-pa-2.false))
    (universal_says c.set_properties-pb.ensures c.if-pb-2.true))

pub returns-then-b-a : goal.returns-then-b-a
returns-then-b-a c =
    answer_recalled _ _ _ _ (intersects_memo _ _ _)
    (yes (no (no (no (no (no (no begin (same_says (ne_eqb _ _ (λ e. c.if-a-other.false (e ∙ sym c.other.ensures)))))
    (empty_says c.set_properties-pa.ensures c.if-pa.false))
    (empty_says c.set_properties-pb.ensures c.if-pb.false))
    (same_says (ne_eqb _ _ c.if-a-b.false))) (universal_says c.set_properties-pa.ensures c.if-pa-2.false))
    (universal_says c.set_properties-pb.ensures c.if-pb-2.false)) (less_says (lt-ltb _ _ c.if-b-a.true)))
    c.look_up.ensures

pub returns : goal.returns
returns c =
    answer_recalled _ _ _ _ (intersects_memo _ _ _)
    (no (no (no (no (no (no (no begin (same_says (ne_eqb _ _ (λ e. c.if-a-other.false (e ∙ sym c.other.ensures)))))
    (empty_says c.set_properties-pa.ensures c.if-pa.false))
    (empty_says c.set_properties-pb.ensures c.if-pb.false))
    (same_says (ne_eqb _ _ c.if-a-b.false))) (universal_says c.set_properties-pa.ensures c.if-pa-2.false))
    (universal_says c.set_properties-pb.ensures c.if-pb-2.false)) (less_says (le-ltb _ _ c.if-b-a.false)))
    c.look_up-2.ensures
