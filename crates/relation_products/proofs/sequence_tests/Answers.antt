-- `sequence_tests` knows what the properties and the memo say of a product.
use Rattle.memory.proofs.Steps.{begin, by, yes, no, empty_says, identity_says, answer}
use Rattle.memory.proofs.Remembering.{answer_recalled}
use Rattle.relation_products.proofs.Opened.{sequence_is, sequence_memo}
use Rattle.relation_products.proofs.sequence_tests.Goals as goal

pub returns-then-pa : goal.returns-then-pa
returns-then-pa c = answer (yes (by begin (sequence_is _ _ _)) (empty_says c.relation_properties-pa.ensures c.if-pa.true))

pub returns-then-pb : goal.returns-then-pb
returns-then-pb c =
    answer (yes (no (by begin (sequence_is _ _ _)) (empty_says c.relation_properties-pa.ensures c.if-pa.false))
    (identity_says c.relation_properties-pb.ensures c.if-pb.true))

pub returns-then-pb-2 : goal.returns-then-pb-2
returns-then-pb-2 c =
    answer (yes (no (no (by begin (sequence_is _ _ _)) (empty_says c.relation_properties-pa.ensures c.if-pa.false))
    (identity_says c.relation_properties-pb.ensures c.if-pb.false))
    (empty_says c.relation_properties-pb.ensures c.if-pb-2.true))

pub returns-then-pa-2 : goal.returns-then-pa-2
returns-then-pa-2 c =
    answer (yes (no (no (no (by begin (sequence_is _ _ _)) (empty_says c.relation_properties-pa.ensures c.if-pa.false))
    (identity_says c.relation_properties-pb.ensures c.if-pb.false))
    (empty_says c.relation_properties-pb.ensures c.if-pb-2.false))
    (identity_says c.relation_properties-pa.ensures c.if-pa-2.true))

pub returns : goal.returns
returns c =
    answer_recalled _ _ _ _ (sequence_memo _ _ _)
    (no (no (no (no (by begin (sequence_is _ _ _)) (empty_says c.relation_properties-pa.ensures c.if-pa.false))
    (identity_says c.relation_properties-pb.ensures c.if-pb.false))
    (empty_says c.relation_properties-pb.ensures c.if-pb-2.false))
    (identity_says c.relation_properties-pa.ensures c.if-pa-2.false)) c.look_up.ensures
