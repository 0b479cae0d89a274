-- `shortcut` knows what the properties and the memo say of a symmetric difference.
use Rattle.memory.proofs.Steps.{begin, yes, no, empty_says, universal_says}
use Rattle.relations.specs.Binary.{xor_kept}
use Rattle.relations.proofs.ShortcutLaws.{shortcut_answer, shortcut_delegate, shortcut_lookup}
use Rattle.relations.proofs.binary.XorBinary.shortcut.Goals as goal

pub returns-then-pa : goal.returns-then-pa
returns-then-pa c = shortcut_answer (yes begin (empty_says c.relation_properties-pa.ensures c.if-pa.true))

pub returns-then-pb : goal.returns-then-pb
returns-then-pb c =
    shortcut_answer (yes (no begin (empty_says c.relation_properties-pa.ensures c.if-pa.false))
    (empty_says c.relation_properties-pb.ensures c.if-pb.true))

pub returns-then-pa-2 : goal.returns-then-pa-2
returns-then-pa-2 c =
    shortcut_delegate (yes (no (no begin (empty_says c.relation_properties-pa.ensures c.if-pa.false))
    (empty_says c.relation_properties-pb.ensures c.if-pb.false))
    (universal_says c.relation_properties-pa.ensures c.if-pa-2.true))

pub returns-then-pb-2 : goal.returns-then-pb-2
returns-then-pb-2 c =
    shortcut_delegate (yes (no (no (no begin (empty_says c.relation_properties-pa.ensures c.if-pa.false))
    (empty_says c.relation_properties-pb.ensures c.if-pb.false))
    (universal_says c.relation_properties-pa.ensures c.if-pa-2.false))
    (universal_says c.relation_properties-pb.ensures c.if-pb-2.true))

pub returns : goal.returns
returns c =
    shortcut_lookup (no (no (no (no begin (empty_says c.relation_properties-pa.ensures c.if-pa.false))
    (empty_says c.relation_properties-pb.ensures c.if-pb.false))
    (universal_says c.relation_properties-pa.ensures c.if-pa-2.false))
    (universal_says c.relation_properties-pb.ensures c.if-pb-2.false)) (c.ordered.ensures _ _ (xor_kept.program _))
    c.from.ensures
