-- `shortcut` knows what the properties and the memo say of a difference.
use Rattle.memory.proofs.Steps.{begin, yes, no, empty_says, universal_says}
use Rattle.memory.proofs.Remembering.{answer_recalled}
use Rattle.relations.specs.Binary.{difference_kept}
use Rattle.relations.proofs.ShortcutLaws.{shortcut_answer, shortcut_delegate, shortcut_lookup}
use Rattle.relations.proofs.binary.DifferenceBinary.shortcut.Goals as goal

pub returns-then-pa : goal.returns-then-pa
returns-then-pa c = shortcut_answer (yes begin (empty_says c.relation_properties-pa.ensures c.if-pa.true))

pub returns-then-pb : goal.returns-then-pb
returns-then-pb c =
    shortcut_answer (yes (no begin (empty_says c.relation_properties-pa.ensures c.if-pa.false))
    (empty_says c.relation_properties-pb.ensures c.if-pb.true))

pub returns-then-pa-2 : goal.returns-then-pa-2
returns-then-pa-2 c =
    shortcut_delegate (yes (no (no begin (empty_says c.relation_properties-pa.ensures c.if-pa.false))
    (empty_says c.relation_properties-pb.ensures c.if-pb.false))
    (universal_says c.relation_properties-pa.ensures c.if-pa-2.true))

pub returns : goal.returns
returns c =
    shortcut_lookup (no (no (no begin (empty_says c.relation_properties-pa.ensures c.if-pa.false))
    (empty_says c.relation_properties-pb.ensures c.if-pb.false))
    (universal_says c.relation_properties-pa.ensures c.if-pa-2.false))
    (answer_recalled _ _ _ _ (difference_kept.program _ _ _) begin c.look_up.ensures) c.from.ensures
