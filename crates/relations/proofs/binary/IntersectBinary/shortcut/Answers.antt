-- `shortcut` knows what the properties and the memo say of an intersection.
use Rattle.memory.proofs.Steps.{begin, yes, no, empty_says}
use Rattle.relations.specs.Binary.{intersect_kept}
use Rattle.relations.proofs.ShortcutLaws.{shortcut_answer, shortcut_lookup}
use Rattle.relations.proofs.binary.IntersectBinary.shortcut.Goals as goal

pub returns-then-pa : goal.returns-then-pa
returns-then-pa c = shortcut_answer (yes begin (empty_says c.relation_properties-pa.ensures c.if-pa.true))

pub returns : goal.returns
returns c =
    shortcut_lookup (no begin (empty_says c.relation_properties-pa.ensures c.if-pa.false))
    (c.lattice_tests.ensures _ _ (intersect_kept.program _) c.relation_properties-pa.ensures c.relation_properties-pb.ensures) c.from.ensures
