-- `shortcut` knows what the properties and the memo say of a symmetric difference.
use borrow.Author.Tests.{lt-ltb, le-ltb}
use Rattle.memory.proofs.Steps.{begin, by, yes, no, empty_says, universal_says, less_says, answer}
use Rattle.memory.proofs.Remembering.{answer_recalled}
use Rattle.sets.specs.Binary.{xor_kept}
use Rattle.sets.proofs.Opened.{complement_is}
use Rattle.sets.proofs.binary.XorBinary.shortcut.Goals as goal

pub returns-then-pa : goal.returns-then-pa
returns-then-pa c = answer (yes begin (empty_says c.set_properties-pa.ensures c.if-pa.true))

pub returns-then-pb : goal.returns-then-pb
returns-then-pb c =
    answer (yes (no begin (empty_says c.set_properties-pa.ensures c.if-pa.false))
    (empty_says c.set_properties-pb.ensures c.if-pb.true))

pub returns-then-pa-2 : goal.returns-then-pa-2
returns-then-pa-2 c =
    answer (by (yes (no (no begin (empty_says c.set_properties-pa.ensures c.if-pa.false))
    (empty_says c.set_properties-pb.ensures c.if-pb.false))
    (universal_says c.set_properties-pa.ensures c.if-pa-2.true)) (complement_is _ _ c.other.ensures))

pub returns-then-pb-2 : goal.returns-then-pb-2
returns-then-pb-2 c =
    answer (by (yes (no (no (no begin (empty_says c.set_properties-pa.ensures c.if-pa.false))
    (empty_says c.set_properties-pb.ensures c.if-pb.false))
    (universal_says c.set_properties-pa.ensures c.if-pa-2.false))
    (universal_says c.set_properties-pb.ensures c.if-pb-2.true)) (complement_is _ _ c.other-then-pb-2.ensures))

pub returns-then-b-a : goal.returns-then-b-a
returns-then-b-a c =
    answer_recalled _ _ _ _ (xor_kept.program _ _ _) (yes (no
    (no (no (no begin (empty_says c.set_properties-pa.ensures c.if-pa.false))
    (empty_says c.set_properties-pb.ensures c.if-pb.false))
    (universal_says c.set_properties-pa.ensures c.if-pa-2.false))
    (universal_says c.set_properties-pb.ensures c.if-pb-2.false)) (less_says (lt-ltb _ _ c.if-b-a.true)))
    c.look_up.ensures

pub returns : goal.returns
returns c =
    answer_recalled _ _ _ _ (xor_kept.program _ _ _) (no (no
    (no (no (no begin (empty_says c.set_properties-pa.ensures c.if-pa.false))
    (empty_says c.set_properties-pb.ensures c.if-pb.false))
    (universal_says c.set_properties-pa.ensures c.if-pa-2.false))
    (universal_says c.set_properties-pb.ensures c.if-pb-2.false)) (less_says (le-ltb _ _ c.if-b-a.false)))
    c.look_up-2.ensures
