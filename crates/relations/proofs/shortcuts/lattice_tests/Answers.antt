-- `lattice_tests` knows what the properties and the memo say of a union or an intersection.
use Rattle.memory.proofs.Steps.{begin, yes, no, empty_says, universal_says, answer}
use Rattle.relations.proofs.ShortcutLaws.{answers_later}
use Rattle.relations.proofs.shortcuts.lattice_tests.Goals as goal

pub returns-then-pb : goal.returns-then-pb
returns-then-pb c node m e A B = answer (yes begin (universal_says B c.if-pb.true))

pub returns-then-pb-2 : goal.returns-then-pb-2
returns-then-pb-2 c node m e A B = answer (yes (no begin (universal_says B c.if-pb.false)) (empty_says B c.if-pb-2.true))

pub returns-then-pa : goal.returns-then-pa
returns-then-pa c node m e A B =
    answer (yes (no (no begin (universal_says B c.if-pb.false)) (empty_says B c.if-pb-2.false))
    (universal_says A c.if-pa.true))

pub returns : goal.returns
returns c node m e A B =
    answers_later (no (no (no begin (universal_says B c.if-pb.false)) (empty_says B c.if-pb-2.false))
    (universal_says A c.if-pa.false)) (c.ordered.ensures node _ e)
