-- `star_tests` knows what the properties and the memo say of a star.
use Rattle.memory.proofs.Steps.{begin, by, yes, no, empty_says, identity_says, universal_says}
use Rattle.memory.proofs.Remembering.{answer_recalled}
use Rattle.relation_products.proofs.Opened.{star_is, star_memo}
use Rattle.relations.proofs.ShortcutLaws.{shortcut_answer, shortcut_delegate, shortcut_lookup}
use Rattle.relation_products.proofs.star_tests.Goals as goal
use Rattle.relation_products.proofs.star_tests.Goals.{then-p-2-via-then-p-2, then-p-2-via-else-p-2+then-p-3}

pub returns-then-p : goal.returns-then-p
returns-then-p c = shortcut_delegate (yes (by begin (star_is _ _)) (empty_says c.relation_properties-p.ensures c.if-p.true))

pub returns-then-p-2 : goal.returns-then-p-2
returns-then-p-2 c = elim c.then-p-2.branch [
  | then-p-2-via-then-p-2 w ↦ shortcut_answer (yes (no (by begin (star_is _ _)) (empty_says c.relation_properties-p.ensures c.if-p.false))
      (identity_says c.relation_properties-p.ensures w.if-p-2.true))
  | then-p-2-via-else-p-2+then-p-3 w ↦ shortcut_answer (yes (no (no (by begin (star_is _ _)) (empty_says c.relation_properties-p.ensures
      c.if-p.false))
      (identity_says c.relation_properties-p.ensures w.if-p-2.false)) (universal_says c.relation_properties-p.ensures w.if-p-3.true))
]

pub returns : goal.returns
returns c =
    shortcut_lookup (no (no (no (by begin (star_is _ _)) (empty_says c.relation_properties-p.ensures c.if-p.false))
    (identity_says c.relation_properties-p.ensures c.if-p-2.false))
    (universal_says c.relation_properties-p.ensures c.if-p-3.false))
    (answer_recalled _ _ _ _ (star_memo _ _ _) begin c.look_up.ensures) c.from.ensures
