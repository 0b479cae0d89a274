-- `has_image_tests` knows what the properties and the memo say of whether a relation leads from a set.
use Rattle.memory.proofs.Remembering.{recalled}
use Rattle.memory.proofs.Shortcuts.{shortcuts}
use Rattle.memory.proofs.Steps.{begin, by, further}
use Rattle.memory.proofs.YesNo.{has_image_yes_no}
use Rattle.relation_paths.proofs.Asking.{yes_left}
use Rattle.relation_paths.proofs.Leading.{image_is, image_memo, image_known, image_unknown}
use Rattle.relation_paths.proofs.has_image_tests.Goals as goal
use Rattle.relation_paths.proofs.has_image_tests.Goals.{then-pp-2-via-then-pp-2, then-pp-2-via-else-pp-2+then-pa-2, then-pp-2-via-else-pp-2+else-pa-2+then-pa-3}

pub returns-then-pp : goal.returns-then-pp
returns-then-pp c j = image_known (search (shortcuts, c.set_properties-pp.ensures) depth 20)

pub returns-then-pa : goal.returns-then-pa
returns-then-pa c j = image_known (search (shortcuts, c.set_properties-pp.ensures, c.relation_properties-pa.ensures) depth 20)

pub returns-then-pp-2 : goal.returns-then-pp-2
returns-then-pp-2 c j = elim c.then-pp-2.branch [
  | then-pp-2-via-then-pp-2 w ↦ image_known (search (shortcuts, c.set_properties-pp.ensures, c.relation_properties-pa.ensures) depth 20)
  | then-pp-2-via-else-pp-2+then-pa-2 w ↦ image_known (search (shortcuts, c.set_properties-pp.ensures, c.relation_properties-pa.ensures) depth 20)
  | then-pp-2-via-else-pp-2+else-pa-2+then-pa-3 w ↦ image_known (search (shortcuts, c.set_properties-pp.ensures, c.relation_properties-pa.ensures) depth 20)
]

pub returns-in_err-known : goal.returns-in_err-known
returns-in_err-known c j =
    image_unknown c.from_residual.ensures
    (further (by begin (image_is _ _ _)) (search (shortcuts, c.set_properties-pp.ensures, c.relation_properties-pa.ensures) depth 20))

pub returns : goal.returns
returns c j = record {
  reduces = yes_left (has_image_yes_no _ _ _) (recalled _ _ _ _ (image_memo c.args.level c.args.p c.args.a)
      (further (by begin (image_is _ _ _)) (search (shortcuts, c.set_properties-pp.ensures, c.relation_properties-pa.ensures) depth 20))
      c.recall.ensures c.in_ok-known.was);
}
