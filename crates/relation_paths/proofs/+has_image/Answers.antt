-- `has_image` runs its program; the measure is the level.
use mathlib.Core.Logic.{inl, inr}
use Rattle.model.specs.Images.{has_image_op}
use Rattle.model.proofs.Recursion.{node2_zero}
use Rattle.memory.proofs.Steps.{by, called, impossible}
use Rattle.memory.proofs.YesNo.{told_kept}
use Rattle.relation_paths.proofs.Asking.{answer_told, or_asked, or_left}
use Rattle.relation_paths.proofs.Leading.{image_memo, image_opened, image_told, image_left}
use Rattle.relation_paths.proofs.+has_image.Goals as goal
use Rattle.relation_paths.proofs.+has_image.Goals.{then-has_image, else-has_image, then-has_image-2, else-has_image-2, then-has_image-3, else-has_image-3}

pub returns-in-Some : goal.returns-in-Some
returns-in-Some t c j n = answer_told _ (image_told (c.has_image_tests.ensures j) c.in-Some.is)

pub returns-then-level-eq0 : goal.returns-then-level-eq0
returns-then-level-eq0 t c j n =
    impossible (by (image_left (c.has_image_tests.ensures j) c.in_default.is) (node2_zero has_image_op _ _ _ c.if-level-eq0.true))

pub returns : goal.returns
returns t c j n =
    told_kept _ _ _ _ _ (image_memo _ _ _) (image_left (c.has_image_tests.ensures j) c.in_default.is)
    (called (image_opened _ _ _ c.if-level-eq0.false c.get-x.ensures c.get-y.ensures) (or_left (or_left
    (or_asked c.if-has_image-2.value _ _
    (or_asked c.if-has_image.value c.if-has_image-2.value c.if-has_image-2.work
    (or_asked c.has_image.result c.if-has_image.value c.if-has_image.work (c.has_image.ensures j n)
    (elim c.if-has_image.branch [
      | then-has_image w ↦ inl (w.if-has_image.true, w.work-is, w.value-is)
      | else-has_image w ↦ inr (_, _, w.if-has_image.false, w.has_image-else-has_image.ensures j n, w.work-is, w.value-is)
    ]))
    (elim c.if-has_image-2.branch [
      | then-has_image-2 w ↦ inl (w.if-has_image-2.true, w.work-is, w.value-is)
      | else-has_image-2 w ↦ inr (_, _, w.if-has_image-2.false, w.has_image-else-has_image-2.ensures j n, w.work-is, w.value-is)
    ]))
    (elim c.if-has_image-3.branch [
      | then-has_image-3 w ↦ inl (w.if-has_image-3.true, w.work-is, w.found-is)
      | else-has_image-3 w ↦ inr (_, _, w.if-has_image-3.false, w.has_image-found.ensures j n, w.work-is, w.found-is)
    ])))))
    c.from.ensures c.keep.ensures
