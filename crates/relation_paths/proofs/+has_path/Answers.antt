-- `has_path` runs its program; the measure is the level.
use mathlib.Core.Logic.{inl, inr}
use Rattle.memory.proofs.Steps.{performs_on, by, called, impossible}
use Rattle.relation_paths.proofs.Asking.{answer_told, or_asked, or_left}
use Rattle.relation_paths.proofs.Leading.{answer_left, meet_left, leave_left, node_left, path_zero, path_opened, path_kept}
use Rattle.relation_paths.proofs.+has_path.Goals as goal
use Rattle.relation_paths.proofs.+has_path.Goals.{then-has_path, else-has_path, then-has_path-2, else-has_path-2, then-has_path-3, else-has_path-3}

pub returns-then-level-eq0 : goal.returns-then-level-eq0
returns-then-level-eq0 t c j n =
    impossible (by (node_left (c.has_path_tests.ensures j) c.in-Node.is) (path_zero _ _ _ _ c.if-level-eq0.true))

pub returns-in-Answer : goal.returns-in-Answer
returns-in-Answer t c j n = answer_told _ (answer_left (c.has_path_tests.ensures j) c.in-Answer.is)

pub returns-in-Meet : goal.returns-in-Meet
returns-in-Meet t c j n = called (meet_left (c.has_path_tests.ensures j) c.in-Meet.is) (performs_on (c.intersects.ensures n))

pub returns-in-Leave : goal.returns-in-Leave
returns-in-Leave t c j n = called (leave_left (c.has_path_tests.ensures j) c.in-Leave.is) (c.has_image.ensures j n)

pub returns-after-has_path-3 : goal.returns-after-has_path-3
returns-after-has_path-3 t c j n =
    path_kept c.if-has_path-3.found _ _ _ _ (node_left (c.has_path_tests.ensures j) c.in-Node.is)
    (called (path_opened _ _ _ _ c.if-level-eq0.false c.get-x.ensures c.get-z.ensures c.get-y.ensures) (or_left (or_left
    (or_asked c.if-has_path-2.value _ _
    (or_asked c.if-has_path.value c.if-has_path-2.value c.if-has_path-2.work
    (or_asked c.has_path.result c.if-has_path.value c.if-has_path.work (c.has_path.ensures j n)
    (elim c.if-has_path.branch [
      | then-has_path w ↦ inl (w.if-has_path.true, w.work-is, w.value-is)
      | else-has_path w ↦ inr (_, _, w.if-has_path.false, w.has_path-else-has_path.ensures j n, w.work-is, w.value-is)
    ]))
    (elim c.if-has_path-2.branch [
      | then-has_path-2 w ↦ inl (w.if-has_path-2.true, w.work-is, w.value-is)
      | else-has_path-2 w ↦ inr (_, _, w.if-has_path-2.false, w.has_path-else-has_path-2.ensures j n, w.work-is, w.value-is)
    ]))
    (elim c.if-has_path-3.branch [
      | then-has_path-3 w ↦ inl (w.if-has_path-3.true, w.work-is, w.found-is)
      | else-has_path-3 w ↦ inr (_, _, w.if-has_path-3.false, w.has_path-found.ensures j n, w.work-is, w.found-is)
    ])))))
    c.keep_path.ensures
