-- `run_checked` has the call's outcome: its check declines, or it is answered.
use mathlib.Core.Path.{refl}
use native.Mathlib.Omega.{arith}
use Rattle.model.specs.Store.{set, rel}
use Rattle.store_check.specs.Memory.{memories}
use Rattle.call_rules.proofs.CallSteps.{reading_declined, reading_low, reading_known}
use Rattle.store.proofs.ImageSteps.{path_reading}
use Rattle.call_rules.proofs.Running.{both_here, other_here}
use Rattle.store.proofs.Arms.{declined_as}
use Rattle.store.proofs.path_reads.PathReadReads.run_checked.Goals as goal

pub bounds-relations-0 : goal.bounds-relations-0
bounds-relations-0 c = let h = (c.requires.store.room rel).headed in omega arith

pub bounds-relations-1 : goal.bounds-relations-1
bounds-relations-1 c = let h = (c.requires.store.room rel).headed in omega arith

pub bounds-sets-0 : goal.bounds-sets-0
bounds-sets-0 c = let h = (c.requires.store.room set).headed in omega arith

pub slice_bounds-relation_nodes-count : goal.slice_bounds-relation_nodes-count
slice_bounds-relation_nodes-count c = let h = (c.requires.store.room rel).headed in omega arith

pub slice_bounds-relation_nodes-start : goal.slice_bounds-relation_nodes-start
slice_bounds-relation_nodes-start c = let h = (c.requires.store.room rel).headed in omega arith

pub slice_bounds-set_nodes-count : goal.slice_bounds-set_nodes-count
slice_bounds-set_nodes-count c = let h = (c.requires.store.room set).headed in omega arith

pub slice_bounds-set_nodes-start : goal.slice_bounds-set_nodes-start
slice_bounds-set_nodes-start c = let h = (c.requires.store.room set).headed in omega arith

pub overflow_cast-level : goal.overflow_cast-level
overflow_cast-level c =
    let h = reading_low set (memories c.args.relations.now c.args.sets.now) c.args.work.now c.requires _
    refl
    (path_reading c.args.self) _ (both_here _ c.requires.store refl refl
    c.check.ensures) _ c.in_ok-level.was in
    omega arith

pub answer-requires : goal.answer-requires
answer-requires c =
    let h = reading_low set (memories c.args.relations.now c.args.sets.now) c.args.work.now c.requires _
    refl
    (path_reading c.args.self) _ (both_here _ c.requires.store refl refl
    c.check.ensures) _ c.in_ok-level.was in
    omega arith

pub returns-in_err-level : goal.returns-in_err-level
returns-in_err-level c =
    declined_as _ _ c.from_residual.ensures.1 (reading_declined set (memories c.args.relations.now c.args.sets.now) c.args.work.now c.requires _
    refl
    (path_reading c.args.self) _ (both_here _ c.requires.store refl refl
    c.check.ensures) _ c.in_err-level.was)

pub returns : goal.returns
returns c =
    reading_known set (memories c.args.relations.now c.args.sets.now) c.args.work.now c.requires _
    refl
    (path_reading c.args.self) _ (both_here _ c.requires.store refl refl
    c.check.ensures) _ c.in_ok-level.was
    (other_here _ c.requires.store set _ refl) _ _ refl (c.answer.ensures _ _)
