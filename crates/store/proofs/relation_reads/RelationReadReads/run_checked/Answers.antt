-- `run_checked` has the call's outcome: its check declines, or it is answered.
use mathlib.Core.Path.{refl}
use native.Mathlib.Omega.{arith}
use Rattle.model.specs.Store.{rel}
use Rattle.store_check.specs.Memory.{memories}
use Rattle.call_rules.proofs.CallSteps.{reading_declined, reading_known}
use Rattle.call_rules.proofs.Running.{checked_here}
use Rattle.store.proofs.RelationSteps.{relation_reading}
use Rattle.store.proofs.Arms.{declined_as}
use Rattle.store.proofs.relation_reads.RelationReadReads.run_checked.Goals as goal

pub bounds-relations-0 : goal.bounds-relations-0
bounds-relations-0 c = let h = (c.requires.store.room rel).headed in omega arith

pub bounds-relations-1 : goal.bounds-relations-1
bounds-relations-1 c = let h = (c.requires.store.room rel).headed in omega arith

pub slice_bounds-nodes-count : goal.slice_bounds-nodes-count
slice_bounds-nodes-count c = let h = (c.requires.store.room rel).headed in omega arith

pub slice_bounds-nodes-start : goal.slice_bounds-nodes-start
slice_bounds-nodes-start c = let h = (c.requires.store.room rel).headed in omega arith

pub returns-in_err-level : goal.returns-in_err-level
returns-in_err-level c =
    let a = c.args in
    declined_as _ _ c.from_residual.ensures.1 (reading_declined rel (memories a.relations.now a.sets.now) a.work.now c.requires _ refl
    (relation_reading a.self) _ (checked_here rel c.requires.store refl c.check.ensures) _
    c.in_err-level.was)

pub returns : goal.returns
returns c =
    let a = c.args in
    reading_known rel (memories a.relations.now a.sets.now) a.work.now c.requires _ refl
    (relation_reading a.self) _ (checked_here rel c.requires.store refl c.check.ensures) _
    c.in_ok-level.was tt _ _ refl (c.answer.ensures _)
