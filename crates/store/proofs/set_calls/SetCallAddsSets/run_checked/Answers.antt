-- `run_checked` has the call's outcome: its check declines, or its program runs and `finish` ends it.
use mathlib.Core.Path.{refl}
use native.Mathlib.Omega.{arith}
use Rattle.model.specs.Store.{set, rel}
use Rattle.store_check.specs.Memory.{memories}
use Rattle.call_rules.proofs.CallSteps.{adding_declined, adding_passed, adding_within, adding_ran}
use Rattle.call_rules.proofs.Outcomes.{finished_ends}
use Rattle.call_rules.proofs.Running.{checked_here}
use Rattle.store.proofs.SetSteps.{set_adding}
use Rattle.store.proofs.SetMeant.{set_field_small}
use Rattle.store.proofs.Arms.{declined_as}
use Rattle.store.proofs.set_calls.SetCallAddsSets.run_checked.Goals as goal

pub bounds-relations-0 : goal.bounds-relations-0
bounds-relations-0 c = let h = (c.requires.store.room rel).headed in omega arith

pub bounds-sets-0 : goal.bounds-sets-0
bounds-sets-0 c = let h = (c.requires.store.room set).headed in omega arith

pub slice_bounds-check-count : goal.slice_bounds-check-count
slice_bounds-check-count c = let h = (c.requires.store.room set).headed in omega arith

pub slice_bounds-check-start : goal.slice_bounds-check-start
slice_bounds-check-start c = let h = (c.requires.store.room set).headed in omega arith

pub slice_bounds-perform-count : goal.slice_bounds-perform-count
slice_bounds-perform-count c = let h = (c.requires.store.room set).headed in omega arith

pub slice_bounds-perform-start : goal.slice_bounds-perform-start
slice_bounds-perform-start c = let h = (c.requires.store.room set).headed in omega arith

pub perform-made-requires : goal.perform-made-requires
perform-made-requires c =
    let a = c.args in
    let y = c.requires in
    set_field_small y.store.formed a.self y.store.few
    (adding_passed set (memories a.relations.now a.sets.now) a.work.now y _ refl
    (set_adding a.self) _ (checked_here set y.store refl c.check.ensures) _ c.in_ok-level.was)

pub finish-requires : goal.finish-requires
finish-requires c =
    let a = c.args in
    let t = adding_within set (memories a.relations.now a.sets.now) a.work.now c.requires _ refl
    (set_adding a.self) _ (checked_here set c.requires.store refl c.check.ensures) _
    c.in_ok-level.was tt _ _ _ _ c.perform-made.new.n c.perform-made.result
    refl refl c.perform-made.ensures in (omega arith, t.0, t.1, t.2)

pub returns-in_err-level : goal.returns-in_err-level
returns-in_err-level c =
    let a = c.args in
    declined_as _ _ c.from_residual.ensures.1 (adding_declined set (memories a.relations.now a.sets.now) a.work.now c.requires _ refl
    (set_adding a.self) _ (checked_here set c.requires.store refl c.check.ensures) _
    c.in_err-level.was)

pub returns : goal.returns
returns c =
    let a = c.args in
    adding_ran set (memories a.relations.now a.sets.now) a.work.now c.requires _ refl
    (set_adding a.self) _ (checked_here set c.requires.store refl c.check.ensures) _
    c.in_ok-level.was tt _ _ _ _ c.perform-made.new.n c.perform-made.result
    refl refl c.perform-made.ensures _ _
    c.finish.ensures.committed (finished_ends _ _ _ c.finish.ensures)
