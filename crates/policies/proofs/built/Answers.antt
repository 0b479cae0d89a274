-- `built` has the text's outcome: the build pass runs its policy's program, and `commit` ends it.
use native.Mathlib.Omega.{arith}
use mathlib.Core.Path.{refl}
use Rattle.model.specs.Store.{rel}
use Rattle.store_check.specs.Memory.{memories}
use Rattle.policies.proofs.BuiltTexts.{fitted, full, built_within, built_ran}
use Rattle.policies.proofs.built.Goals as goal

pub bounds-relations-0 : goal.bounds-relations-0
bounds-relations-0 c = let h = (c.requires.0.store.room rel).headed in omega arith

pub bounds-relations-1 : goal.bounds-relations-1
bounds-relations-1 c = let h = (c.requires.0.store.room rel).headed in omega arith

pub slice_bounds-build-count : goal.slice_bounds-build-count
slice_bounds-build-count c = let h = (c.requires.0.store.room rel).headed in omega arith

pub slice_bounds-build-start : goal.slice_bounds-build-start
slice_bounds-build-start c = let h = (c.requires.0.store.room rel).headed in omega arith

pub commit-requires : goal.commit-requires
commit-requires c =
    let a = c.args in
    let y = c.requires in
    let t = built_within a.text.now (memories a.relations.now a.sets.now) a.work.now y.0 _ refl
    y.1 y.2 _ refl _ _ c.build-made.new.n c.build-made.result c.build-made.ensures in (omega arith, t.0, t.1, t.2)

pub returns-in-Some : goal.returns-in-Some
returns-in-Some c =
    let a = c.args in
    let y = c.requires in
    built_ran a.text.now (memories a.relations.now a.sets.now) a.work.now y.0 _ refl
    y.1 y.2 _ refl _ _ c.build-made.new.n c.build-made.result c.build-made.ensures _ _
    c.commit.ensures (fitted _ c.in-Some.is)

pub returns : goal.returns
returns c =
    let a = c.args in
    let y = c.requires in
    built_ran a.text.now (memories a.relations.now a.sets.now) a.work.now y.0 _ refl
    y.1 y.2 _ refl _ _ c.build-made.new.n c.build-made.result c.build-made.ensures _ _
    c.commit.ensures (full _ _ c.in_default.not-Some)
