-- `is_store` meets its contract: heads first, then both kinds' nodes over the cleared working memory.
use mathlib.Core.Path.{refl, sym, ap, ◌∙◌, subst}
use native.Mathlib.Omega.{arith}
use lib.ListN.{length, length-replicate}
use Rattle.model.specs.Store.{set, rel}
use Rattle.store_check.specs.Memory.{memories}
use Rattle.store_check.specs.StoreChecking.{Tests, HeadsFit, StoreChecked}
use Rattle.store_check.proofs.Whole.{no_heads, part_fits, sets_last, relations_last}
use Rattle.store_check.proofs.is_store.Goals as goal

pub returns-then-not-heads_fit : goal.returns-then-not-heads_fit
returns-then-not-heads_fit c =
    let a = c.args in
    no_heads (memories a.relations.now a.sets.now) a.last (ap length c.clear.ensures ∙ length-replicate _ 0)
    (subst (λ r. Tests r (HeadsFit (memories a.relations.now a.sets.now))) (c.if-not-heads_fit.true) c.heads_fit.ensures)

pub bounds-relations-1 : goal.bounds-relations-1
bounds-relations-1 c = omega (arith, ((c.heads_fit.ensures.so c.if-not-heads_fit.false).room rel).headed)

pub bounds-sets-0 : goal.bounds-sets-0
bounds-sets-0 c = omega (arith, ((c.heads_fit.ensures.so c.if-not-heads_fit.false).room set).headed)

pub slice_bounds-both_fit-count : goal.slice_bounds-both_fit-count
slice_bounds-both_fit-count c = omega (arith, ((c.heads_fit.ensures.so c.if-not-heads_fit.false).room rel).headed)

pub slice_bounds-both_fit-start : goal.slice_bounds-both_fit-start
slice_bounds-both_fit-start c = omega (arith, ((c.heads_fit.ensures.so c.if-not-heads_fit.false).room rel).headed)

pub slice_bounds-both_fit-count-then-last : goal.slice_bounds-both_fit-count-then-last
slice_bounds-both_fit-count-then-last c = omega (arith, ((c.heads_fit.ensures.so c.if-not-heads_fit.false).room set).headed)

pub slice_bounds-both_fit-start-then-last : goal.slice_bounds-both_fit-start-then-last
slice_bounds-both_fit-start-then-last c = omega (arith, ((c.heads_fit.ensures.so c.if-not-heads_fit.false).room set).headed)

pub bounds-relations-0 : goal.bounds-relations-0
bounds-relations-0 c = omega (arith, ((c.heads_fit.ensures.so c.if-not-heads_fit.false).room rel).headed)

pub both_fit-requires : goal.both_fit-requires
both_fit-requires c =
    let H = c.heads_fit.ensures.so c.if-not-heads_fit.false in
    let p = part_fits rel _ _ (H.room rel) refl in
    let q = part_fits set _ _ (H.room set) refl in
    (omega arith, p.0, p.1, omega arith, q.0, q.1)

pub slice_bounds-both_fit-count-else-last : goal.slice_bounds-both_fit-count-else-last
slice_bounds-both_fit-count-else-last c = omega (arith, ((c.heads_fit.ensures.so c.if-not-heads_fit.false).room set).headed)

pub slice_bounds-both_fit-start-else-last : goal.slice_bounds-both_fit-start-else-last
slice_bounds-both_fit-start-else-last c = omega (arith, ((c.heads_fit.ensures.so c.if-not-heads_fit.false).room set).headed)

pub slice_bounds-both_fit-count-else-last-2 : goal.slice_bounds-both_fit-count-else-last-2
slice_bounds-both_fit-count-else-last-2 c = omega (arith, ((c.heads_fit.ensures.so c.if-not-heads_fit.false).room rel).headed)

pub slice_bounds-both_fit-start-else-last-2 : goal.slice_bounds-both_fit-start-else-last-2
slice_bounds-both_fit-start-else-last-2 c = omega (arith, ((c.heads_fit.ensures.so c.if-not-heads_fit.false).room rel).headed)

pub bounds-relations-0-else-last : goal.bounds-relations-0-else-last
bounds-relations-0-else-last c = omega (arith, ((c.heads_fit.ensures.so c.if-not-heads_fit.false).room rel).headed)

pub both_fit-requires-else-last : goal.both_fit-requires-else-last
both_fit-requires-else-last c =
    let H = c.heads_fit.ensures.so c.if-not-heads_fit.false in
    let p = part_fits set _ _ (H.room set) refl in
    let q = part_fits rel _ _ (H.room rel) refl in
    (omega arith, p.0, p.1, omega arith, q.0, q.1)

pub returns-then-last : goal.returns-then-last
returns-then-last c =
    let b = c.both_fit in
    let a = c.args in
    subst (λ l. StoreChecked (memories a.relations.now a.sets.now) l a.work.now b.new.work b.result) (sym c.if-last.true)
    (sets_last _ (c.heads_fit.ensures.so c.if-not-heads_fit.false) a.work.now _ _ c.clear.ensures _ _ refl refl b.ensures)

pub returns-else-last : goal.returns-else-last
returns-else-last c =
    let b = c.both_fit-else-last in
    let a = c.args in
    subst (λ l. StoreChecked (memories a.relations.now a.sets.now) l a.work.now b.new.work b.result) (sym c.if-last.false)
    (relations_last _ (c.heads_fit.ensures.so c.if-not-heads_fit.false) a.work.now _ _ c.clear.ensures _ _ refl refl b.ensures)
