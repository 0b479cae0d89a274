-- `node_fits` says whether node i may follow those before it: each test that fails refutes a part of that, and together they show it.
use mathlib.Core.Path.{◌≡◌, ap, ◌∙◌}
use Prim.Native.Nat.{◌+◌, ◌-◌}
use native.Mathlib.Omega.{arith}
use Rattle.std.specs.Prelude.{Some}
use Rattle.model.specs.Store.{arity}
use Rattle.memory.specs.Rows.{row}
use Rattle.store_check.proofs.Fitting.{says_no, row_first, node_above, node_below, row_found, node_last}
use Rattle.store_check.proofs.node_fits.Goals.{then-l-eq0-via-then-l-eq0, then-l-eq0-via-else-l-eq0+then-above}
use Rattle.store_check.proofs.node_fits.Goals as goal

pub returns-in_default : goal.returns-in_default
returns-in_default c K B e p R F A = says_no (λ N.
    let E = (c.children_earlier.ensures K e).so (c.if-not-children_earlier.false) in
    c.in_default.not-Some _ (node_above (c.node_level.ensures K B e (omega arith) F E A) N))

pub returns-then-l-eq0 : goal.returns-then-l-eq0
returns-then-l-eq0 c K B e p R F A = says_no (λ N.
    let E = (c.children_earlier.ensures K e).so (c.if-not-children_earlier.false) in
    let h = node_above (c.node_level.ensures K B e (omega arith) F E A) N in
    let l : c.in-Some.l ≡ N.level + 1 = let i = c.in-Some.is in cc in
    let u = N.under in elim c.then-l-eq0.branch [
      | then-l-eq0-via-then-l-eq0 w ↦ (let z = w.if-l-eq0.true in absurd (omega arith))
      | then-l-eq0-via-else-l-eq0+then-above w ↦ (let z = w.if-above.true in absurd (omega arith))
    ])

pub returns : goal.returns
returns c K B e p R F A =
    let s = c.requires in
    let a = c.args in
    let l = c.in-Some.l in
    let n = c.if-l-eq0.false in
    let m = c.if-above.false in
    let q : l ≡ l - 1 + 1 = omega arith in
    let E = (c.children_earlier.ensures K e).so (c.if-not-children_earlier.false) in
    node_last (omega arith) (node_below _ (l - 1) (c.in-Some.is ∙ ap Some q) (omega arith) (c.node_level.ensures K B e (omega arith) F E A) E)
    ((c.first_even.ensures K (row (arity K) a.nodes.now a.i) e (row_first K a.nodes.now a.c a.i e)).so
    (c.if-not-first_even.false))
    (row_found K a.nodes.now a.work.now a.c a.i c.find.result e s.1 R.index c.find.ensures) c.is_none.ensures
