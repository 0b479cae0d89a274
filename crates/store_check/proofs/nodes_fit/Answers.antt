-- `nodes_fit` says whether all n nodes keep the rules: the loop keeps that those passed do, and that the working memory is right for them.
use mathlib.Core.Path.{◌∙◌}
use native.Mathlib.Omega.{arith}
use Rattle.store_check.proofs.Fitting.{all_next, checked_no, checked_yes}
use borrow.Author.Rules.{rules}
use Rattle.store_check.proofs.nodes_fit.Goals as goal

pub returns-then-not-node_fits : goal.returns-then-not-node_fits
returns-then-not-node_fits c =
    let a = c.args in
    let o = c.loop-i in
    checked_no a.c a.n a.k o.i a.nodes.now a.work.now o.work o.invariant.1 c.gather-word.result c.gather-word.ensures
    c.node_fits.result
    (omega arith) o.invariant.0 c.node_fits.ensures (c.if-not-node_fits.true)

pub loop-i-preserved : goal.loop-i-preserved
loop-i-preserved c =
    let a = c.args in
    let o = c.loop-i in (
      c.enter.ensures.apart.work_length ∙ search rules,
      all_next a.c a.n a.k o.i a.nodes.now a.work.now o.work o.invariant.1 c.gather-word.result c.gather-word.ensures
          c.node_fits.result _ _
          (omega arith) c.node_fits.ensures (c.if-not-node_fits.false) c.write.ensures
          c.enter.ensures,
    )

pub returns : goal.returns
returns c =
    let a = c.args in
    let o = c.loop-i in
    checked_yes a.c a.n a.k o.i a.nodes.now a.work.now o.work o.invariant.1 (omega arith) o.invariant.0
