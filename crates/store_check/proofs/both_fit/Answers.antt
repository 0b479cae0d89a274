-- `both_fit` meets its contract: the two verdicts, the index emptied between.
use Rattle.store_check.proofs.Both.{as_checked, first_fails, both_checked}
use Rattle.store_check.proofs.both_fit.Goals as goal

pub returns-then-not-nodes_fit : goal.returns-then-not-nodes_fit
returns-then-not-nodes_fit c = first_fails _ _ _ (as_checked (c.if-not-nodes_fit.true) c.nodes_fit.ensures)

pub returns : goal.returns
returns c =
    let e = c.empty in
    both_checked (as_checked (c.if-not-nodes_fit.false) c.nodes_fit.ensures) e.ensures
    c.nodes_fit-2.ensures
