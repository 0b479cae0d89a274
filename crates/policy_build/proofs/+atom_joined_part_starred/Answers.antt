-- The functions of the build pass: their calls and turns build a part of the grammar, from the lemmas of Atoms and Loops.
use Rattle.std.proofs.Common.{◌∙◌, ap, refl, sym, arith}
use Rattle.std.specs.Prelude.{Some, None}
use Rattle.model.proofs.Bools.{no_true}
use Rattle.memory.proofs.Steps.{performs_by}
use Rattle.memory.proofs.Stopping.{made, failed}
use Rattle.policy_text.specs.Posts.{does_join}
use Rattle.policy_text.specs.XForms.{x_forms}
use Rattle.policy_build.proofs.Placed.{none_given}
use Rattle.policy_build.proofs.Atoms.{negation_builds, negation_none, paren_builds, paren_none}
use Rattle.policy_build.proofs.Loops.{starred_looped, rank_looped, rank_joiner, joining, starring}
use Rattle.policy_build.proofs.Loops.{sign_at, loop_starts, loop_ends, none_starts, joins_on, none_joins, none_next, stars_on, none_stars}
use Rattle.policy_build.proofs.+atom_joined_part_starred.Goals as goal

-- ATOM
pub atom-returns-in_err-p-in-33 : goal.atom-returns-in_err-p-in-33
atom-returns-in_err-p-in-33 t c =
    none_given c.from_residual.ensures (negation_none _ (sym c.byte.ensures.0 ∙ c.in-33.is) c.in_err-p-in-33.ensures)

pub atom-returns-in_err-one-in-33 : goal.atom-returns-in_err-one-in-33
atom-returns-in_err-one-in-33 t c =
    none_given c.from_residual-in_err-one-in-33.ensures (negation_builds _ c.in_ok-p-in-33.ensures None
    (sym c.byte.ensures.0 ∙ c.in-33.is) (failed c.in_err-one-in-33.ensures refl))

pub atom-returns-in_err-handle-in-33 : goal.atom-returns-in_err-handle-in-33
atom-returns-in_err-handle-in-33 t c =
    none_given c.from_residual-in_err-handle-in-33.ensures (negation_builds _ c.in_ok-p-in-33.ensures None
    (sym c.byte.ensures.0 ∙ c.in-33.is) (made c.in_ok-one-in-33.ensures c.in_err-handle-in-33.ensures))

pub atom-returns-in_ok-handle-in-33 : goal.atom-returns-in_ok-handle-in-33
atom-returns-in_ok-handle-in-33 t c =
    negation_builds _ c.in_ok-p-in-33.ensures (Some _) (sym c.byte.ensures.0 ∙ c.in-33.is)
    (made c.in_ok-one-in-33.ensures c.in_ok-handle-in-33.ensures)

pub atom-returns-in_err-p-in-40 : goal.atom-returns-in_err-p-in-40
atom-returns-in_err-p-in-40 t c =
    none_given c.from_residual-in_err-p-in-40.ensures (paren_none _ (sym c.byte.ensures.0 ∙ c.in-40.is) c.in_err-p-in-40.ensures)

pub atom-returns-in_ok-p-in-40 : goal.atom-returns-in_ok-p-in-40
atom-returns-in_ok-p-in-40 t c =
    paren_builds _ (sym c.byte.ensures.0 ∙ c.in-40.is) c.in_ok-p-in-40.ensures c.past-end.ensures

-- STARRED
pub starred-returns-in_err-p : goal.starred-returns-in_err-p
starred-returns-in_err-p t c =
    none_given c.from_residual.ensures (none_starts starred_looped (λ d. starring) c.in_err-p.ensures)

pub starred-loop-nodes-init : goal.starred-loop-nodes-init
starred-loop-nodes-init t c = loop_starts starred_looped c.in_ok-p.ensures

pub starred-returns-in_err-p-2 : goal.starred-returns-in_err-p-2
starred-returns-in_err-p-2 t c =
    none_given c.from_residual-in_err-p-2.ensures
    (none_stars (sym c.byte.ensures.0 ∙ c.loop-nodes-test.true) c.loop-nodes.invariant c.in_err-p-2.ensures)

pub starred-loop-nodes-preserved : goal.starred-loop-nodes-preserved
starred-loop-nodes-preserved t c =
    let l = c.byte.ensures.1 (omega (arith, c.loop-nodes-test.true)) in
    stars_on (sym c.byte.ensures.0 ∙ c.loop-nodes-test.true) c.loop-nodes.invariant (omega (arith, l)) c.in_ok-p-2.ensures

pub starred-returns : goal.starred-returns
starred-returns t c = loop_ends starred_looped c.loop-nodes.invariant (λ e. c.loop-nodes-test.false (c.byte.ensures.0 ∙ e))

-- JOINED
pub joined-returns-in_err-p : goal.joined-returns-in_err-p
joined-returns-in_err-p t c =
    let r = c.args.rank in
    none_given c.from_residual.ensures (none_starts (rank_looped x_forms r) (joining _ (rank_joiner r)) c.in_err-p.ensures)

pub joined-loop-rank-init : goal.joined-loop-rank-init
joined-loop-rank-init t c = loop_starts (rank_looped x_forms c.args.rank) c.in_ok-p.ensures

pub joined-returns-then-not-joins : goal.joined-returns-then-not-joins
joined-returns-then-not-joins t c =
    let r = c.args.rank in
    loop_ends (rank_looped x_forms r) c.loop-rank.invariant (no_true (ap (does_join r) (sym c.byte-sign.ensures.0) ∙ sym c.joins.ensures ∙ c.if-not-joins.true))

pub joined-returns-in_err-q : goal.joined-returns-in_err-q
joined-returns-in_err-q t c =
    let r = c.args.rank in
    none_given c.from_residual-in_err-q.ensures (none_next (rank_looped x_forms r) (rank_joiner r)
    (ap (does_join r) (sym c.byte-sign.ensures.0) ∙ sym c.joins.ensures ∙ c.if-not-joins.false) c.loop-rank.invariant
    c.in_err-q.ensures)

pub joined-returns-in_err-p-2 : goal.joined-returns-in_err-p-2
joined-returns-in_err-p-2 t c =
    let r = c.args.rank in
    none_given c.from_residual-in_err-p-2.ensures (none_joins (rank_looped x_forms r) (rank_joiner r)
    (ap (does_join r) (sym c.byte-sign.ensures.0) ∙ sym c.joins.ensures ∙ c.if-not-joins.false) c.loop-rank.invariant
    c.in_ok-q.ensures
    (performs_by (sign_at r _ _ _ (sym c.byte-sign.ensures.0)) c.in_err-p-2.ensures))

pub joined-loop-rank-preserved : goal.joined-loop-rank-preserved
joined-loop-rank-preserved t c =
    let r = c.args.rank in
    joins_on (rank_looped x_forms r) (rank_joiner r) (ap (does_join r) (sym c.byte-sign.ensures.0) ∙ sym c.joins.ensures ∙ c.if-not-joins.false)
    c.loop-rank.invariant c.in_ok-q.ensures
    (performs_by (sign_at r _ _ _ (sym c.byte-sign.ensures.0)) c.in_ok-p-2.ensures)

-- PART
pub part-returns-in-Product : goal.part-returns-in-Product
part-returns-in-Product t c = rw c.in-Product.is c.starred.ensures

pub part-returns-in-Term : goal.part-returns-in-Term
part-returns-in-Term t c = rw c.in-Term.is c.joined.ensures

pub part-returns-in-Sum : goal.part-returns-in-Sum
part-returns-in-Sum t c = rw c.in-Sum.is c.joined-in-Sum.ensures
