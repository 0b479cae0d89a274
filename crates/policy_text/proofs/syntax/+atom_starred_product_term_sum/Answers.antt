-- The functions of the grammar's parts: each return is one law of Moves, and the loop keeps what a part promises.
use native.Mathlib.Omega.{arith}
use mathlib.Core.Path.{◌≡◌, refl, sym, ap, ◌∙◌}
use mathlib.Core.List.{[], ◌∷◌}
use mathlib.Core.Logic.{inl, inr}
use borrow.Author.Tests.{ne_eqb}
use lib.ListN.{get_or}
use Prim.Native.Nat.{ℕ}
use Rattle.std.proofs.Common.{rules, Err}
use Rattle.policy_text.specs.XForms.{does_x_begin, x_forms}
use Rattle.policy_text.specs.Machine.{inside, spelt, need, final, byte_step}
use Rattle.policy_text.specs.declared.Rank.{Rank}
use Rattle.policy_text.proofs.Moves.{atom_end, atom_go, atom_leaf, atom_none, atom_bang, atom_over, paren_refused, paren_closed, paren_ends, paren_stops}
use Rattle.policy_text.proofs.Moves.{join_stars, join_atom_refused, join_refused, join_from, join_in, atom_in, rank_ends, rank_more}
use Rattle.policy_text.proofs.syntax.+atom_starred_product_term_sum.Goals.{atom-in-84-1, atom-in_default+else-this-lt48+then-this-lt50}
use Rattle.policy_text.proofs.syntax.+atom_starred_product_term_sum.Goals.{atom-in_default-via-then-this-lt48}
use Rattle.policy_text.proofs.syntax.+atom_starred_product_term_sum.Goals.{atom-in_default-via-else-this-lt48+else-this-lt50}
use Rattle.policy_text.proofs.syntax.+atom_starred_product_term_sum.Goals as goal

pub atom-returns-in_err-byte : goal.atom-returns-in_err-byte
unfolding final
atom-returns-in_err-byte t c =
    let e : c.from_residual.result ≡ Err c.in_err-byte.field-0.0 = search rules in
    atom_end _ _ _ _ _ _ _ e c.in_err-byte.ensures (λ sa pa m σ. refl)

pub atom-returns-in-48 : goal.atom-returns-in-48
atom-returns-in-48 t c = let b = c.in_ok-byte.ensures in atom_leaf _ _ _ _ b.0 (elim c.in-48-1.branch [
  | atom-in-84-1 w ↦ inr (omega (arith, b.1))
  | atom-in_default+else-this-lt48+then-this-lt50 w ↦ inl (omega (arith, b.1), omega (arith, b.1))
])

pub atom-returns-in-120 : goal.atom-returns-in-120
unfolding byte_step does_x_begin
atom-returns-in-120 t c =
    let b = c.in_ok-byte.ensures in
    atom_go _ _ _ _ (inside (spelt (120 ∷ []))) _ _ b.0
    (λ sa pa m σ. ap (λ (b : ℕ). byte_step x_forms 32 (need sa pa m σ) b) (b.1 ∙ c.in-120.is))
    (c.read_field.ensures _)

pub atom-returns-in_err-inner-in-33 : goal.atom-returns-in_err-inner-in-33
atom-returns-in_err-inner-in-33 t c =
    let e : c.from_residual-in_err-inner-in-33.result ≡ Err c.in_err-inner-in-33.field-0.0 = search rules in
    let b = c.in_ok-byte.ensures in
    atom_over _ _ _ _ _ _ e b.0 (inl (b.1 ∙ c.in-33.is)) c.in_err-inner-in-33.ensures

pub atom-returns-in_ok-inner-in-33 : goal.atom-returns-in_ok-inner-in-33
atom-returns-in_ok-inner-in-33 t c =
    let b = c.in_ok-byte.ensures in
    atom_bang _ _ _ _ _ _ b.0 (b.1 ∙ c.in-33.is) c.in_ok-inner-in-33.ensures c.atom.ensures

pub atom-returns-in_err-inner-in-40 : goal.atom-returns-in_err-inner-in-40
atom-returns-in_err-inner-in-40 t c =
    let e : c.from_residual-in_err-inner-in-40.result ≡ Err c.in_err-inner-in-40.field-0.0 = search rules in
    let b = c.in_ok-byte.ensures in
    atom_over _ _ _ _ _ _ e b.0 (inr (b.1 ∙ c.in-40.is)) c.in_err-inner-in-40.ensures

pub atom-returns-in_err-end-in-40 : goal.atom-returns-in_err-end-in-40
atom-returns-in_err-end-in-40 t c =
    let e : c.from_residual-in_err-end-in-40.result ≡ Err c.in_err-end-in-40.field-0.0 = search rules in
    let b = c.in_ok-byte.ensures in
    paren_refused _ _ _ _ _ b.0 (b.1 ∙ c.in-40.is) c.in_ok-inner-in-40.ensures _ _ e c.in_err-end-in-40.ensures

pub atom-returns-in_err-closes-in-40 : goal.atom-returns-in_err-closes-in-40
atom-returns-in_err-closes-in-40 t c =
    let e : c.from_residual-in_err-closes-in-40.result ≡ Err c.in_err-closes-in-40.field-0.0 = search rules in
    let b = c.in_ok-byte.ensures in
    paren_ends _ _ _ _ _ b.0 (b.1 ∙ c.in-40.is) c.in_ok-inner-in-40.ensures _ _ _ e c.in_ok-end-in-40.ensures c.in_err-closes-in-40.ensures

pub atom-returns-then-closes : goal.atom-returns-then-closes
atom-returns-then-closes t c =
    let b = c.in_ok-byte.ensures in
    let z = c.in_ok-closes-in-40.ensures in
    paren_closed _ _ _ _ _ b.0 (b.1 ∙ c.in-40.is) c.in_ok-inner-in-40.ensures _ c.in_ok-end-in-40.ensures z.0 (z.1 ∙ c.if-closes.true)

pub atom-returns-else-closes : goal.atom-returns-else-closes
atom-returns-else-closes t c =
    let b = c.in_ok-byte.ensures in
    let z = c.in_ok-closes-in-40.ensures in
    paren_stops _ _ _ _ _ b.0 (b.1 ∙ c.in-40.is) c.in_ok-inner-in-40.ensures _ _ c.in_ok-end-in-40.ensures z.0 (λ e. c.if-closes.false (sym z.1 ∙ e))
    c.not_policy.ensures

pub atom-returns-in_default : goal.atom-returns-in_default
unfolding does_x_begin
atom-returns-in_default t c =
    let b = c.in_ok-byte.ensures in
    let a = get_or c.args.text.now c.args.at 0 in
    atom_none _ _ _ _ _ b.0 c.not_policy-in_default.ensures (ne_eqb a 120 (λ e. omega (arith, e, b.1))) (
      elim c.in_default.branch [
        | atom-in_default-via-then-this-lt48 w ↦ inl (omega (arith, b.1))
        | atom-in_default-via-else-this-lt48+else-this-lt50 w ↦ inr (omega (arith, b.1))
      ],
      (λ e. omega (arith, e, b.1)),
      (λ e. omega (arith, e, b.1)),
      λ e. omega (arith, e, b.1),
    )

pub product-returns-in_err-end : goal.product-returns-in_err-end
product-returns-in_err-end t c =
    let e : c.from_residual.result ≡ Err c.in_err-end.field-0.0 = search rules in
    join_refused _ _ _ _ _ _ _ _ e c.in_err-end.ensures

pub product-starred-requires-in-loop-end : goal.product-starred-requires-in-loop-end
product-starred-requires-in-loop-end t c = let from = join_from _ _ _ _ _ _ c.loop-end.invariant in omega arith

pub product-returns-in_err-end-2 : goal.product-returns-in_err-end-2
product-returns-in_err-end-2 t c =
    let e : c.from_residual-in_err-end-2.result ≡ Err c.in_err-end-2.field-0.0 = search rules in
    join_refused _ _ _ _ _ _ _ _ e
    (rank_more _ _ Rank.Product _ _ _ _ _ c.loop-end-test.true (sym c.if-joins.true ∙ c.joins.ensures) c.loop-end.invariant c.in_err-end-2.ensures)

pub product-loop-end-smaller : goal.product-loop-end-smaller
product-loop-end-smaller t c =
    let from = join_from _ _ _ _ _ _ c.in_ok-end-2.ensures in
    let within = join_in _ _ _ _ _ _ c.in_ok-end-2.ensures in
    omega arith

pub product-loop-end-preserved : goal.product-loop-end-preserved
product-loop-end-preserved t c =
    rank_more _ _ Rank.Product _ _ _ _ _ c.loop-end-test.true (sym c.if-joins.true ∙ c.joins.ensures) c.loop-end.invariant c.in_ok-end-2.ensures

pub product-returns-else-joins : goal.product-returns-else-joins
product-returns-else-joins t c = rank_ends _ _ Rank.Product _ _ _ (λ l. sym c.joins.ensures ∙ c.if-joins.false) c.loop-end.invariant

pub product-returns-after-loop-end : goal.product-returns-after-loop-end
product-returns-after-loop-end t c = rank_ends _ _ Rank.Product _ _ _ (λ l. absurd (omega arith)) c.loop-end.invariant

pub term-returns-in_err-end : goal.term-returns-in_err-end
term-returns-in_err-end t c =
    let e : c.from_residual.result ≡ Err c.in_err-end.field-0.0 = search rules in
    join_refused _ _ _ _ _ _ _ _ e c.in_err-end.ensures

pub term-product-requires-in-loop-end : goal.term-product-requires-in-loop-end
term-product-requires-in-loop-end t c = let from = join_from _ _ _ _ _ _ c.loop-end.invariant in omega arith

pub term-returns-in_err-end-2 : goal.term-returns-in_err-end-2
term-returns-in_err-end-2 t c =
    let e : c.from_residual-in_err-end-2.result ≡ Err c.in_err-end-2.field-0.0 = search rules in
    join_refused _ _ _ _ _ _ _ _ e
    (rank_more _ _ Rank.Term _ _ _ _ _ c.loop-end-test.true (sym c.if-joins.true ∙ c.joins.ensures) c.loop-end.invariant c.in_err-end-2.ensures)

pub term-loop-end-smaller : goal.term-loop-end-smaller
term-loop-end-smaller t c =
    let from = join_from _ _ _ _ _ _ c.in_ok-end-2.ensures in
    let within = join_in _ _ _ _ _ _ c.in_ok-end-2.ensures in
    omega arith

pub term-loop-end-preserved : goal.term-loop-end-preserved
term-loop-end-preserved t c =
    rank_more _ _ Rank.Term _ _ _ _ _ c.loop-end-test.true (sym c.if-joins.true ∙ c.joins.ensures) c.loop-end.invariant c.in_ok-end-2.ensures

pub term-returns-else-joins : goal.term-returns-else-joins
term-returns-else-joins t c = rank_ends _ _ Rank.Term _ _ _ (λ l. sym c.joins.ensures ∙ c.if-joins.false) c.loop-end.invariant

pub term-returns-after-loop-end : goal.term-returns-after-loop-end
term-returns-after-loop-end t c = rank_ends _ _ Rank.Term _ _ _ (λ l. absurd (omega arith)) c.loop-end.invariant

pub sum-returns-in_err-end : goal.sum-returns-in_err-end
sum-returns-in_err-end t c =
    let e : c.from_residual.result ≡ Err c.in_err-end.field-0.0 = search rules in
    join_refused _ _ _ _ _ _ _ _ e c.in_err-end.ensures

pub sum-term-requires-in-loop-end : goal.sum-term-requires-in-loop-end
sum-term-requires-in-loop-end t c = let from = join_from _ _ _ _ _ _ c.loop-end.invariant in omega arith

pub sum-returns-in_err-end-2 : goal.sum-returns-in_err-end-2
sum-returns-in_err-end-2 t c =
    let e : c.from_residual-in_err-end-2.result ≡ Err c.in_err-end-2.field-0.0 = search rules in
    join_refused _ _ _ _ _ _ _ _ e
    (rank_more _ _ Rank.Sum _ _ _ _ _ c.loop-end-test.true (sym c.if-joins.true ∙ c.joins.ensures) c.loop-end.invariant c.in_err-end-2.ensures)

pub sum-loop-end-smaller : goal.sum-loop-end-smaller
sum-loop-end-smaller t c =
    let from = join_from _ _ _ _ _ _ c.in_ok-end-2.ensures in
    let within = join_in _ _ _ _ _ _ c.in_ok-end-2.ensures in
    omega arith

pub sum-loop-end-preserved : goal.sum-loop-end-preserved
sum-loop-end-preserved t c =
    rank_more _ _ Rank.Sum _ _ _ _ _ c.loop-end-test.true (sym c.if-joins.true ∙ c.joins.ensures) c.loop-end.invariant c.in_ok-end-2.ensures

pub sum-returns-else-joins : goal.sum-returns-else-joins
sum-returns-else-joins t c = rank_ends _ _ Rank.Sum _ _ _ (λ l. sym c.joins.ensures ∙ c.if-joins.false) c.loop-end.invariant

pub sum-returns-after-loop-end : goal.sum-returns-after-loop-end
sum-returns-after-loop-end t c = rank_ends _ _ Rank.Sum _ _ _ (λ l. absurd (omega arith)) c.loop-end.invariant

pub starred-returns-in_err-end : goal.starred-returns-in_err-end
starred-returns-in_err-end t c =
    let e : c.from_residual.result ≡ Err c.in_err-end.field-0.0 = search rules in
    join_atom_refused _ _ _ _ _ _ _ e c.in_err-end.ensures

pub starred-stars-requires : goal.starred-stars-requires
starred-stars-requires t c = atom_in _ _ _ _ _ c.in_ok-end.ensures

pub starred-returns : goal.starred-returns
starred-returns t c = join_stars _ _ _ _ _ _ c.in_ok-end.ensures c.stars.ensures
