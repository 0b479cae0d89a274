-- `read_relation` moves the run over what follows N: by `=` or `:=`, then `read_bit`.
use borrow.Author.Tests.{eq-eqb, ne_eqb}
use native.Mathlib.Omega.{arith}
use mathlib.Core.Path.{◌≡◌, refl, ◌∙◌}
use mathlib.Core.Bool.{false, true}
use Prim.Native.Nat.{◌+◌}
use lib.ListN.{get_or}
use Rattle.std.proofs.Common.{rules, Err}
use Rattle.policy_text.specs.Machine.{inside, bit, colon, final, byte_step, mid_step, mid_go, after_name}
use Rattle.policy_text.specs.Posts.{RelationPost}
use Rattle.policy_text.proofs.Moves.{atom_end, atom_go, atom_stop}
use Rattle.policy_text.proofs.syntax.read_relation.Goals as goal

pub returns-in_err-byte : goal.returns-in_err-byte
unfolding final RelationPost
returns-in_err-byte c =
    let e : c.from_residual.result ≡ Err c.in_err-byte.field-0.0 = search rules in
    λ s n d w f. atom_end _ _ d _ _ _ _ e c.in_err-byte.ensures (λ sa pa m σ. refl)

pub returns-in-61 : goal.returns-in-61
unfolding byte_step mid_step mid_go after_name RelationPost
returns-in-61 c =
    let a = get_or c.args.text.now c.args.at 0 in
    let b = c.in_ok-byte.ensures in
    λ s n d w f. atom_go _ _ d _ (inside (bit false n)) _ _ b.0 (λ sa pa m σ. simp (f b.0, w, eq-eqb _ _ (b.1 ∙ c.in-61.is)))
    (c.read_bit.ensures false n d)

pub returns-in_err-byte-in-58 : goal.returns-in_err-byte-in-58
unfolding byte_step mid_step mid_go after_name final RelationPost
returns-in_err-byte-in-58 c =
    let e : c.from_residual-in_err-byte-in-58.result ≡ Err c.in_err-byte-in-58.field-0.0 = search rules in
    let a = get_or c.args.text.now c.args.at 0 in
    let b = c.in_ok-byte.ensures in
    λ s n d w f. atom_go _ _ d _ (inside (colon n)) _ _ b.0
    (λ sa pa m σ. simp (f b.0, w, eq-eqb a 58 (b.1 ∙ c.in-58.is), ne_eqb a 61 (λ e. omega (arith, e, b.1, c.in-58.is))))
    (atom_end _ _ d _ _ _ _ e c.in_err-byte-in-58.ensures (λ sa pa m σ. refl))

pub returns-then-branch-eq61 : goal.returns-then-branch-eq61
unfolding byte_step mid_step mid_go after_name RelationPost
returns-then-branch-eq61 c =
    let a = get_or c.args.text.now c.args.at 0 in
    let b = c.in_ok-byte.ensures in
    let b2 = c.in_ok-byte-in-58.ensures in
    λ s n d w f. atom_go _ _ d _ (inside (colon n)) _ _ b.0
    (λ sa pa m σ. simp (f b.0, w, eq-eqb a 58 (b.1 ∙ c.in-58.is), ne_eqb a 61 (λ e. omega (arith, e, b.1, c.in-58.is))))
    (atom_go _ _ d _ (inside (bit true n)) _ _ b2.0 (λ sa pa m σ. simp (eq-eqb _ _ (b2.1 ∙ c.if-branch-eq61.true)))
    (c.read_bit-then-branch-eq61.ensures true n d))

pub returns-else-branch-eq61 : goal.returns-else-branch-eq61
unfolding byte_step mid_step mid_go after_name RelationPost
returns-else-branch-eq61 c =
    let a = get_or c.args.text.now c.args.at 0 in
    let b = c.in_ok-byte.ensures in
    let b2 = c.in_ok-byte-in-58.ensures in
    λ s n d w f. atom_go _ _ d _ (inside (colon n)) _ _ b.0
    (λ sa pa m σ. simp (f b.0, w, eq-eqb a 58 (b.1 ∙ c.in-58.is), ne_eqb a 61 (λ e. omega (arith, e, b.1, c.in-58.is))))
    (atom_stop _ _ d _ _ _ b2.0 c.not_policy.ensures
    (λ sa pa m σ. simp (ne_eqb (get_or c.args.text.now (c.args.at + 1) 0) 61 (λ e. c.if-branch-eq61.false (omega (arith, e, b2.1))))))

pub returns-in_default : goal.returns-in_default
unfolding byte_step mid_step mid_go after_name RelationPost
returns-in_default c =
    let a = get_or c.args.text.now c.args.at 0 in
    let b = c.in_ok-byte.ensures in
    λ s n d w f. atom_stop _ _ d _ _ _ b.0 c.not_policy-in_default.ensures
    (λ sa pa m σ. simp (f b.0, w, ne_eqb a 61 (λ e. omega (arith, e, b.1)), ne_eqb a 58 (λ e. omega (arith, e, b.1))))
