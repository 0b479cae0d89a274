-- `read_bit` moves the run over b: by the byte.
use borrow.Author.Tests.{ne_eqb}
use native.Mathlib.Omega.{arith}
use mathlib.Core.Path.{◌≡◌, refl}
use mathlib.Core.Logic.{◌⊎◌, inl, inr}
use Prim.Native.Nat.{◌<◌}
use lib.ListN.{get_or}
use Rattle.std.proofs.Common.{rules, Err}
use Rattle.policy_text.specs.Machine.{final, byte_step, mid_step, mid_go}
use Rattle.policy_text.proofs.Moves.{atom_end, atom_bit, atom_stop}
use Rattle.policy_text.proofs.syntax.read_bit.Goals.{in_default-via-then-branch-lt48, in_default-via-else-branch-lt48+else-this-lt50}
use Rattle.policy_text.proofs.syntax.read_bit.Goals as goal

pub returns-in_err-byte : goal.returns-in_err-byte
unfolding final
returns-in_err-byte c =
    let e : c.from_residual.result ≡ Err c.in_err-byte.field-0.0 = search rules in
    λ k n d. atom_end _ _ d _ _ _ _ e c.in_err-byte.ensures (λ sa pa m σ. refl)

pub returns-in-48 : goal.returns-in-48
returns-in-48 c = let b = c.in_ok-byte.ensures in λ k n d. atom_bit _ _ d k n _ b.0 (omega (arith, b.1)) (omega (arith, b.1))

pub returns-in_default : goal.returns-in_default
unfolding byte_step mid_step mid_go
returns-in_default c =
    let a = get_or c.args.text.now c.args.at 0 in
    let b = c.in_ok-byte.ensures in
    let f : a < 48 ⊎ 49 < a = elim c.in_default.branch [
      | in_default-via-then-branch-lt48 w ↦ inl (omega (arith, b.1))
      | in_default-via-else-branch-lt48+else-this-lt50 w ↦ inr (omega (arith, b.1))
    ] in
    λ k n d. atom_stop _ _ d _ _ _ b.0 c.not_policy.ensures
    (λ sa pa m σ. simp (ne_eqb a 48 (λ e. omega (arith, e, f)), ne_eqb a 49 (λ e. omega (arith, e, f))))
