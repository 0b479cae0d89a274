-- `mixed` performs the operation that its sign stands for: by the comparisons with `&` and `-`.
use mathlib.Core.Path.{◌≡◌, ap}
use Prim.Native.Nat.{ℕ}
use native.Mathlib.Omega.{arith}
use borrow.Author.Tests.{eq-eqb, ne_eqb}
use Rattle.model.specs.Store.{rel}
use Rattle.model.specs.Operations.{intersect, xor, difference}
use Rattle.model.specs.Policies.{mix_program}
use Rattle.memory.proofs.Steps.{performs_by}
use Rattle.policy_text.specs.Machine.{mix_of}
use Rattle.policy_build.proofs.mixed.Goals as goal

module _ (b k x y : ℕ) where
  is_both : b ≡ 38 → mix_program (mix_of b) k x y ≡ intersect rel k x y
  unfolding mix_of mix_program
  is_both e = simp (eq-eqb b 38 e)

  is_minus : b ≡ 45 → mix_program (mix_of b) k x y ≡ difference rel k x y
  unfolding mix_of mix_program
  is_minus e = ap (λ b. mix_program (mix_of b) k x y) e

  is_either : (b ≡ 38 → ⊥) → (b ≡ 45 → ⊥) → mix_program (mix_of b) k x y ≡ xor rel k x y
  unfolding mix_of mix_program
  is_either e f = simp (ne_eqb b 38 e, ne_eqb b 45 f)

pub returns-in-38 : goal.returns-in-38
returns-in-38 c = performs_by (is_both _ _ _ _ c.in-38.is) c.intersect.ensures

pub returns-in-45 : goal.returns-in-45
returns-in-45 c = performs_by (is_minus _ _ _ _ c.in-45.is) c.difference.ensures

pub returns-in_default : goal.returns-in_default
returns-in_default c = performs_by (is_either _ _ _ _ (λ e. omega arith) (λ e. omega arith)) c.xor.ensures
