-- The bytes that the machine takes for `&`, `-` and `^` are the grammar's, and have no other part in it; from the definitions.
use mathlib.Core.Path.{◌≡◌, refl, ap}
use mathlib.Core.Bool.{Bool, true, false, ◌||◌}
use Prim.Native.Nat.{ℕ}
use native.Mathlib.Omega.{arith}
use lib.Dec.{eqb}
use borrow.Author.Tests.{eqb-true}
use Rattle.model.specs.Policies.{Mix}
use Rattle.model.proofs.Bools.{no_true}
use Rattle.policy_text.specs.Lexicon.{Letter}
use Rattle.policy_text.specs.Grammar.{MixSign, m_both, m_minus, m_either}
use Rattle.policy_text.specs.Machine.{does_mix, mix_of}
use Rattle.policy_text.specs.Posts.{continues_product}

pub sign_is : {b : ℕ} {m : Mix} → MixSign b m → (does_mix b ≡ true) × (m ≡ mix_of b)
unfolding mix_of
sign_is m_both = (refl, refl)
sign_is m_minus = (refl, refl)
sign_is m_either = (refl, refl)

pub sign_of : (b : ℕ) → does_mix b ≡ true → MixSign b (mix_of b)
unfolding mix_of
sign_of b e = by (eqb b 38) (eqb b 45) (eqb b 94) refl refl refl e
  where
    by : (x y z : Bool) → eqb b 38 ≡ x → eqb b 45 ≡ y → eqb b 94 ≡ z → (x || y) || z ≡ true → MixSign b (mix_of b)
    by true y z f g h i = rw (eqb-true b 38 f) m_both
    by false true z f g h i = rw (eqb-true b 45 g) m_minus
    by false false true f g h i = rw (eqb-true b 94 h) m_either
    by false false false f g h i = absurd (no_true refl i)

-- a sign is no letter and no `!`
pub sign_other : {b : ℕ} {m : Mix} → MixSign b m → (Letter b → ⊥) × (b ≡ 33 → ⊥)
sign_other m_both = ((λ e. omega (arith, e.0)), λ e. omega arith)
sign_other m_minus = ((λ e. omega (arith, e.0)), λ e. omega arith)
sign_other m_either = ((λ e. omega (arith, e.0)), λ e. omega arith)

-- no sign makes a product longer
pub sign_after : (b : ℕ) → does_mix b ≡ true → continues_product b ≡ false
sign_after b e = by (eqb b 42) (eqb b 59) refl refl
  where
    by : (p q : Bool) → eqb b 42 ≡ p → eqb b 59 ≡ q → p || q ≡ false
    by true q f g = absurd (no_true (ap does_mix (eqb-true b 42 f)) e)
    by false true f g = absurd (no_true (ap does_mix (eqb-true b 59 g)) e)
    by false false f g = refl
