-- A call that was matched: what holds of its variant holds of it. An arm of several variants says that the call is one of them.
-- And the error arm of `?`.
use mathlib.Core.Path.{◌≡◌, sym, ap, ◌∙◌, subst}
use mathlib.Core.Logic.{◌⊎◌, inl, inr}
use Rattle.std.specs.Prelude.{Result, Ok, Err, IsErrAnd}
use Rattle.call_rules.specs.Outcome.{Outcome, outcome}
use Rattle.call_rules.specs.declared.Refusal.{Refusal}

module _ {C : Type 0} (P : C → Type 0) {c v : C} where
  pub of_arm : c ≡ v → P v → P c
  of_arm e t = subst P (sym e) t

  pub or_arm : {R : Type 0} → (c ≡ v) ⊎ R → P v → (R → P c) → P c
  or_arm s t f = elim s [ inl e ↦ of_arm e t | inr r ↦ f r ]

-- the error arm of `?`: the call is declined as its check was
pub declined_as : {A X : Type 0} {x : X} {t : Outcome (Result A Refusal) X} (a : Result A Refusal) (r : Refusal) → IsErrAnd a (λ q. q ≡ r)
    → outcome (Err r) x ≡ t → outcome a x ≡ t
declined_as (Ok b) r e f = absurd e
declined_as {x = x} (Err q) r e f = ap (λ q. outcome (Err q) x) e ∙ f
