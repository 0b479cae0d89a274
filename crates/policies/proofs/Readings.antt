-- A text that reads as no policy is answered, on any store, with its reading's number and values, and leaves the memories: from the outcome by its reading.
use mathlib.Core.Path.{◌≡◌, refl, ◌∙◌, subst}
use mathlib.Core.Bool.{true}
use mathlib.Core.List.{List}
use Prim.Native.Nat.{ℕ}
use Rattle.store_check.specs.Memory.{Memories, fields, decode}
use Rattle.store_check.specs.Valid.{IsStore}
use Rattle.call_rules.specs.Outcome.{gives, Outcome}
use Rattle.policy_text.specs.XForms.{x_forms}
use Rattle.policy_text.specs.Answers.{reading_refusal, reading_values}
use Rattle.policy_text.specs.Reading.{reading}
use Rattle.policy_text.specs.Misreads.{Reading}
use Rattle.std.specs.Prelude.{Ok, Err}
use Rattle.policies.specs.Answers.{PolicyAnswer, policy_refusal, policy_values}
use Rattle.policies.specs.Outcome.{of_reading, is_short, policy_step}
use Rattle.policies.proofs.BuiltTexts.{short_verdict, policy_refused}

-- the answer a has the number and the values of the reading r
pub record Carries (r : Reading) (a : PolicyAnswer) : Type 0 where
  pub refusal : policy_refusal a ≡ reading_refusal r
  pub values : policy_values a ≡ reading_values r

pub refusal_known : (k : ℕ) (t : List ℕ) (r : Reading) → ¬ (reading_refusal r ≡ 0) → (a : PolicyAnswer) × (of_reading k t r ≡ gives a) × Carries r a
unfolding of_reading
refusal_known k t (Ok u) n = absurd (n refl)
refusal_known k t (Err m) n = (_, refl, record { refusal = refl; values = refl })

pub reading_known : (t : List ℕ) (M : Memories) → IsStore M → is_short t ≡ true → (r : Reading) → reading x_forms (fields M) t ≡ r → ¬ (reading_refusal r ≡ 0)
    → Carries r (policy_step t M).answer × ((policy_step t M).state ≡ M)
reading_known t M s h r e n =
    let w = refusal_known (fields M) t r n in
    let f = policy_refused t M s w.0 (short_verdict (fields M) t (decode M) r h e ∙ w.1) in
    subst (λ (x : Outcome PolicyAnswer Memories). Carries r x.answer × (x.state ≡ M)) f (w.2, refl)
