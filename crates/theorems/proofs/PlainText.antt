-- The plain store steps on a text by the grammar alone: from the verdict of a text, which runs a program exactly where the text keeps the rules.
use mathlib.Core.Path.{◌≡◌, refl, ap}
use mathlib.Core.List.{List}
use Prim.Native.Nat.{ℕ}
use Rattle.call_rules.specs.Outcome.{Verdict, gives, runs, outcome, finishes}
use Rattle.call_rules.specs.declared.Refusal.TheVariants.{UsedUp}
use Rattle.policies.specs.Outcome.{refused, text_verdict}
use Rattle.policies.specs.Answers.{PolicyAnswer}
use Rattle.std.specs.Prelude.{Ok, Err}
use Rattle.policies.specs.declared.PolicyRefusal.{PolicyRefusal}
use Rattle.theorems.specs.AllCalls.{WithinRules}
use Rattle.theorems.specs.PlainStore.{Plain, plain_store, on_lists, plain_policy_step}
use Rattle.theorems.specs.PlainText.{PlainText}
use Rattle.theorems.proofs.KeptTexts.{NoHandle, text_none, builds_kept, kept_builds}

module _ (m n : ℕ) (t : List ℕ) (P : Plain) where
  pub plain_text : PlainText m n t P (plain_policy_step m n t P)
  unfolding plain_policy_step on_lists finishes
  plain_text = record {
    kept = λ r. ap (λ v. finishes (refused UsedUp) m n v P.lists P (plain_store P.width)) (kept_builds P.width t P.lists r);
    other = λ away. by_verdict away (text_verdict t P.width P.lists) refl (text_none P.width t P.lists);
  }
    where
      by_verdict : ¬ WithinRules P.width t → (v : Verdict PolicyAnswer) → text_verdict t P.width P.lists ≡ v → NoHandle v
          → (r : PolicyRefusal) × (finishes (refused UsedUp) m n v P.lists P (plain_store P.width) ≡ outcome (Err r) P)
      by_verdict away (gives (Ok h)) e o = absurd o
      by_verdict away (gives (Err r)) e o = (r, refl)
      by_verdict away (runs p f) e o = absurd (away (builds_kept P.width t P.lists p f e).keeps)
