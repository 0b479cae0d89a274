-- On memories that are no store a policy is declined with 1, and leaves them as they are.
use Rattle.std.specs.Prelude.{◌≡◌, false, List, ℕ}
use Rattle.store_check.specs.Memory.{Memories}
use Rattle.store_check.specs.Valid.{is_store}
use Rattle.call_rules.specs.Outcome.{outcome}
use Rattle.call_rules.specs.declared.Refusal.TheVariants.{NotStore}
use Rattle.call_rules.proofs.Outcomes.{not_store}
use Rattle.policies.specs.Outcome.{refused, text_verdict, policy_step}

pub policy_no_store : (t : List ℕ) (M : Memories) → is_store M ≡ false → outcome (refused NotStore) M ≡ policy_step t M
unfolding policy_step
policy_no_store t M e = not_store refused (text_verdict t) M e
