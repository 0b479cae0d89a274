-- The law for one call, of all 45: on memories that match a plain store it gives the same answer and adds as many nodes, they match again,
-- and handles last unless `new` is accepted. From the law for the store's calls, and for a text from what its program leaves.
use mathlib.Core.Path.{◌≡◌}
use mathlib.Core.List.{List}
use Prim.Native.Nat.{ℕ}
use Rattle.model.specs.Store.{set, rel}
use Rattle.store_check.specs.Memory.{Memories}
use Rattle.call_rules.specs.Added.{node_counts, held_in}
use Rattle.call_rules.specs.OnMemories.{set_places, rel_places}
use Rattle.theorems.specs.Lists.{Matches, Alike, CallRight}
use Rattle.theorems.specs.PlainStore.{Plain, lengths, plain_policy_step}
use Rattle.theorems.proofs.Matching.{matches_count}
use Rattle.theorems.proofs.OneCall.{Sound, Grown, map_answer_alike, verdict_alike, verdict_grown, grown_continues, call_grown, call_right}
use Rattle.theorems.specs.AllCalls.{AnyCall, call, policy, answered, read, any_refusal, any_step, plain_any_step, effect, nodes_added}
use Rattle.theorems.specs.AllCalls.{AnyContinues, all_calls}
use Rattle.policies.specs.Outcome.{refused, text_verdict, policy_step}
use Rattle.theorems.proofs.OneText.{kept_does}
use Rattle.theorems.proofs.KeptTexts.{builds_kept}

text_sound : (t : List ℕ) → Sound (text_verdict t)
text_sound t = record { formed = λ k S p f F e. (kept_does F (builds_kept k t S p f e)).after.formed }

module _ {M₀ M : Memories} {P : Plain} (A : Matches M₀ M P) where
  pub policy_alike : (t : List ℕ) → Alike M₀ (policy_step t M) (plain_policy_step (set_places M₀) (rel_places M₀) t P)
  unfolding policy_step plain_policy_step
  policy_alike t = verdict_alike A refused (text_verdict t) (text_sound t)

  pub any_alike : (c : AnyCall) → Alike M₀ (any_step c M) (plain_any_step (set_places M₀) (rel_places M₀) c P)
  unfolding any_step plain_any_step
  any_alike (call c) = map_answer_alike answered (call_right A c).alike
  any_alike (policy t) = map_answer_alike read (policy_alike t)

  pub any_grown : (c : AnyCall) → AnyContinues c M → Grown P (plain_any_step (set_places M₀) (rel_places M₀) c P).state
  unfolding plain_any_step plain_policy_step
  any_grown (call c) g = call_grown A c g
  any_grown (policy t) g = verdict_grown refused (set_places M₀) (rel_places M₀) (text_verdict t) P

  -- memories that match hold as many nodes as the lists
  counts_alike : {X : Memories} {Q : Plain} → Matches M₀ X Q → held_in X ≡ lengths Q
  counts_alike B = λ i. node_counts (matches_count B rel i) (matches_count B set i)

  -- THE LAW FOR ONE CALL
  pub any_right : (c : AnyCall) → CallRight all_calls M₀ M P c
  any_right c = let r = any_alike c in record {
    alike = record {
      answer = λ i. (r.answer i, nodes_added (effect c) (any_refusal (r.answer i)) (counts_alike A i) (counts_alike r.matches i));
      matches = r.matches;
    };
    continues = λ g. grown_continues (any_grown c g);
  }
