-- The offset that a policy's refusal carries is at most 4,096, so it fits half an answer: from what each reading of a text says.
use mathlib.Core.Path.{◌≡◌, sym, subst}
use mathlib.Core.List.{List}
use Prim.Native.Nat.{ℕ, ◌≤◌}
use native.Mathlib.Omega.{arith}
use lib.Dec.{T, leb→le}
use lib.ListN.{length}
use Rattle.model.specs.Places.{fits_places}
use Rattle.model.specs.Programs.{Ran, run}
use Rattle.model.specs.Store.{Store as Nodes, pick}
use Rattle.model.proofs.Bools.{by_test}
use Rattle.store_check.specs.Memory.{Memories, fields, decode, encode}
use Rattle.store_check.specs.Valid.{is_store}
use Rattle.call_rules.specs.OnMemories.{set_places, rel_places, on_store}
use Rattle.call_rules.specs.Outcome.{Verdict, gives, runs, guard, unless_declined, outcome, finishes}
use Rattle.call_rules.specs.declared.Refusal.TheVariants.{NotStore, TooLong, UsedUp}
use Rattle.policy_text.specs.XForms.{x_forms}
use Rattle.std.specs.Prelude.{Ok, Err}
use Rattle.policy_text.specs.Answers.{Faulty, Says}
use Rattle.policy_text.specs.Misreads.{Reading}
use Rattle.policy_text.specs.Reading.{reading}
use Rattle.policy_text.specs.declared.Fault.{Fault}
use Rattle.policy_text.proofs.XLaws.{x_lawful, x_bounds}
use Rattle.policy_text.proofs.Says.{says}
use Rattle.policies.specs.Outcome.{refused, of_reading, is_short, text_verdict, policy_step, most_bytes}
use Rattle.policies.specs.Answers.{PolicyAnswer}
use Rattle.packet_store.specs.PackedPolicy.{offset}

-- the outcome of any verdict has an offset of at most n
abbrev OffsetBy : ℕ → Verdict PolicyAnswer → Type 0
OffsetBy n (gives a) = offset a ≤ n
OffsetBy n (runs p f) = (R : Ran) → offset (f R) ≤ n

-- each fault is inside the text, or at its end
fault_inside : (k : ℕ) (t : List ℕ) (f : Fault) (i : ℕ) → Faulty x_forms k t f i → i ≤ length t
unfolding Faulty
fault_inside k t Fault.NotPolicy i s = s.inside
fault_inside k t Fault.TooDeep i s = let h = s.inside in omega arith
fault_inside k t Fault.NoField i s = let h = s.inside in omega arith
fault_inside k t Fault.NotPredicate i s = let h = s.inside in omega arith

reading_inside : (k : ℕ) (t : List ℕ) (r : Reading) → Says x_forms k t r → OffsetBy (length t) (of_reading k t r)
unfolding Says of_reading
reading_inside k t (Ok u) s = λ R. omega arith
reading_inside k t (Err m) s = fault_inside k t m.fault m.at s

more : (n : ℕ) (v : Verdict PolicyAnswer) → n ≤ most_bytes → OffsetBy n v → OffsetBy most_bytes v
more n (gives a) h o = omega arith
more n (runs p f) h o = λ R. let i = o R in omega arith

verdict_short : (k : ℕ) (t : List ℕ) (S : Nodes) → OffsetBy most_bytes (text_verdict t k S)
unfolding text_verdict
verdict_short k t S = by_test (λ b. OffsetBy most_bytes (pick b (of_reading k t (reading x_forms k t)) (gives (refused TooLong)))) (is_short t)
    (λ s. more (length t) (of_reading k t (reading x_forms k t)) (leb→le (length t) most_bytes (subst T (sym s) tt))
    (reading_inside k t (reading x_forms k t) (says x_lawful k (x_bounds k) t)))
    (λ s. omega arith)

finishes_offset : {X : Type 0} (m n : ℕ) (S : Nodes) (x : X) (put : Nodes → X) (v : Verdict PolicyAnswer) → OffsetBy most_bytes v
    → offset (finishes (refused UsedUp) m n v S x put).answer ≤ most_bytes
unfolding finishes
finishes_offset m n S x put (gives a) o = o
finishes_offset m n S x put (runs p f) o =
    by_test (λ b. offset (pick b (outcome (f (run p S)) (put (run p S).store)) (outcome (refused UsedUp) x)).answer ≤ most_bytes)
    (fits_places m n (run p S).store) (λ _. o (run p S)) (λ _. omega arith)

module _ (t : List ℕ) (M : Memories) where
  step_short : offset (policy_step t M).answer ≤ most_bytes
  unfolding policy_step on_store guard
  step_short = by_test (λ b. offset (finishes (refused UsedUp) (set_places M) (rel_places M)
      (unless_declined refused (guard NotStore b (Ok (fields M))) (λ k. text_verdict t k (decode M))) (decode M) M (λ S. encode (fields M) S M)).answer
      ≤ most_bytes)
      (is_store M)
      (λ _. finishes_offset (set_places M) (rel_places M) (decode M) M (λ S. encode (fields M) S M) _ (verdict_short (fields M) t (decode M)))
      (λ _. finishes_offset (set_places M) (rel_places M) (decode M) M (λ S. encode (fields M) S M) (gives (refused NotStore)) (omega arith))

  -- THE CLAIM, of what a policy call answers
  pub short_offset : (a : PolicyAnswer) → a ≡ (policy_step t M).answer → offset a ≤ most_bytes
  short_offset a e = subst (λ b. offset b ≤ most_bytes) (sym e) step_short
