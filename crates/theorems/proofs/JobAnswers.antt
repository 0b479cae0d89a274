-- A call that a job asks for answers with a handle, yes or no, or a refusal. From the verdict of each call.
use mathlib.Core.Path.{◌≡◌, refl}
use mathlib.Core.Bool.{true}
use Prim.Native.Nat.{ℕ}
use Rattle.model.specs.Places.{fits_places}
use Rattle.model.specs.Programs.{Ran, run}
use Rattle.model.specs.Store.{Store, pick}
use Rattle.model.proofs.Bools.{by_test, no_true}
use Rattle.store_check.specs.Memory.{Memories, fields, decode}
use Rattle.store_check.specs.Valid.{is_store}
use Rattle.call_rules.specs.OnMemories.{on_store}
use Rattle.call_rules.specs.Outcome.{Verdict, gives, runs, guard, unless_declined, outcome, finishes}
use Rattle.call_rules.specs.declared.Answer.{Answer}
use Rattle.std.specs.Prelude.{Result, Ok, Err}
use Rattle.call_rules.specs.declared.Refusal.{Refusal}
use Rattle.call_rules.specs.Outcome.{Check}
use Rattle.call_rules.specs.declared.Refusal.TheVariants.{NotStore, UsedUp}
use Rattle.store.specs.Calls.{Call, new_store, set_call, set_read, relation_call, relation_read, image_call, filter_call, path_read, step}
use Rattle.store.specs.ImageCalls.{image_declines, filter_declines, path_declines}
use Rattle.store.specs.RelationCalls.{relation_declines, relation_read_declines}
use Rattle.store.specs.SetCalls.{set_declines, set_read_declines}
use Rattle.store.specs.declared.path_reads.PathRead.TheVariants as P
use Rattle.store.specs.declared.relation_reads.RelationRead.TheVariants as RR
use Rattle.store.specs.declared.set_reads.SetRead.TheVariants as SR
use Rattle.theorems.specs.JobLists.{HandleOrTruth, a_handle, a_truth, a_refusal, AnswersPlainly}
use Rattle.theorems.proofs.JobOperations.{is_job_call, asks_job_call}

-- A VERDICT whose answers are such
abbrev Plainly : Verdict (Result Answer Refusal) → Type 0
Plainly (gives a) = HandleOrTruth a
Plainly (runs p f) = (R : Ran) → HandleOrTruth (f R)

checked_plainly : (c : Check) (v : ℕ → Verdict (Result Answer Refusal)) → ((l : ℕ) → Plainly (v l)) → Plainly (unless_declined Err c v)
checked_plainly (Ok l) v h = h l
checked_plainly (Err r) v h = a_refusal r

finishes_plainly : {X : Type 0} (m n : ℕ) (v : Verdict (Result Answer Refusal)) (S : Store) (x : X) (put : Store → X) → Plainly v
    → HandleOrTruth (finishes (Err UsedUp) m n v S x put).answer
unfolding finishes
finishes_plainly m n (gives a) S x put h = h
finishes_plainly m n (runs p f) S x put h = let R = run p S in
    by_test (λ b. HandleOrTruth (pick b (outcome (f R) (put R.store)) (outcome (Err UsedUp) x)).answer) (fits_places m n R.store)
    (λ _. h R) (λ _. a_refusal UsedUp)

store_plainly : (v : ℕ → Store → Verdict (Result Answer Refusal)) (M : Memories) → ((k : ℕ) (S : Store) → Plainly (v k S))
    → HandleOrTruth (on_store Err v M).answer
unfolding on_store
store_plainly v M h = finishes_plainly _ _ _ (decode M) M _
    (checked_plainly (guard NotStore (is_store M) (Ok (fields M))) (λ k. v k (decode M)) (λ k. h k (decode M)))

-- A CALL, by its verdict
call_plainly : (c : Call) → is_job_call c ≡ true → (M : Memories) → HandleOrTruth (step c M).answer
unfolding step
call_plainly (new_store k) t M = absurd (no_true refl t)
call_plainly (set_call c) t M = store_plainly _ M (λ k S. checked_plainly (set_declines k c S) _ (λ l R. a_handle R.value))
call_plainly (set_read (SR.Get a)) t M = absurd (no_true refl t)
call_plainly (set_read (SR.Complement a)) t M = store_plainly _ M (λ k S. checked_plainly (set_read_declines k (SR.Complement a) S) _ (λ l. a_handle _))
call_plainly (set_read (SR.IsZero a)) t M = store_plainly _ M (λ k S. checked_plainly (set_read_declines k (SR.IsZero a) S) _ (λ l. a_truth _))
call_plainly (set_read (SR.Intersects a b)) t M = store_plainly _ M (λ k S. checked_plainly (set_read_declines k (SR.Intersects a b) S) _ (λ l. a_truth _))
call_plainly (set_read (SR.Next c)) t M = absurd (no_true refl t)
call_plainly (relation_call c) t M = store_plainly _ M (λ k S. checked_plainly (relation_declines k c S) _ (λ l R. a_handle R.value))
call_plainly (relation_read (RR.Get a)) t M = absurd (no_true refl t)
call_plainly (relation_read (RR.IsZero a)) t M = store_plainly _ M (λ k S. checked_plainly (relation_read_declines k (RR.IsZero a) S) _ (λ l. a_truth _))
call_plainly (relation_read (RR.Relates a p q)) t M =
    store_plainly _ M (λ k S. checked_plainly (relation_read_declines k (RR.Relates a p q) S) _ (λ l. a_truth _))
call_plainly (image_call c) t M = store_plainly _ M (λ k S. checked_plainly (image_declines k c S) _ (λ l R. a_handle R.value))
call_plainly (filter_call c) t M = store_plainly _ M (λ k S. checked_plainly (filter_declines k c S) _ (λ l R. a_handle R.value))
call_plainly (path_read (P.HasImage p a)) t M = store_plainly _ M (λ k S. checked_plainly (path_declines k (P.HasImage p a) S) _ (λ l. a_truth _))
call_plainly (path_read (P.HasPath p a q)) t M = store_plainly _ M (λ k S. checked_plainly (path_declines k (P.HasPath p a q) S) _ (λ l. a_truth _))
call_plainly (path_read (P.FirstPath p a q)) t M = absurd (no_true refl t)

pub answers_plainly : AnswersPlainly
answers_plainly j a b c d e M = call_plainly d (asks_job_call j a b c d e) M
