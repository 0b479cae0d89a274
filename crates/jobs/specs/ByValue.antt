-- What the functions say that take a job, or what a call begins with, by value.
use Rattle.std.specs.Prelude.{◌≡◌, List, ℕ, ◌-◌, ◌*◌, ◌^◌, ltb, leb, length, replicate, Result, Ok, Err}
use Rattle.model.specs.Store.{pick}
use Rattle.store_check.specs.Memory.{Memories}
use Rattle.store_check.specs.Valid.{is_store}
use Rattle.call_rules.specs.Added.{held_in, less}
use Rattle.call_rules.specs.Answers.{refusal_number}
use Rattle.call_rules.specs.Outcome.{outcome}
use Rattle.call_rules.specs.declared.Refusal.TheVariants.{NotStore, OutOfRange}
use Rattle.packing.specs.Packed.{with_added}
use Rattle.packing.specs.declared.AddedReply.{AddedReply}
use Rattle.store.specs.Calls.{step}
use Rattle.jobs.specs.Operations.{as_call}
use Rattle.jobs.specs.Jobs.{not_run, set_handle, relation_handle, yes_or_no, refused, Asks, calls, refuses, carried_out, turn, take_turn, most_jobs}
use Rattle.jobs.specs.declared.Job.{Job}
use Rattle.jobs.specs.declared.begins.Begun.{Begun}
use Rattle.jobs.specs.declared.operations.StoreCall.{StoreCall}
use Rattle.jobs.specs.declared.turns.JobRefusal.{JobRefusal}
use Rattle.jobs.specs.declared.turns.JobRefusal.TheVariants.{NoSuchAnswer, UnknownOperation}
use Rattle.jobs.specs.declared.turns.Kind.{Kind}
use Rattle.jobs.specs.declared.turns.Kind.TheVariants.{NotRun, SetHandle, RelationHandle, YesOrNo, Refused}
use Rattle.jobs.specs.declared.turns.Places.{Places}
use Rattle.jobs.specs.declared.turns.Tally.{Tally}
use Rattle.jobs.specs.declared.turns.Turned.{Turned}

abbrev pub zeros : List ℕ → List ℕ
zeros w = replicate (length w) 0

-- the place of the earlier job that a number names; i, where it names none that is earlier than job i
abbrev pub place_of : ℕ → ℕ → ℕ
place_of n i = pick (ltb n i) n i

abbrev pub places_of : Job → ℕ → Places
places_of j i = record { a = place_of j.a.number i; b = place_of j.b.number i; c = place_of j.c.number i }

-- the number of a kind of answer
abbrev pub kind_number : Kind → ℕ
kind_number NotRun = not_run
kind_number SetHandle = set_handle
kind_number RelationHandle = relation_handle
kind_number YesOrNo = yes_or_no
kind_number Refused = refused

-- the number that a job is refused with
abbrev pub job_refusal_number : JobRefusal → ℕ
job_refusal_number NoSuchAnswer = 11
job_refusal_number UnknownOperation = 12

abbrev pub as_asks : Result StoreCall JobRefusal → Asks
as_asks (Ok c) = calls (as_call c)
as_asks (Err r) = refuses (job_refusal_number r)

-- the job j, which asks for this, is run on the memories M: r is the job with its answer, and M' are the memories after it; zeros in the working
-- memory stay
pub record CarriesOut (j : Job) (asked : Asks) (M M' : Memories) (w w' : List ℕ) (r : Job) : Type 0 where
  pub outcome_is : outcome r M' ≡ carried_out step j asked M
  pub zeros_stay : w ≡ zeros w → w' ≡ zeros w

-- the job j has its turn, n jobs being left to run
pub record TakesTurn (n : ℕ) (j a b c : Job) (M M' : Memories) (w w' : List ℕ) (r : Turned) : Type 0 where
  pub turn_is : turn r.job r.tally.left M' ≡ take_turn step n j a b c M
  pub held_is : r.tally.held ≡ held_in M'
  pub zeros_stay : w ≡ zeros w → w' ≡ zeros w

-- how a call begins on n jobs: its turns, or the number that it is declined with
abbrev pub judged : Memories → ℕ → Result ℕ ℕ
judged M n = pick (is_store M) (pick (leb n most_jobs) (Ok n) (Err (refusal_number OutOfRange))) (Err (refusal_number NotStore))

abbrev pub begun_of : Memories → ℕ → ℕ → Begun
begun_of M n limit = record { turns = judged M n; tally = record { left = limit; held = held_in M } }

-- how it ends: the number n of jobs run, or the refusal in the high half, and the nodes added
abbrev pub in_halves : Result ℕ ℕ → ℕ → ℕ
in_halves (Ok m) n = n
in_halves (Err r) n = r * 2 ^ 32

abbrev pub concluded : Begun → Tally → AddedReply
concluded b t = with_added (in_halves b.turns (b.tally.left - t.left)) (less t.held b.tally.held)
