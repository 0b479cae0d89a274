-- LISTS OF JOBS: what 02, M-106, says of them, over any state and any way to make a call, so of memories and of the plain store.
use Rattle.std.specs.Prelude.{◌≡◌, List, [], ◌∷◌, ◌++◌, map, Bool, true, false, ℕ, suc, ◌+◌, ◌-◌, min, ◌≤◌, ◌<◌, length, get_or, take, Result, Ok, Err}
use Rattle.model.specs.Store.{pick}
use Rattle.store_check.specs.Memory.{Memories}
use Rattle.call_rules.specs.Outcome.{Outcome, outcome}
use Rattle.call_rules.specs.declared.Answer.{Answer}
use Rattle.call_rules.specs.declared.Answer.TheVariants.{Handle, Truth}
use Rattle.call_rules.specs.declared.Refusal.{Refusal}
use Rattle.store.specs.Calls.{Call, step}
use Rattle.jobs.specs.Jobs.{is_waiting, refused, answer_kind, answer_value, with_answer, named, Asks, calls, refuses, asks, Progress, run_jobs}
use Rattle.jobs.specs.Jobs.{Called, ran_jobs, declined, JobsAnswer, most_jobs, jobs_on}
use Rattle.jobs.specs.Operations.{numbered}
use Rattle.jobs.specs.declared.Job.{Job}
use Rattle.jobs.specs.declared.Operand.{Operand}
use Rattle.jobs.specs.declared.operations.Slot.{Slot}
use Rattle.jobs.specs.declared.operations.Slot.TheVariants.{Spare, Set, Relation, Number}
use Rattle.theorems.specs.Lists.{Listed, in_turn, answer_of, left_by}

-- the jobs that are not run yet
unfoldable pub waiting : List Job → ℕ
waiting [] = 0
waiting (j ∷ js) = pick (is_waiting j) (suc (waiting js)) (waiting js)

-- what the job j asks for, after the jobs that are done
abbrev pub asks_after : List Job → Job → Asks
asks_after done j = asks j (named done j j.a) (named done j j.b) (named done j j.c)

-- ONE CALL with the limit n on the jobs js and the state x
module _ {X : Type 0} (act : Call → X → Outcome (Result Answer Refusal) X) (js : List Job) (n : ℕ) (x : X) where
  abbrev pub jobs_after : List Job
  jobs_after = (jobs_on act js n x).answer.jobs

  pub record RunInOrder : Type 0 where
    -- "returns how many it ran: the smaller of that number and the jobs not run at entry"
    pub number : length js ≤ most_jobs → (jobs_on act js n x).answer.called ≡ ran_jobs (min n (waiting js))
    pub long : length jobs_after ≡ length js
    -- "runs, in list order, the jobs not yet run up to the number given": a job that has fewer than n such before it has its answer
    pub runs : length js ≤ most_jobs → (i : ℕ) (d : Job) → i < length js → waiting (take i js) < n → is_waiting (get_or jobs_after i d) ≡ false
    -- all other records stay: those that were run at entry, and those that have n such before them
    pub stays : (i : ℕ) (d : Job) → is_waiting (get_or js i d) ≡ false → get_or jobs_after i d ≡ get_or js i d
    pub beyond : (i : ℕ) (d : Job) → n ≤ waiting (take i js) → get_or jobs_after i d ≡ get_or js i d

-- EACH JOB that is run. The jobs `before` it are run first, with the limit n; `so_far` has them, how many more may be run, and the state then
module _ {X : Type 0} (act : Call → X → Outcome (Result Answer Refusal) X) (n : ℕ) (before later : List Job) (j : Job) (x : X) where
  abbrev pub so_far : Progress X
  so_far = run_jobs act n [] before x

  abbrev pub all_run : Progress X
  all_run = run_jobs act n [] (before ++ (j ∷ later)) x

  -- "the answer of an earlier job" is the one that it has by then
  abbrev pub its_asks : Asks
  its_asks = asks_after so_far.jobs j

  -- its record is r, whatever the later jobs do, and they run on the state y with one run less
  pub record RunTo (r : Job) (y : X) : Type 0 where
    pub answer : (d : Job) → get_or all_run.jobs (length before) d ≡ r
    pub onward : all_run ≡ run_jobs act (so_far.left - 1) (so_far.jobs ++ (r ∷ [])) later y

  -- "each job run is a call of its own"; "A refused job keeps its refusal as its answer and the list goes on"
  pub record JobRun : Type 0 where
    pub makes_call : is_waiting j ≡ true → 0 < so_far.left → (c : Call) → its_asks ≡ calls c
        → (let t = act c so_far.state in RunTo (with_answer j (answer_kind c t.answer) (answer_value t.answer)) t.state)
    pub is_refused : is_waiting j ≡ true → 0 < so_far.left → (v : ℕ) → its_asks ≡ refuses v → RunTo (with_answer j refused v) so_far.state

-- "answering a handle, yes or no"
pub data HandleOrTruth : Result Answer Refusal → Type 0 where
  a_handle : (h : ℕ) → HandleOrTruth (Ok (Handle h))
  a_truth : (b : Bool) → HandleOrTruth (Ok (Truth b))
  a_refusal : (r : Refusal) → HandleOrTruth (Err r)

-- so does every call that a job asks for, on any memories, where it is not refused
abbrev pub AnswersPlainly : Type 0
AnswersPlainly = (j a b c : Job) (d : Call) → asks j a b c ≡ calls d → (M : Memories) → HandleOrTruth (step d M).answer

-- "Spare operands are ignored": two jobs that differ in these alone ask for the same
abbrev pub SameOperand : Slot → Operand → Operand → Type 0
SameOperand Spare o p = Unit {0}
SameOperand Set o p = o ≡ p
SameOperand Relation o p = o ≡ p
SameOperand Number o p = o ≡ p

pub record SameButSpare (j k : Job) : Type 0 where
  pub operation : j.operation ≡ k.operation
  pub a : SameOperand (numbered j.operation).operands.a j.a k.a
  pub b : SameOperand (numbered j.operation).operands.b j.b k.b
  pub c : SameOperand (numbered j.operation).operands.c j.c k.c
  pub kind : j.kind ≡ k.kind
  pub value : j.value ≡ k.value

abbrev pub SpareIgnored : Type 0
SpareIgnored = (j k : Job) → SameButSpare j k → (done : List Job) → asks_after done j ≡ asks_after done k

-- SEVERAL CALLS, each with its limit, on the list and the state that the one before left
pub record Lent (X : Type 0) : Type 0 where
  pub jobs : List Job
  pub state : X

abbrev pub lent : {X : Type 0} → List Job → X → Lent X
lent js x = record { jobs = js; state = x }

abbrev pub number_run : Called → ℕ
number_run (ran_jobs n) = n
number_run (declined r) = 0

unfoldable pub total : List ℕ → ℕ
total [] = 0
total (n ∷ ns) = n + total ns

-- `run` is a call on a list of jobs: `jobs_on` of a way to make a call, or `jobs_step`
module _ {X : Type 0} (run : List Job → ℕ → X → Outcome JobsAnswer X) where
  abbrev pub call_on : ℕ → Lent X → Outcome Called (Lent X)
  call_on n l = (let t = run l.jobs n l.state in outcome t.answer.called (lent t.answer.jobs t.state))

  abbrev pub several : List ℕ → Lent X → Listed Called (Lent X)
  several ns l = in_turn (answer_of call_on) (left_by call_on) ns l

  -- "Running a list by several calls, with no other call or writing between, leaves the same answers and memory as one call that runs as many jobs"
  pub record SeveralAsOne (ns : List ℕ) (l : Lent X) : Type 0 where
    pub number : total (map number_run (several ns l).answers) ≡ number_run (call_on (total ns) l).answer
    pub leaves : (several ns l).state ≡ (call_on (total ns) l).state
