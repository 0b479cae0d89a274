-- LISTS OF JOBS: 02, M-106. One definition over any state and any way to make a call, for memories and for the plain store.
use Rattle.std.specs.Prelude.{Bool, List, [], ◌∷◌, ◌++◌, ℕ, ◌-◌, eqb, leb, length, get_or, Option, Some, None, Result, Ok, Err}
use Rattle.model.specs.Store.{pick}
use Rattle.store_check.specs.Memory.{Memories}
use Rattle.store_check.specs.Valid.{is_store}
use Rattle.call_rules.specs.Answers.{refusal_number, values}
use Rattle.call_rules.specs.Outcome.{Outcome, outcome}
use Rattle.call_rules.specs.declared.Answer.{Answer}
use Rattle.call_rules.specs.declared.Answer.TheVariants.{Handle, Truth, SetNode, RelationNode, Pair, Nothing, Member}
use Rattle.call_rules.specs.declared.Refusal.{Refusal}
use Rattle.call_rules.specs.declared.Refusal.TheVariants.{NotStore, OutOfRange}
use Rattle.store.specs.Calls.{Call, new_store, set_call, set_read, relation_call, relation_read, image_call, filter_call, path_read, step}
use Rattle.jobs.specs.Operations.{Operation, is_known_operation, numbered}
use Rattle.jobs.specs.declared.Job.{Job}
use Rattle.jobs.specs.declared.Operand.{Operand}
use Rattle.jobs.specs.declared.operations.Slot.{Slot}
use Rattle.jobs.specs.declared.operations.Slot.TheVariants.{Spare, Set, Relation, Number}

-- THE ANSWER in a record: its kind, and its value
abbrev pub not_run : ℕ
not_run = 0

abbrev pub set_handle : ℕ
set_handle = 1

abbrev pub relation_handle : ℕ
relation_handle = 2

abbrev pub yes_or_no : ℕ
yes_or_no = 3

abbrev pub refused : ℕ
refused = 4

abbrev pub is_waiting : Job → Bool
is_waiting j = eqb j.kind not_run

-- of a handle that a call gives
abbrev pub handle_kind : Call → ℕ
handle_kind (new_store k) = relation_handle
handle_kind (set_call c) = set_handle
handle_kind (set_read c) = set_handle
handle_kind (relation_call c) = relation_handle
handle_kind (relation_read c) = relation_handle
handle_kind (image_call c) = set_handle
handle_kind (filter_call c) = relation_handle
handle_kind (path_read c) = set_handle

-- no operation answers with a node, a pair or a member
abbrev pub answer_kind : Call → Result Answer Refusal → ℕ
answer_kind c (Ok (Handle h)) = handle_kind c
answer_kind c (Ok (Truth b)) = yes_or_no
answer_kind c (Ok (SetNode x0 x1)) = yes_or_no
answer_kind c (Ok (RelationNode x00 x01 x10 x11)) = yes_or_no
answer_kind c (Ok (Pair x y)) = yes_or_no
answer_kind c (Ok Nothing) = yes_or_no
answer_kind c (Ok (Member x)) = yes_or_no
answer_kind c (Err r) = refused

abbrev pub answer_value : Result Answer Refusal → ℕ
answer_value (Ok (Handle h)) = h
answer_value (Ok (Truth b)) = get_or (values (Ok (Truth b))) 0 0
answer_value (Ok (SetNode x0 x1)) = 0
answer_value (Ok (RelationNode x00 x01 x10 x11)) = 0
answer_value (Ok (Pair x y)) = 0
answer_value (Ok Nothing) = 0
answer_value (Ok (Member x)) = 0
answer_value (Err r) = refusal_number r

abbrev pub with_answer : Job → ℕ → ℕ → Job
with_answer j k v = record { operation = j.operation; a = j.a; b = j.b; c = j.c; kind = k; value = v }

-- AN OPERAND. The record that it names, among those before the job j; j itself, which has no answer yet, where it names none of them
abbrev pub named : List Job → Job → Operand → Job
named done j o = get_or done o.number j

-- "the answer of an earlier job", where that is a handle of the kind that is needed; no answer is a field, a packet or a value
abbrev pub answer_in : Slot → Job → Option ℕ
answer_in Spare j = None
answer_in Set j = pick (eqb j.kind set_handle) (Some j.value) None
answer_in Relation j = pick (eqb j.kind relation_handle) (Some j.value) None
answer_in Number j = None

abbrev pub number_or_answer : Slot → Operand → Job → Option ℕ
number_or_answer s o j = pick (eqb o.job 0) (Some o.number) (answer_in s j)

-- what an operand stands for, j being the record that it names: "Spare operands are ignored"
abbrev pub stands_for : Slot → Operand → Job → Option ℕ
stands_for Spare o j = Some 0
stands_for Set o j = number_or_answer Set o j
stands_for Relation o j = number_or_answer Relation o j
stands_for Number o j = number_or_answer Number o j

-- ONE JOB. What it asks for: a call, or to be refused with a number
pub data Asks : Type 0 where
  calls : Call → Asks
  refuses : ℕ → Asks

-- "11, job names itself, a later job, one past the list's end, one whose answer is no handle of the kind needed, or any job for a field,
-- packet or value"
abbrev pub with_values : Operation → Option ℕ → Option ℕ → Option ℕ → Asks
with_values o (Some x) (Some y) (Some z) = calls (o.call x y z)
with_values o (Some x) (Some y) None = refuses 11
with_values o (Some x) None w = refuses 11
with_values o None v w = refuses 11

-- "12 is found before 11, and both before the operation's own"; a, b and c are the records that its operands name
unfoldable pub asks : Job → Job → Job → Job → Asks
asks j a b c = (let o = numbered j.operation in
    pick (is_known_operation j.operation)
    (with_values o (stands_for o.operands.a j.a a) (stands_for o.operands.b j.b b) (stands_for o.operands.c j.c c))
    (refuses 12))

-- "A refused job keeps its refusal as its answer"
abbrev pub carried_out : {X : Type 0} → (Call → X → Outcome (Result Answer Refusal) X) → Job → Asks → X → Outcome Job X
carried_out act j (calls d) x = outcome (with_answer j (answer_kind d (act d x).answer) (answer_value (act d x).answer)) (act d x).state
carried_out act j (refuses r) x = outcome (with_answer j refused r) x

-- after its turn: the job, how many more may be run, and the state
pub record Turn (X : Type 0) : Type 0 where
  pub job : Job
  pub left : ℕ
  pub state : X

abbrev pub turn : {X : Type 0} → Job → ℕ → X → Turn X
turn j n x = record { job = j; left = n; state = x }

abbrev pub ran : {X : Type 0} → ℕ → Outcome Job X → Turn X
ran n t = turn t.answer (n - 1) t.state

-- "runs, in list order, the jobs not yet run up to the number given", of which n are left
unfoldable pub take_turn : {X : Type 0} → (Call → X → Outcome (Result Answer Refusal) X) → ℕ → Job → Job → Job → Job → X → Turn X
take_turn act n j a b c x = pick (eqb n 0) (turn j n x) (pick (is_waiting j) (ran n (carried_out act j (asks j a b c) x)) (turn j n x))

-- THE LIST after some turns: its jobs, how many more may be run, and the state
pub record Progress (X : Type 0) : Type 0 where
  pub jobs : List Job
  pub left : ℕ
  pub state : X

module _ {X : Type 0} (act : Call → X → Outcome (Result Answer Refusal) X) where
  -- the turn of j, after the jobs that are done
  abbrev pub turn_after : ℕ → List Job → Job → X → Turn X
  turn_after n done j x = take_turn act n j (named done j j.a) (named done j j.b) (named done j j.c) x

  unfoldable pub run_jobs : ℕ → List Job → List Job → X → Progress X
  run_jobs n done [] x = record { jobs = done; left = n; state = x }
  run_jobs n done (j ∷ js) x = (let t = turn_after n done j x in run_jobs t.left (done ++ (t.job ∷ [])) js t.state)

-- A WHOLE CALL: how many jobs it ran, or why it is declined; and the list afterwards
pub data Called : Type 0 where
  ran_jobs : ℕ → Called
  declined : Refusal → Called

pub record JobsAnswer : Type 0 where
  pub called : Called
  pub jobs : List Job

abbrev pub jobs_answer : Called → List Job → JobsAnswer
jobs_answer c js = record { called = c; jobs = js }

-- "A lent list of job records holds up to 256 jobs"
abbrev pub most_jobs : ℕ
most_jobs = 256

-- the jobs js on the state x, n of them at most: "5 for a list over 256, and no job changes"
unfoldable pub jobs_on : {X : Type 0} → (Call → X → Outcome (Result Answer Refusal) X) → List Job → ℕ → X → Outcome JobsAnswer X
jobs_on act js n x = (let w = run_jobs act n [] js x in
    pick (leb (length js) most_jobs) (outcome (jobs_answer (ran_jobs (n - w.left)) w.jobs) w.state) (outcome (jobs_answer (declined OutOfRange) js) x))

-- "The whole call is declined with 1, then with 5"
unfoldable pub jobs_step : List Job → ℕ → Memories → Outcome JobsAnswer Memories
jobs_step js n M = pick (is_store M) (jobs_on step js n M) (outcome (jobs_answer (declined NotStore) js) M)
