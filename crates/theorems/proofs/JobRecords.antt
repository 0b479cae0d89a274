-- Lists of jobs, record by record: how many are run, which stay as they were, and what the answer of each one is. From a turn by its cases.
use mathlib.Core.Path.{◌≡◌, refl, sym, ap, ◌∙◌, subst}
use mathlib.Core.List.{List, [], ◌∷◌, ◌++◌, append-nil, append_assoc}
use mathlib.Core.Bool.{true, false}
use Prim.Native.Nat.{ℕ, zero, suc, ◌-◌, min, ◌≤◌, ◌<◌}
use native.Mathlib.Omega.{arith}
use lib.Dec.{eqb, leb}
use lib.ListN.{length, get_or, take}
use borrow.Author.Tests.{eqb-true, eqb-false, leb-true, leb-false}
use Rattle.model.specs.Store.{pick}
use Rattle.model.proofs.Bools.{by_test, no_true}
use Rattle.call_rules.specs.Outcome.{Outcome, outcome}
use Rattle.call_rules.specs.declared.Answer.{Answer}
use Rattle.std.specs.Prelude.{Result, Ok, Err}
use Rattle.call_rules.specs.declared.Refusal.{Refusal}
use Rattle.call_rules.specs.declared.Answer.TheVariants.{Handle, Truth, SetNode, RelationNode, Pair, Nothing, Member}
use Rattle.call_rules.specs.declared.Refusal.TheVariants.{OutOfRange}
use Rattle.store.specs.Calls.{Call, new_store, set_call, set_read, relation_call, relation_read, image_call, filter_call, path_read}
use Rattle.jobs.specs.Jobs.{is_waiting, handle_kind, answer_kind, Asks, calls, refuses, carried_out, Turn, turn, ran, take_turn}
use Rattle.jobs.specs.Jobs.{turn_after, run_jobs, ran_jobs, declined, JobsAnswer, jobs_answer, most_jobs, jobs_on}
use Rattle.jobs.specs.declared.Job.{Job}
use Rattle.theorems.specs.JobLists.{waiting, asks_after, RunInOrder, jobs_after, so_far, its_asks, RunTo, JobRun}

-- AN ANSWER is of a kind, so no job is run twice
handle_run : (c : Call) → eqb (handle_kind c) 0 ≡ false
handle_run (new_store k) = refl
handle_run (set_call c) = refl
handle_run (set_read c) = refl
handle_run (relation_call c) = refl
handle_run (relation_read c) = refl
handle_run (image_call c) = refl
handle_run (filter_call c) = refl
handle_run (path_read c) = refl

answer_run : (c : Call) (a : Result Answer Refusal) → eqb (answer_kind c a) 0 ≡ false
answer_run c (Ok (Handle h)) = handle_run c
answer_run c (Ok (Truth b)) = refl
answer_run c (Ok (SetNode x0 x1)) = refl
answer_run c (Ok (RelationNode x00 x01 x10 x11)) = refl
answer_run c (Err r) = refl
answer_run c (Ok (Pair x y)) = refl
answer_run c (Ok Nothing) = refl
answer_run c (Ok (Member x)) = refl

-- a record behind others
at_end : (l : List Job) (r : Job) (m : List Job) (d : Job) (i : ℕ) → length l ≡ i → get_or (l ++ (r ∷ []) ++ m) i d ≡ r
at_end [] r m d zero e = refl
at_end [] r m d (suc i) e = absurd (omega (arith, e))
at_end (k ∷ l) r m d zero e = absurd (omega (arith, e))
at_end (k ∷ l) r m d (suc i) e = at_end l r m d i (omega (arith, e))

module _ {X : Type 0} (act : Call → X → Outcome (Result Answer Refusal) X) where
  pub carried_run : (j : Job) (q : Asks) (x : X) → is_waiting (carried_out act j q x).answer ≡ false
  carried_run j (calls c) x = answer_run c (act c x).answer
  carried_run j (refuses v) x = refl

  -- A TURN by its cases: no run is left, the job was run before, or it is run now
  by_turn : (P : Turn X → Type 0) (n : ℕ) (done : List Job) (j : Job) (x : X) → (n ≡ 0 → P (turn j n x)) → (is_waiting j ≡ false → P (turn j n x))
      → (0 < n → is_waiting j ≡ true → P (ran n (carried_out act j (asks_after done j) x))) → P (turn_after act n done j x)
  unfolding take_turn
  by_turn P n done j x none was runs =
      let t = ran n (carried_out act j (asks_after done j) x) in
      by_test (λ e. P (pick e (turn j n x) (pick (is_waiting j) t (turn j n x)))) (eqb n 0)
      (λ e. none (eqb-true n 0 e))
      (λ e. by_test (λ w. P (pick w t (turn j n x))) (is_waiting j) (λ w. let p : 0 < n = omega (arith, eqb-false n 0 e) in runs p w) was)

  pub turn_runs : (n : ℕ) (done : List Job) (j : Job) (x : X) → 0 < n → is_waiting j ≡ true
      → turn_after act n done j x ≡ ran n (carried_out act j (asks_after done j) x)
  turn_runs n done j x p w = by_turn (λ t. t ≡ ran n (carried_out act j (asks_after done j) x)) n done j x
      (λ e. absurd (omega (arith, p, e))) (λ f. absurd (no_true f w)) (λ _ _. refl)

  pub turn_stays : (n : ℕ) (done : List Job) (j : Job) (x : X) → is_waiting j ≡ false → turn_after act n done j x ≡ turn j n x
  turn_stays n done j x f = by_turn (λ t. t ≡ turn j n x) n done j x (λ _. refl) (λ _. refl) (λ _ w. absurd (no_true f w))

  -- THE RECORDS after those that are done
  rest : ℕ → List Job → List Job → X → List Job
  rest n done [] x = []
  rest n done (j ∷ js) x = (let t = turn_after act n done j x in t.job ∷ rest t.left (done ++ (t.job ∷ [])) js t.state)

  run_rest : (n : ℕ) (done js : List Job) (x : X) → (run_jobs act n done js x).jobs ≡ done ++ rest n done js x
  unfolding run_jobs rest
  run_rest n done [] x = sym (append-nil done)
  run_rest n done (j ∷ js) x = let t = turn_after act n done j x in
      run_rest t.left (done ++ (t.job ∷ [])) js t.state ∙ append_assoc done (t.job ∷ []) (rest t.left (done ++ (t.job ∷ [])) js t.state)

  rest_long : (n : ℕ) (done js : List Job) (x : X) → length (rest n done js x) ≡ length js
  unfolding rest
  rest_long n done [] x = refl
  rest_long n done (j ∷ js) x = let t = turn_after act n done j x in ap suc (rest_long t.left (done ++ (t.job ∷ [])) js t.state)

  rest_stays : (n : ℕ) (done js : List Job) (x : X) (i : ℕ) (d : Job) → is_waiting (get_or js i d) ≡ false → get_or (rest n done js x) i d ≡ get_or js i d
  unfolding rest
  rest_stays n done [] x i d e = refl
  rest_stays n done (j ∷ js) x zero d e = by_turn (λ t. t.job ≡ j) n done j x (λ _. refl) (λ _. refl) (λ _ w. absurd (no_true e w))
  rest_stays n done (j ∷ js) x (suc i) d e = let t = turn_after act n done j x in rest_stays t.left (done ++ (t.job ∷ [])) js t.state i d e

  -- how many runs are left after a turn
  left_most : (n : ℕ) (done : List Job) (j : Job) (x : X) (m : ℕ) → n ≤ pick (is_waiting j) (suc m) m → (turn_after act n done j x).left ≤ m
  left_most n done j x m h = by_turn (λ t. t.left ≤ m) n done j x
      (λ e. omega (arith, e))
      (λ w. subst (λ b. n ≤ pick b (suc m) m) w h)
      (λ p w. let g : n ≤ suc m = subst (λ b. n ≤ pick b (suc m) m) w h in omega (arith, g))

  left_least : (n : ℕ) (done : List Job) (j : Job) (x : X) (m : ℕ) → pick (is_waiting j) (suc m) m < n → m < (turn_after act n done j x).left
  left_least n done j x m h = by_turn (λ t. m < t.left) n done j x
      (λ e. absurd (omega (arith, e, h)))
      (λ w. subst (λ b. pick b (suc m) m < n) w h)
      (λ p w. let g : suc m < n = subst (λ b. pick b (suc m) m < n) w h in omega (arith, g))

  rest_beyond : (n : ℕ) (done js : List Job) (x : X) (i : ℕ) (d : Job) → n ≤ waiting (take i js) → get_or (rest n done js x) i d ≡ get_or js i d
  unfolding rest waiting
  rest_beyond n done [] x i d h = refl
  rest_beyond n done (j ∷ js) x zero d h = by_turn (λ t. t.job ≡ j) n done j x (λ _. refl) (λ _. refl) (λ p w. absurd (omega (arith, p, h)))
  rest_beyond n done (j ∷ js) x (suc i) d h = let t = turn_after act n done j x in
      rest_beyond t.left (done ++ (t.job ∷ [])) js t.state i d (left_most n done j x (waiting (take i js)) h)

  rest_runs : (n : ℕ) (done js : List Job) (x : X) (i : ℕ) (d : Job) → i < length js → waiting (take i js) < n
      → is_waiting (get_or (rest n done js x) i d) ≡ false
  unfolding rest waiting
  rest_runs n done [] x i d l h = absurd (omega (arith, l))
  rest_runs n done (j ∷ js) x zero d l h =
      by_turn (λ t. is_waiting t.job ≡ false) n done j x (λ e. absurd (omega (arith, e, h))) (λ w. w) (λ p w. carried_run j (asks_after done j) x)
  rest_runs n done (j ∷ js) x (suc i) d l h = let t = turn_after act n done j x in
      rest_runs t.left (done ++ (t.job ∷ [])) js t.state i d (omega (arith, l)) (left_least n done j x (waiting (take i js)) h)

  -- HOW MANY
  turn_left : (n : ℕ) (done : List Job) (j : Job) (x : X) (m : ℕ) → (turn_after act n done j x).left - m ≡ n - pick (is_waiting j) (suc m) m
  turn_left n done j x m = by_turn (λ t. t.left - m ≡ n - pick (is_waiting j) (suc m) m) n done j x
      (λ e. omega (arith, e))
      (λ w. subst (λ b. n - m ≡ n - pick b (suc m) m) (sym w) refl)
      (λ p w. let g : n - 1 - m ≡ n - suc m = omega arith in subst (λ b. n - 1 - m ≡ n - pick b (suc m) m) (sym w) g)

  pub left_is : (n : ℕ) (done js : List Job) (x : X) → (run_jobs act n done js x).left ≡ n - waiting js
  unfolding run_jobs waiting
  left_is n done [] x = let e : n ≡ n - 0 = omega arith in e
  left_is n done (j ∷ js) x = let t = turn_after act n done j x in
      left_is t.left (done ++ (t.job ∷ [])) js t.state ∙ turn_left n done j x (waiting js)

  -- A WHOLE CALL by its cases: the list is run, or too long and declined
  abbrev pub whole_run : List Job → ℕ → X → Outcome JobsAnswer X
  whole_run js n x = (let w = run_jobs act n [] js x in outcome (jobs_answer (ran_jobs (n - w.left)) w.jobs) w.state)

  pub by_length : (P : Outcome JobsAnswer X → Type 0) (js : List Job) (n : ℕ) (x : X) → (length js ≤ most_jobs → P (whole_run js n x))
      → (most_jobs < length js → P (outcome (jobs_answer (declined OutOfRange) js) x)) → P (jobs_on act js n x)
  unfolding jobs_on
  by_length P js n x fits long = by_test (λ b. P (pick b (whole_run js n x) (outcome (jobs_answer (declined OutOfRange) js) x))) (leb (length js) most_jobs)
      (λ e. fits (leb-true (length js) most_jobs e)) (λ e. long (leb-false (length js) most_jobs e))

  pub jobs_run : (js : List Job) (n : ℕ) (x : X) → length js ≤ most_jobs → jobs_on act js n x ≡ whole_run js n x
  jobs_run js n x f = by_length (λ t. t ≡ whole_run js n x) js n x (λ _. refl) (λ g. absurd (omega (arith, f, g)))

  pub jobs_declined : (js : List Job) (n : ℕ) (x : X) → most_jobs < length js → jobs_on act js n x ≡ outcome (jobs_answer (declined OutOfRange) js) x
  jobs_declined js n x g = by_length (λ t. t ≡ outcome (jobs_answer (declined OutOfRange) js) x) js n x (λ f. absurd (omega (arith, f, g))) (λ _. refl)

  -- what holds of the records of a run holds of those of a call, if it holds of the list as it was
  after_jobs : (P : List Job → Type 0) (js : List Job) (n : ℕ) (x : X) → P (rest n [] js x) → P js → P (jobs_after act js n x)
  after_jobs P js n x run same = by_length (λ t. P t.answer.jobs) js n x (λ _. subst P (sym (run_rest n [] js x)) run) (λ _. same)

  pub run_in_order : (js : List Job) (n : ℕ) (x : X) → RunInOrder act js n x
  run_in_order js n x = record {
    number = λ l. ap (λ t. t.answer.called) (jobs_run js n x l)
        ∙ ap ran_jobs (let e : n - (run_jobs act n [] js x).left ≡ min n (waiting js) = omega (arith, left_is n [] js x) in e);
    long = after_jobs (λ js'. length js' ≡ length js) js n x (rest_long n [] js x) refl;
    runs = λ l i d h g. subst (λ js'. is_waiting (get_or js' i d) ≡ false) (sym (ap (λ t. t.answer.jobs) (jobs_run js n x l) ∙ run_rest n [] js x))
        (rest_runs n [] js x i d h g);
    stays = λ i d e. after_jobs (λ js'. get_or js' i d ≡ get_or js i d) js n x (rest_stays n [] js x i d e) refl;
    beyond = λ i d h. after_jobs (λ js'. get_or js' i d ≡ get_or js i d) js n x (rest_beyond n [] js x i d h) refl;
  }

  -- EACH JOB: those before it first
  run_parted : (n : ℕ) (done before later : List Job) (x : X)
      → (let s = run_jobs act n done before x in run_jobs act n done (before ++ later) x ≡ run_jobs act s.left s.jobs later s.state)
  unfolding run_jobs
  run_parted n done [] later x = refl
  run_parted n done (j ∷ before) later x = let t = turn_after act n done j x in run_parted t.left (done ++ (t.job ∷ [])) before later t.state

  pub run_long : (n : ℕ) (js : List Job) (x : X) → length (run_jobs act n [] js x).jobs ≡ length js
  run_long n js x = ap length (run_rest n [] js x) ∙ rest_long n [] js x

  module _ (n : ℕ) (before later : List Job) (j : Job) (x : X) where
    run_to : is_waiting j ≡ true → 0 < (so_far act n before later j x).left → (q : Asks) → its_asks act n before later j x ≡ q
        → (let t = carried_out act j q (so_far act n before later j x).state in RunTo act n before later j x t.answer t.state)
    unfolding run_jobs
    run_to w p q e =
        let s = run_jobs act n [] before x in
        let t = carried_out act j q s.state in
        let turned : turn_after act s.left s.jobs j s.state ≡ ran s.left t
        = turn_runs s.left s.jobs j s.state p w ∙ ap (λ q. ran s.left (carried_out act j q s.state)) e in
        let onward = run_parted n [] before (j ∷ later) x
        ∙ ap (λ t. run_jobs act t.left (s.jobs ++ (t.job ∷ [])) later t.state) turned in record {
          answer = λ d. ap (λ u. get_or u.jobs (length before) d) onward
              ∙ ap (λ l. get_or l (length before) d) (run_rest (s.left - 1) (s.jobs ++ (t.answer ∷ [])) later t.state)
              ∙ at_end s.jobs t.answer _ d (length before) (run_long n before x);
          onward = onward;
        }

    pub job_run : JobRun act n before later j x
    job_run = record { makes_call = λ w p c e. run_to w p (calls c) e; is_refused = λ w p v e. run_to w p (refuses v) e }
