-- A list of jobs run by several calls is left as by one call, and so is the state: from a run that goes on where another stopped, and, of memories, from
-- their being a store after each.
use mathlib.Core.Path.{◌≡◌, refl, sym, ap, ◌∙◌, subst, subst₂, subst₃}
use mathlib.Core.List.{List, [], ◌∷◌, ◌++◌, append-nil, append_assoc}
use mathlib.Core.Bool.{Bool, false}
use Prim.Native.Nat.{ℕ, zero, suc, ◌+◌, ◌-◌, ◌≤◌, ◌<◌}
use native.Mathlib.Omega.{arith}
use lib.ListN.{length}
use Rattle.model.specs.Store.{pick}
use Rattle.model.proofs.Bools.{by_test}
use Rattle.store_check.specs.Memory.{Memories}
use Rattle.store_check.specs.Valid.{is_store, IsStore}
use Rattle.store_check.proofs.Decide.{store_says}
use Rattle.store_check.proofs.Deciding.{decided_true}
use Rattle.call_rules.specs.Outcome.{Outcome, outcome}
use Rattle.call_rules.specs.declared.Answer.{Answer}
use Rattle.std.specs.Prelude.{Result}
use Rattle.call_rules.specs.declared.Refusal.{Refusal}
use Rattle.call_rules.specs.declared.Refusal.TheVariants.{NotStore, OutOfRange}
use Rattle.store.specs.Calls.{Call, step}
use Rattle.jobs.specs.Jobs.{is_waiting, carried_out, Turn, turn, take_turn, Progress, turn_after, run_jobs, Called, ran_jobs, declined}
use Rattle.jobs.specs.Jobs.{JobsAnswer, jobs_answer, most_jobs, jobs_on, jobs_step}
use Rattle.jobs.specs.declared.Job.{Job}
use Rattle.theorems.specs.JobLists.{asks_after, Lent, lent, number_run, total, call_on, SeveralAsOne}
use Rattle.theorems.specs.Lists.{in_turn}
use Rattle.theorems.proofs.AnyMemories.{by_store}
use Rattle.theorems.proofs.AnyStore.{step_store}
use Rattle.theorems.proofs.JobRecords.{carried_run, turn_stays, turn_runs, left_is, by_length, jobs_run, jobs_declined, run_long}
use Rattle.theorems.proofs.JobTurns.{jobs_keep}

-- jobs of which each was run
abbrev NoneWaits : List Job → Type 0
NoneWaits [] = Unit {0}
NoneWaits (j ∷ js) = (is_waiting j ≡ false) × NoneWaits js

one_more : (done : List Job) (j : Job) → NoneWaits done → is_waiting j ≡ false → NoneWaits (done ++ (j ∷ []))
one_more [] j w e = (e, tt)
one_more (k ∷ done) j w e = (w.0, one_more done j w.1 e)

-- ONE RUN AFTER ANOTHER, and the run that is both
record AsOne {X : Type 0} (first second whole : Progress X) : Type 0 where
  jobs : second.jobs ≡ whole.jobs
  state : second.state ≡ whole.state
  left : first.left + second.left ≡ whole.left

module _ {X : Type 0} (act : Call → X → Outcome (Result Answer Refusal) X) where
  -- jobs that were run are passed over
  passed : (n : ℕ) (done js later : List Job) (x : X) → NoneWaits js → run_jobs act n done (js ++ later) x ≡ run_jobs act n (done ++ js) later x
  unfolding run_jobs
  passed n done [] later x w = ap (λ d. run_jobs act n d later x) (sym (append-nil done))
  passed n done (j ∷ js) later x w =
      ap (λ t. run_jobs act t.left (done ++ (t.job ∷ [])) (js ++ later) t.state) (turn_stays act n done j x w.0)
      ∙ passed n (done ++ (j ∷ [])) js later x w.1 ∙ ap (λ d. run_jobs act n d later x) (append_assoc done (j ∷ []) js)

  -- with no run left all stays
  stopped : (done js : List Job) (x : X) → run_jobs act 0 done js x ≡ record { jobs = done ++ js; left = 0; state = x }
  unfolding run_jobs take_turn
  stopped done [] x = λ i. record { jobs = sym (append-nil done) i; left = 0; state = x }
  stopped done (j ∷ js) x = stopped (done ++ (j ∷ [])) js x ∙ (λ i. record { jobs = append_assoc done (j ∷ []) js i; left = 0; state = x })

  -- the first run is s, and the second begins with the list as s left it
  abbrev GoesOn : ℕ → Progress X → Progress X → Type 0
  GoesOn m s whole = AsOne s (run_jobs act m [] s.jobs s.state) whole

  goes_on : (n m : ℕ) (done js : List Job) (x : X) → NoneWaits done → GoesOn m (run_jobs act n done js x) (run_jobs act (n + m) done js x)
  unfolding run_jobs
  goes_on n m done [] x w =
      let e : run_jobs act m [] done x ≡ record { jobs = done; left = m; state = x }
      = ap (λ l. run_jobs act m [] l x) (sym (append-nil done)) ∙ passed m [] done [] x w in
      record { jobs = ap (λ s. s.jobs) e; state = ap (λ s. s.state) e; left = ap (λ s. n + s.left) e }
  goes_on zero m done (j ∷ js) x w =
      let whole = run_jobs act (0 + m) done (j ∷ js) x in
      let e : run_jobs act m [] (done ++ (j ∷ js)) x ≡ whole
      = passed m [] done (j ∷ js) x w ∙ ap (λ n. run_jobs act n done (j ∷ js) x) (let z : m ≡ 0 + m = omega arith in z) in
      let begun : GoesOn m (record { jobs = done ++ (j ∷ js); left = 0; state = x }) whole
      = record { jobs = ap (λ s. s.jobs) e; state = ap (λ s. s.state) e; left = omega (arith, ap (λ s. s.left) e) } in
      subst (λ s. GoesOn m s whole) (sym (stopped done (j ∷ js) x)) begun
  goes_on (suc n) m done (j ∷ js) x w =
      let onward : Turn X → Progress X = λ t. run_jobs act t.left (done ++ (t.job ∷ [])) js t.state in
      let both : Turn X → Turn X → Type 0 = λ t u. GoesOn m (onward t) (onward u) in
      let t = carried_out act j (asks_after done j) x in
      by_test (λ e. is_waiting j ≡ e → both (turn_after act (suc n) done j x) (turn_after act (suc n + m) done j x)) (is_waiting j)
      (λ _ e. subst₂ both (sym (turn_runs act (suc n) done j x (omega arith) e)) (sym (turn_runs act (suc n + m) done j x (omega arith) e))
      (subst₂ (λ a b. both (turn t.answer a t.state) (turn t.answer b t.state))
      (let z : n ≡ suc n - 1 = omega arith in z) (let z : n + m ≡ suc n + m - 1 = omega arith in z)
      (goes_on n m (done ++ (t.answer ∷ [])) js t.state (one_more done t.answer w (carried_run act j (asks_after done j) x)))))
      (λ _ e. subst₂ both (sym (turn_stays act (suc n) done j x e)) (sym (turn_stays act (suc n + m) done j x e))
      (goes_on (suc n) m (done ++ (j ∷ [])) js x (one_more done j w e))) refl

-- TWO CALLS, the second on what the first left, and one with both limits
record BothAsOne {X : Type 0} (first second whole : Outcome Called (Lent X)) : Type 0 where
  state : second.state ≡ whole.state
  number : number_run first.answer + number_run second.answer ≡ number_run whole.answer

record NoneRun {X : Type 0} (l : Lent X) (t : Outcome Called (Lent X)) : Type 0 where
  state : t.state ≡ l
  number : number_run t.answer ≡ 0

record TwoAsOne {X : Type 0} (run : List Job → ℕ → X → Outcome JobsAnswer X) : Type 0 where
  none : (l : Lent X) → NoneRun l (call_on run 0 l)
  two : (n m : ℕ) (l : Lent X) → BothAsOne (call_on run n l) (call_on run m (call_on run n l).state) (call_on run (n + m) l)

-- so several
several_calls : {X : Type 0} (run : List Job → ℕ → X → Outcome JobsAnswer X) → TwoAsOne run → (ns : List ℕ) (l : Lent X) → SeveralAsOne run ns l
unfolding in_turn total
several_calls run T [] l = record { number = sym (T.none l).number; leaves = sym (T.none l).state }
several_calls run T (n ∷ ns) l =
    let r = several_calls run T ns (call_on run n l).state in
    let t = T.two n (total ns) l in record { number = omega (arith, r.number, t.number); leaves = r.leaves ∙ t.state }

-- a call that is declined, whatever its limit
declined_none : {X : Type 0} (r : Refusal) (l : Lent X) → NoneRun l (outcome (declined r) l)
declined_none r l = record { state = refl; number = refl }

declined_both : {X : Type 0} (r : Refusal) (l : Lent X) → BothAsOne (outcome (declined r) l) (outcome (declined r) l) (outcome (declined r) l)
declined_both r l = record { state = refl; number = refl }

abbrev as_called : {X : Type 0} → Outcome JobsAnswer X → Outcome Called (Lent X)
as_called t = outcome t.answer.called (lent t.answer.jobs t.state)

-- ON ANY STATE
module _ {X : Type 0} (act : Call → X → Outcome (Result Answer Refusal) X) where
  abbrev on : ℕ → Lent X → Outcome Called (Lent X)
  on = call_on (jobs_on act)

  -- a call that runs the list
  abbrev ran_on : ℕ → Lent X → Outcome Called (Lent X)
  ran_on n l = (let w = run_jobs act n [] l.jobs l.state in outcome (ran_jobs (n - w.left)) (lent w.jobs w.state))

  fits : (n : ℕ) (l : Lent X) → length l.jobs ≤ most_jobs → on n l ≡ ran_on n l
  fits n l f = ap as_called (jobs_run act l.jobs n l.state f)

  fits_then : (n m : ℕ) (l : Lent X) → length l.jobs ≤ most_jobs → on m (on n l).state ≡ ran_on m (ran_on n l).state
  fits_then n m l f = ap (λ t. on m t.state) (fits n l f)
      ∙ fits m (ran_on n l).state (subst (λ k. k ≤ most_jobs) (sym (run_long act n l.jobs l.state)) f)

  too_long : (n : ℕ) (l : Lent X) → most_jobs < length l.jobs → on n l ≡ outcome (declined OutOfRange) l
  too_long n l f = ap as_called (jobs_declined act l.jobs n l.state f)

  too_long_then : (n m : ℕ) (l : Lent X) → most_jobs < length l.jobs → on m (on n l).state ≡ outcome (declined OutOfRange) l
  too_long_then n m l f = ap (λ t. on m t.state) (too_long n l f) ∙ too_long m l f

  ran_none : (l : Lent X) → NoneRun l (ran_on 0 l)
  ran_none l = record { state = ap (λ w. lent w.jobs w.state) (stopped act [] l.jobs l.state); number = omega arith }

  never_more : (n : ℕ) (l : Lent X) → (run_jobs act n [] l.jobs l.state).left ≤ n
  never_more n l = omega (arith, left_is act n [] l.jobs l.state)

  ran_both : (n m : ℕ) (l : Lent X) → BothAsOne (ran_on n l) (ran_on m (ran_on n l).state) (ran_on (n + m) l)
  ran_both n m l = let g = goes_on act n m [] l.jobs l.state tt in record {
    state = λ i. lent (g.jobs i) (g.state i);
    number = omega (arith, g.left, never_more n l, never_more m (ran_on n l).state);
  }

  on_twice : TwoAsOne (jobs_on act)
  on_twice = record {
    none = λ l. by_length act (λ _. NoneRun l (on 0 l)) l.jobs 0 l.state (λ f. subst (NoneRun l) (sym (fits 0 l f)) (ran_none l))
        (λ f. subst (NoneRun l) (sym (too_long 0 l f)) (declined_none OutOfRange l));
    two = λ n m l. by_length act (λ _. BothAsOne (on n l) (on m (on n l).state) (on (n + m) l)) l.jobs n l.state
        (λ f. subst₃ BothAsOne (sym (fits n l f)) (sym (fits_then n m l f)) (sym (fits (n + m) l f)) (ran_both n m l))
        (λ f. subst₃ BothAsOne (sym (too_long n l f)) (sym (too_long_then n m l f)) (sym (too_long (n + m) l f)) (declined_both OutOfRange l));
  }

  pub several_on : (ns : List ℕ) (l : Lent X) → SeveralAsOne (jobs_on act) ns l
  several_on = several_calls (jobs_on act) on_twice

-- ON MEMORIES, which are a store after a call where they were one before it
store_after : (js : List Job) (n : ℕ) (M : Memories) → IsStore M → IsStore (jobs_on step js n M).state
store_after js n M s = jobs_keep step IsStore (λ c o X t. step_store t c) js n M s

module _ (l : Lent Memories) where
  abbrev by_judging : ℕ → Bool → Outcome Called (Lent Memories)
  by_judging n b = as_called (pick b (jobs_on step l.jobs n l.state) (outcome (jobs_answer (declined NotStore) l.jobs) l.state))

  judged : (n : ℕ) → IsStore l.state → call_on jobs_step n l ≡ on step n l
  unfolding jobs_step
  judged n s = ap (by_judging n) (decided_true (store_says l.state) s)

  no_store : (n : ℕ) → is_store l.state ≡ false → call_on jobs_step n l ≡ outcome (declined NotStore) l
  unfolding jobs_step
  no_store n e = ap (by_judging n) e

judged_then : (n m : ℕ) (l : Lent Memories) → IsStore l.state → call_on jobs_step m (call_on jobs_step n l).state ≡ on step m (on step n l).state
judged_then n m l s = ap (λ t. call_on jobs_step m t.state) (judged l n s) ∙ judged (on step n l).state m (store_after l.jobs n l.state s)

no_store_then : (n m : ℕ) (l : Lent Memories) → is_store l.state ≡ false
    → call_on jobs_step m (call_on jobs_step n l).state ≡ outcome (declined NotStore) l
no_store_then n m l e = ap (λ t. call_on jobs_step m t.state) (no_store l n e) ∙ no_store l m e

step_twice : TwoAsOne jobs_step
step_twice = record {
  none = λ l. by_store l.state (λ s. subst (NoneRun l) (sym (judged l 0 s)) ((on_twice step).none l))
      (λ e. subst (NoneRun l) (sym (no_store l 0 e)) (declined_none NotStore l));
  two = λ n m l. by_store l.state
      (λ s. subst₃ BothAsOne (sym (judged l n s)) (sym (judged_then n m l s)) (sym (judged l (n + m) s)) ((on_twice step).two n m l))
      (λ e. subst₃ BothAsOne (sym (no_store l n e)) (sym (no_store_then n m l e)) (sym (no_store l (n + m) e)) (declined_both NotStore l));
}

pub several_steps : (ns : List ℕ) (l : Lent Memories) → SeveralAsOne jobs_step ns l
several_steps = several_calls jobs_step step_twice
