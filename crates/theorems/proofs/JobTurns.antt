-- Lists of jobs on two states in step: where every call keeps them in step and gives one answer, so does a list of jobs. From its definition, turn by turn.
use mathlib.Core.Path.{◌≡◌, refl, ap, subst₂}
use mathlib.Core.List.{List, [], ◌∷◌, ◌++◌}
use Prim.Native.Nat.{ℕ, ◌-◌}
use lib.Dec.{eqb, leb}
use lib.ListN.{length}
use Rattle.model.specs.Store.{pick}
use Rattle.model.proofs.Bools.{by_test}
use Rattle.call_rules.specs.Outcome.{Outcome, outcome}
use Rattle.call_rules.specs.declared.Answer.{Answer}
use Rattle.std.specs.Prelude.{Result}
use Rattle.call_rules.specs.declared.Refusal.{Refusal}
use Rattle.call_rules.specs.declared.Refusal.TheVariants.{OutOfRange}
use Rattle.store.specs.Calls.{Call}
use Rattle.jobs.specs.Jobs.{is_waiting, answer_kind, answer_value, with_answer, named, Asks, calls, refuses, carried_out, Turn, turn, ran, take_turn}
use Rattle.jobs.specs.Jobs.{Progress, turn_after, run_jobs, ran_jobs, declined, JobsAnswer, jobs_answer, most_jobs, jobs_on}
use Rattle.jobs.specs.declared.Job.{Job}
use Rattle.theorems.specs.JobLists.{asks_after}
use Rattle.theorems.proofs.JobOperations.{NotNew, asks_kept}

-- TWO STATES, in the relation R
module _ {X Y : Type 0} (act : Call → X → Outcome (Result Answer Refusal) X) (act' : Call → Y → Outcome (Result Answer Refusal) Y) (R : X → Y → Type 0)
    (kept : (c : Call) → NotNew c → (x : X) (y : Y) → R x y → ((act c x).answer ≡ (act' c y).answer) × R (act c x).state (act' c y).state) where
  record TurnsAlike (t : Turn X) (u : Turn Y) : Type 0 where
    job : t.job ≡ u.job
    left : t.left ≡ u.left
    states : R t.state u.state

  carried_alike : (n : ℕ) (j : Job) (q : Asks) → ((d : Call) → q ≡ calls d → NotNew d) → (x : X) (y : Y) → R x y
      → TurnsAlike (ran n (carried_out act j q x)) (ran n (carried_out act' j q y))
  carried_alike n j (calls d) o x y r = let t = kept d (o d refl) x y r in
      record { job = ap (λ a. with_answer j (answer_kind d a) (answer_value a)) t.0; left = refl; states = t.1 }
  carried_alike n j (refuses v) o x y r = record { job = refl; left = refl; states = r }

  turn_alike : (n : ℕ) (done : List Job) (j : Job) (x : X) (y : Y) → R x y → TurnsAlike (turn_after act n done j x) (turn_after act' n done j y)
  unfolding take_turn
  turn_alike n done j x y r =
      let q = asks_after done j in
      let stays : TurnsAlike (turn j n x) (turn j n y) = record { job = refl; left = refl; states = r } in
      let runs = carried_alike n j q (asks_kept j (named done j j.a) (named done j j.b) (named done j j.c)) x y r in
      by_test (λ e. TurnsAlike (pick e (turn j n x) (pick (is_waiting j) (ran n (carried_out act j q x)) (turn j n x)))
      (pick e (turn j n y) (pick (is_waiting j) (ran n (carried_out act' j q y)) (turn j n y)))) (eqb n 0)
      (λ _. stays)
      (λ _. by_test (λ w. TurnsAlike (pick w (ran n (carried_out act j q x)) (turn j n x)) (pick w (ran n (carried_out act' j q y)) (turn j n y)))
      (is_waiting j) (λ _. runs) (λ _. stays))

  record RunsAlike (s : Progress X) (t : Progress Y) : Type 0 where
    jobs : s.jobs ≡ t.jobs
    left : s.left ≡ t.left
    states : R s.state t.state

  run_alike : (n : ℕ) (done js : List Job) (x : X) (y : Y) → R x y → RunsAlike (run_jobs act n done js x) (run_jobs act' n done js y)
  unfolding run_jobs
  run_alike n done [] x y r = record { jobs = refl; left = refl; states = r }
  run_alike n done (j ∷ js) x y r =
      let t = turn_after act n done j x in
      let u = turn_after act' n done j y in
      let h = turn_alike n done j x y r in
      subst₂ (λ n j. RunsAlike (run_jobs act t.left (done ++ (t.job ∷ [])) js t.state) (run_jobs act' n (done ++ (j ∷ [])) js u.state))
      h.left h.job (run_alike t.left (done ++ (t.job ∷ [])) js t.state u.state h.states)

  pub record CallsAlike (t : Outcome JobsAnswer X) (u : Outcome JobsAnswer Y) : Type 0 where
    pub answer : t.answer ≡ u.answer
    pub states : R t.state u.state

  pub jobs_in_step : (js : List Job) (n : ℕ) (x : X) (y : Y) → R x y → CallsAlike (jobs_on act js n x) (jobs_on act' js n y)
  unfolding jobs_on
  jobs_in_step js n x y r =
      let s = run_jobs act n [] js x in
      let t = run_jobs act' n [] js y in
      let h = run_alike n [] js x y r in
      by_test (λ b. CallsAlike (pick b (outcome (jobs_answer (ran_jobs (n - s.left)) s.jobs) s.state) (outcome (jobs_answer (declined OutOfRange) js) x))
      (pick b (outcome (jobs_answer (ran_jobs (n - t.left)) t.jobs) t.state) (outcome (jobs_answer (declined OutOfRange) js) y)))
      (leb (length js) most_jobs)
      (λ _. record { answer = λ i. jobs_answer (ran_jobs (n - h.left i)) (h.jobs i); states = h.states })
      (λ _. record { answer = refl; states = r })

-- ONE STATE: what every call keeps
pub jobs_keep : {X : Type 0} (act : Call → X → Outcome (Result Answer Refusal) X) (Q : X → Type 0) → ((c : Call) → NotNew c → (x : X) → Q x → Q (act c x).state)
    → (js : List Job) (n : ℕ) (x : X) → Q x → Q (jobs_on act js n x).state
jobs_keep act Q kept js n x q = (jobs_in_step act act (λ x y. (x ≡ y) × Q y)
    (λ c o x y r. (ap (λ z. (act c z).answer) r.0, (ap (λ z. (act c z).state) r.0, kept c o y r.1))) js n x x (refl, q)).states.1
