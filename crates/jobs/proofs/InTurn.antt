-- The loop over a list of jobs, on lists: what its turns leave is what the list's definition says, what holds at the head of a turn, that a turn keeps
-- it, and what a call gives whose turns are over. From the definitions alone; nothing here speaks of memory.
use mathlib.Core.Path.{◌≡◌, refl, sym, ap, ◌∙◌}
use Prim.Native.Nat.{ℕ, zero, suc, ◌+◌, ◌-◌, ◌<◌, ◌≤◌}
use mathlib.Core.Bool.{Bool, true, false}
use Rattle.std.specs.Prelude.{Result, Ok, Err}
use Rattle.std.specs.Result.{result_unwrap_or}
use mathlib.Core.List.{List, [], ◌∷◌, ◌++◌, append-nil}
use native.Mathlib.Omega.{arith}
use lib.Dec.{ltb, leb}
use lib.ListN.{length, get_or, take, set, replicate, length-set, length-take, length-replicate, get_or-eq_default}
use borrow.Author.Tests.{ltb-true, ltb-false}
use Rattle.model.specs.Store.{pick}
use Rattle.model.proofs.Bools.{by_test}
use Rattle.store_check.specs.Memory.{Memories}
use Rattle.store_check.specs.Valid.{is_store}
use Rattle.call_rules.specs.Added.{held_in, less, counted}
use Rattle.call_rules.specs.Answers.{refusal_number}
use Rattle.call_rules.specs.Outcome.{Outcome, outcome}
use Rattle.call_rules.specs.declared.Answer.{Answer}
use Rattle.call_rules.specs.declared.Refusal.{Refusal}
use Rattle.call_rules.specs.declared.Refusal.TheVariants.{NotStore, OutOfRange}
use Rattle.packing.specs.Packed.{with_added}
use Rattle.packing.specs.declared.AddedReply.{AddedReply}
use Rattle.store.specs.Calls.{Call, step}
use Rattle.jobs.specs.Jobs.{Turn, turn, take_turn, Progress, turn_after, run_jobs, ran_jobs, declined, JobsAnswer, jobs_answer, most_jobs}
use Rattle.jobs.specs.Jobs.{jobs_on, jobs_step}
use Rattle.jobs.specs.ByValue.{zeros, place_of, TakesTurn, judged, begun_of, in_halves, concluded}
use Rattle.jobs.specs.Packed.{packed_jobs, RunsJobs}
use Rattle.jobs.specs.declared.Job.{Job}
use Rattle.jobs.specs.declared.turns.Tally.{Tally}
use Rattle.jobs.specs.declared.turns.Turned.{Turned}

-- LISTS. A place of a list, in its first part and in its second
module _ {A : Type 0} where
  take_first : (s t : List A) → take (length s) (s ++ t) ≡ s
  take_first [] t = refl
  take_first (x ∷ s) t = ap (λ l. x ∷ l) (take_first s t)

  get_or_first : (s : List A) (x : A) (t : List A) (d : A) → get_or (s ++ (x ∷ t)) (length s) d ≡ x
  get_or_first [] x t d = refl
  get_or_first (y ∷ s) x t d = get_or_first s x t d

  set_first : (s : List A) (x y : A) (t : List A) → set (s ++ (x ∷ t)) (length s) y ≡ (s ++ (y ∷ [])) ++ t
  set_first [] x y t = refl
  set_first (z ∷ s) x y t = ap (λ l. z ∷ l) (set_first s x y t)

  length_snoc : (s : List A) (x : A) → length (s ++ (x ∷ [])) ≡ suc (length s)
  length_snoc [] x = refl
  length_snoc (y ∷ s) x = ap suc (length_snoc s x)

  get_d_take : (l : List A) (i n : ℕ) (d e : A) → n < i → n < length l → get_or (take i l) n e ≡ get_or l n d
  get_d_take [] i n d e m h = absurd (let z : n < 0 = h in omega arith)
  get_d_take (x ∷ l) zero n d e m h = absurd (omega arith)
  get_d_take (x ∷ l) (suc i) zero d e m h = refl
  get_d_take (x ∷ l) (suc i) (suc n) d e m h = get_d_take l i n d e (omega arith) (omega arith)

-- zeros in the place of a list
pub zeros_long : (w : List ℕ) → length (zeros w) ≡ length w
zeros_long w = length-replicate (length w) 0

pub zeros_again : (w : List ℕ) → zeros w ≡ zeros (zeros w)
zeros_again w = ap (λ n. replicate n 0) (sym (zeros_long w))

-- for a place past the end
abbrev pub no_job : Job
no_job = record {
  operation = 0;
  a = record { job = 0; number = 0 };
  b = record { job = 0; number = 0 };
  c = record { job = 0; number = 0 };
  kind = 0;
  value = 0;
}

abbrev pub progress : {X : Type 0} → List Job → ℕ → X → Progress X
progress js n x = record { jobs = js; left = n; state = x }

-- THE TURNS of a list, by their places
module _ {X : Type 0} (act : Call → X → Outcome (Result Answer Refusal) X) where
  abbrev pub turn_at : ℕ → Progress X → Turn X
  turn_at i s = turn_after act s.left (take i s.jobs) (get_or s.jobs i no_job) s.state

  abbrev pub put_back : ℕ → List Job → Turn X → Progress X
  put_back i js t = progress (set js i t.job) t.left t.state

  -- n turns from place i on
  unfoldable pub turns : ℕ → ℕ → Progress X → Progress X
  turns zero i s = s
  turns (suc n) i s = turns n (suc i) (put_back i s.jobs (turn_at i s))

  -- those of the jobs js after the jobs that are done
  turns_are : (js : List Job) (n : ℕ) (done : List Job) (x : X) → turns (length js) (length done) (progress (done ++ js) n x) ≡ run_jobs act n done js x
  unfolding turns run_jobs
  turns_are [] n done x = ap (λ l. progress l n x) (append-nil done)
  turns_are (j ∷ js) n done x =
      let t = turn_after act n done j x in
      let e : turn_at (length done) (progress (done ++ (j ∷ js)) n x) ≡ t
      = λ i. turn_after act n (take_first done (j ∷ js) i) (get_or_first done j js no_job i) x in
      let f : put_back (length done) (done ++ (j ∷ js)) (turn_at (length done) (progress (done ++ (j ∷ js)) n x))
      ≡ progress ((done ++ (t.job ∷ [])) ++ js) t.left t.state
      = ap (put_back (length done) (done ++ (j ∷ js))) e ∙ ap (λ l. progress l t.left t.state) (set_first done j t.job js) in
      ap (turns (length js) (suc (length done))) f
      ∙ ap (λ m. turns (length js) m (progress ((done ++ (t.job ∷ [])) ++ js) t.left t.state)) (sym (length_snoc done t.job))
      ∙ turns_are js t.left (done ++ (t.job ∷ [])) t.state

  pub all_turns : (js : List Job) (n : ℕ) (x : X) → turns (length js) 0 (progress js n x) ≡ run_jobs act n [] js x
  all_turns js n x = turns_are js n [] x

-- the record that a number names, among those before job i, is read at the place of that record, or at i
pub named_at : (ys : List Job) (i n : ℕ) → i < length ys → get_or ys (place_of n i) no_job ≡ get_or (take i ys) n (get_or ys i no_job)
named_at ys i n h = by_test (λ b. ltb n i ≡ b → get_or ys (pick b n i) no_job ≡ get_or (take i ys) n (get_or ys i no_job)) (ltb n i)
    (λ _ e. let l : n < i = ltb-true n i e in sym (get_d_take ys i n no_job (get_or ys i no_job) l (omega (arith, l, h))))
    (λ _ e. let l : i ≤ n = ltb-false n i e in sym (get_or-eq_default (take i ys) (get_or ys i no_job) (omega (arith, length-take i ys, l))))
    refl

-- by the two tests that decline a whole call: its turns, or the number that it is declined with
abbrev judged_by : Bool → Bool → ℕ → Result ℕ ℕ
judged_by z y n = pick z (pick y (Ok n) (Err (refusal_number OutOfRange))) (Err (refusal_number NotStore))

-- the turns that a call on n jobs has, none where it is declined
abbrev pub turns_of : Memories → ℕ → ℕ
turns_of M n = result_unwrap_or (judged M n) 0

-- no call has more turns than jobs
turns_by : (z y : Bool) (n : ℕ) → result_unwrap_or (judged_by z y n) 0 ≤ n
turns_by true true n = omega arith
turns_by true false n = omega arith
turns_by false y n = omega arith

pub turns_most : (M : Memories) (n : ℕ) → turns_of M n ≤ n
turns_most M n = turns_by (is_store M) (leb n most_jobs) n

-- THE HEAD OF A TURN. A call that is lent the jobs js, the memories M and the working memory w
module _ (js : List Job) (limit : ℕ) (M : Memories) (w : List ℕ) where
  -- what its turns leave
  abbrev pub final : Progress Memories
  final = turns step (turns_of M (length js)) 0 (progress js limit M)

  -- `left` turns are left from job i on, and from here they leave that
  pub record Head (i : ℕ) (ys : List Job) (tally : Tally) (here : Memories) (work : List ℕ) : Type 0 where
    pub left : ℕ
    pub sum : i + left ≡ turns_of M (length js)
    pub jobs_long : length ys ≡ length js
    pub relations_long : length here.relations ≡ length M.relations
    pub sets_long : length here.sets ≡ length M.sets
    pub work_long : length work ≡ length w
    pub clear : work ≡ zeros work
    pub held : tally.held ≡ held_in here
    pub same : turns step left i (progress ys tally.left here) ≡ final

  -- by these tests: what a call returns, and its outcome
  abbrev answered_by : Bool → Bool → ℕ → ℕ
  answered_by z y n = in_halves (judged_by z y (length js)) (limit - n)

  abbrev returned_by : Bool → Bool → Progress Memories → AddedReply × List Job
  returned_by z y s = (with_added (answered_by z y s.left) (less (held_in s.state) (held_in M)), s.jobs)

  abbrev outcome_by : Bool → Bool → Outcome JobsAnswer Memories
  outcome_by z y = (let v = run_jobs step limit [] js M in
      pick z (pick y (outcome (jobs_answer (ran_jobs (limit - v.left)) v.jobs) v.state) (outcome (jobs_answer (declined OutOfRange) js) M))
      (outcome (jobs_answer (declined NotStore) js) M))

  says_by : (z y : Bool) (s : Progress Memories) → s ≡ turns step (result_unwrap_or (judged_by z y (length js)) 0) 0 (progress js limit M)
      → (returned_by z y s ≡ packed_jobs (counted held_in M (outcome_by z y)).answer) × (s.state ≡ (outcome_by z y).state)
  unfolding turns
  says_by true true s e =
      let v = run_jobs step limit [] js M in
      let f : s ≡ v = e ∙ all_turns step js limit M in
      let z : limit - v.left ≡ 0 + (limit - v.left) = omega arith in
      (ap (returned_by true true) f ∙ ap (λ n. (with_added n (less (held_in v.state) (held_in M)), v.jobs)) z, ap (λ v. v.state) f)
  says_by true false s e = (ap (returned_by true false) e, ap (λ v. v.state) e)
  says_by false y s e = (ap (returned_by false y) e, ap (λ v. v.state) e)

  pub first_head : Head 0 js (record { left = limit; held = held_in M }) M (zeros w)
  first_head = record {
    left = turns_of M (length js);
    sum = omega arith;
    jobs_long = refl;
    relations_long = refl;
    sets_long = refl;
    work_long = zeros_long w;
    clear = zeros_again w;
    held = refl;
    same = refl;
  }

  module _ (i : ℕ) (ys : List Job) (tally : Tally) (here : Memories) (work : List ℕ) (t : Head i ys tally here work) where
    -- the job at place i, and the records that its operands name
    abbrev pub job_of : Job
    job_of = get_or ys i no_job

    abbrev pub seen : ℕ → Job
    seen n = get_or ys (place_of n i) no_job

    -- A TURN, which gives r and leaves the memories M' and the working memory w'
    module _ (more : i < turns_of M (length js)) (r : Turned) (M' : Memories) (w' : List ℕ)
        (e : TakesTurn tally.left job_of (seen job_of.a.number) (seen job_of.b.number) (seen job_of.c.number) here M' work w' r)
      where
        abbrev now_done : List Job
        now_done = set ys i r.job

        abbrev now_left : Progress Memories
        now_left = progress now_done r.tally.left M'

        inside : i < length ys
        inside = omega (arith, turns_most M (length js), t.jobs_long, more)

        turned_is : turn r.job r.tally.left M' ≡ turn_at step i (progress ys tally.left here)
        turned_is = e.turn_is
            ∙ (λ j. take_turn step tally.left job_of (named_at ys i job_of.a.number inside j)
            (named_at ys i job_of.b.number inside j) (named_at ys i job_of.c.number inside j) here)

        pub one_less : turns step (t.left - 1) (i + 1) now_left ≡ turns step t.left i (progress ys tally.left here)
        unfolding turns
        one_less =
            let f : t.left ≡ suc (t.left - 1) = omega (arith, t.sum, more) in
            let g : i + 1 ≡ suc i = omega arith in
            ap (λ m. turns step (t.left - 1) m now_left) g ∙ ap (λ u. turns step (t.left - 1) (suc i) (put_back step i ys u)) turned_is
            ∙ sym (ap (λ m. turns step m i (progress ys tally.left here)) f)

        -- the next head, where lengths stay
        pub next_head : length M'.relations ≡ length here.relations → length M'.sets ≡ length here.sets → length w' ≡ length work
            → Head (i + 1) now_done r.tally M' w'
        next_head rl sl wl = record {
          left = t.left - 1;
          sum = omega (arith, t.sum, more);
          jobs_long = length-set ys i r.job ∙ t.jobs_long;
          relations_long = rl ∙ t.relations_long;
          sets_long = sl ∙ t.sets_long;
          work_long = wl ∙ t.work_long;
          clear = e.zeros_stay t.clear ∙ ap (λ n. replicate n 0) (sym wl);
          held = e.held_is;
          same = one_less ∙ t.same;
        }

    -- no turn is left
    ended : turns_of M (length js) ≤ i → progress ys tally.left here ≡ final
    unfolding turns
    ended l =
        let z : t.left ≡ 0 = omega (arith, t.sum, l) in
        sym (ap (λ m. turns step m i (progress ys tally.left here)) z) ∙ t.same

    -- WHAT THE CALL SAYS: r is what it concludes
    pub says_so : turns_of M (length js) ≤ i → (r : AddedReply) → r ≡ concluded (begun_of M (length js) limit) tally
        → RunsJobs js limit M here w work r ys
    unfolding jobs_step jobs_on
    says_so l r e =
        let s = progress ys tally.left here in
        let by = says_by (is_store M) (leb (length js) most_jobs) s (ended l) in
        record {
          answer = (λ j. (e j, ys)) ∙ (λ j. (
            with_added (answered_by (is_store M) (leb (length js) most_jobs) tally.left)
                (less (t.held j) (held_in M)),
            ys,
          )) ∙ by.0;
          state = by.1;
          zeros = t.clear ∙ ap (λ n. replicate n 0) t.work_long;
        }
