-- `run_one`: a job that waits is run while one more may be, by `carry_out`, and any other stays as it is; the nodes are counted after it.
use mathlib.Core.Path.{◌≡◌, sym, ap, ◌∙◌}
use mathlib.Core.List.{List}
use Prim.Native.Nat.{ℕ, ◌-◌, ◌<◌, ◌≤◌}
use native.Mathlib.Omega.{arith}
use borrow.Author.Tests.{eq-eqb, ne_eqb}
use Rattle.store_check.specs.Memory.{Memories, memories}
use Rattle.call_rules.specs.Added.{held_in}
use Rattle.call_rules.specs.declared.added.NodeCounts.{NodeCounts}
use Rattle.store.specs.Calls.{step}
use Rattle.jobs.specs.Jobs.{Asks, asks, carried_out, turn, ran, take_turn}
use Rattle.jobs.specs.ByValue.{zeros, CarriesOut, TakesTurn}
use Rattle.jobs.specs.declared.Job.{Job}
use Rattle.jobs.proofs.turns.run_one.Goals as goal
use Rattle.jobs.proofs.turns.run_one.Goals.{then-left-gt0+then-job, else-left-gt0}
use Rattle.jobs.proofs.turns.run_one.Goals.{else-left-gt0-via-then-left-gt0+else-job, else-left-gt0-via-else-left-gt0}

-- the turn's definition by its tests
module _ (n : ℕ) (j a b c : Job) (M : Memories) where
  runs : 0 < n → j.kind ≡ 0 → take_turn step n j a b c M ≡ ran n (carried_out step j (asks j a b c) M)
  unfolding take_turn
  runs more waits = rw (ne_eqb n 0 (λ e. omega (arith, e)), eq-eqb j.kind 0 waits)

  stays : 0 < n → (j.kind ≡ 0 → ⊥) → take_turn step n j a b c M ≡ turn j n M
  unfolding take_turn
  stays more done = rw (ne_eqb n 0 (λ e. omega (arith, e)), ne_eqb j.kind 0 done)

  stops : n ≤ 0 → take_turn step n j a b c M ≡ turn j n M
  unfolding take_turn
  stops none = rw (eq-eqb n 0 (omega arith))

-- after the turn: x and y are the memories, v the working memory, r the job, l the jobs that may still be run, and h the nodes held
module _ (n : ℕ) (j a b c : Job) (M : Memories) (w : List ℕ) {x y v : List ℕ} {r : Job} {l : ℕ} {h : NodeCounts} (held : h ≡ held_in (memories x y)) where
  -- by what one of the ways to the end left, whose names have a prime
  met : {x' y' v' : List ℕ} {r' : Job} {l' : ℕ} → turn r' l' (memories x' y') ≡ take_turn step n j a b c M → (w ≡ zeros w → v' ≡ zeros w)
      → x ≡ x' → y ≡ y' → v ≡ v' → r ≡ r' → l ≡ l'
      → TakesTurn n j a b c M (memories x y) w v (record { job = r; tally = record { left = l; held = h } })
  met is zero x-is y-is v-is r-is l-is = record {
    turn_is = (λ i. turn (r-is i) (l-is i) (memories (x-is i) (y-is i))) ∙ is;
    held_is = held;
    zeros_stay = λ z. v-is ∙ zero z;
  }

  ran_one : {x' y' v' : List ℕ} {r' : Job} {asked : Asks} → 0 < n → j.kind ≡ 0 → asked ≡ asks j a b c
      → CarriesOut j asked M (memories x' y') w v' r' → x ≡ x' → y ≡ y' → v ≡ v' → r ≡ r' → l ≡ n - 1
      → TakesTurn n j a b c M (memories x y) w v (record { job = r; tally = record { left = l; held = h } })
  ran_one more waits is out =
      met (ap (ran n) out.outcome_is ∙ ap (λ (s : Asks). ran n (carried_out step j s M)) is ∙ sym (runs n j a b c M more waits)) out.zeros_stay

  passed_over : turn j n M ≡ take_turn step n j a b c M → x ≡ M.relations → y ≡ M.sets → v ≡ w → r ≡ j → l ≡ n
      → TakesTurn n j a b c M (memories x y) w v (record { job = r; tally = record { left = l; held = h } })
  passed_over is = met is (λ z. z)

pub returns : goal.returns
returns c =
    let args = c.args in
    let n = args.tally.left in
    let M = memories args.relations.now args.sets.now in
    let held = c.held.ensures in
    elim c.if-left-gt0.branch [
      | then-left-gt0+then-job w ↦
          ran_one n args.job args.a args.b args.c M args.work.now held w.if-left-gt0.true w.if-job.true w.ask.ensures w.carry_out-after.ensures
          w.relations-is w.sets-is w.work-is w.after-is w.left-is
      | else-left-gt0 w ↦
          let is : take_turn step n args.job args.a args.b args.c M ≡ turn args.job n M
          = elim w.else-left-gt0.branch [
            | else-left-gt0-via-then-left-gt0+else-job v ↦ stays n args.job args.a args.b args.c M v.if-left-gt0.true v.if-job.false
            | else-left-gt0-via-else-left-gt0 v ↦ stops n args.job args.a args.b args.c M v.if-left-gt0.false
          ] in
          passed_over n args.job args.a args.b args.c M args.work.now held (sym is) w.relations-is w.sets-is w.work-is w.after-is w.left-is
    ]
