-- `packet_store_run_jobs`: what `begin` ensures is the first head, what `find_places` and `run_one` ensure makes the next one, and where no turn is left
-- what `conclude` ensures is what the call says.
use mathlib.Core.Path.{◌≡◌, ap, ◌∙◌}
use Prim.Native.Nat.{ℕ}
use mathlib.Core.List.{List}
use native.Mathlib.Omega.{arith}
use lib.ListN.{length, get_or}
use Rattle.std.specs.Result.{result_unwrap_or}
use Rattle.store_check.specs.Memory.{Memories, memories}
use Rattle.jobs.specs.ByValue.{zeros, places_of, TakesTurn, begun_of, concluded}
use Rattle.jobs.specs.declared.Job.{Job}
use Rattle.jobs.specs.declared.begins.Begun.{Begun}
use Rattle.jobs.specs.declared.turns.Places.{Places}
use Rattle.jobs.specs.declared.turns.Turned.{Turned}
use Rattle.jobs.proofs.InTurn.{no_job, Head, first_head, next_head, says_so}
use Rattle.jobs.proofs.exported.packet_store_run_jobs.Goals as goal

-- where the memories are as they were, and zeros in the place of the working memory
begins : (js : List Job) (limit : ℕ) (x y w : List ℕ) {b : Begun} {x' y' w' : List ℕ} → b ≡ begun_of (memories x y) (length js) limit → x' ≡ x → y' ≡ y
    → w' ≡ zeros w → Head js limit (memories x y) w 0 js b.tally (memories x' y') w'
begins js limit x y w b-is x-is y-is w-is = rw (b-is, x-is, y-is, w-is) (first_head js limit (memories x y) w)

-- a turn on the records at the places that were found is one on the records that the operands name
at_places : {n : ℕ} (i : ℕ) (j : Job) (ys : List Job) {p : Places} {M M' : Memories} {w w' : List ℕ} {r : Turned} → p ≡ places_of j i
    → TakesTurn n j (get_or ys p.a no_job) (get_or ys p.b no_job) (get_or ys p.c no_job) M M' w w' r
    → (let q = places_of j i in TakesTurn n j (get_or ys q.a no_job) (get_or ys q.b no_job) (get_or ys q.c no_job) M M' w w' r)
at_places i j ys p-is e = rw p-is at e

-- the turns that a call has are those that it began with
turns_are : {b d : Begun} {n : ℕ} → b ≡ d → n ≡ result_unwrap_or b.turns 0 → n ≡ result_unwrap_or d.turns 0
turns_are e is = is ∙ ap (λ (b : Begun). result_unwrap_or b.turns 0) e

pub loop-i-init : goal.loop-i-init
loop-i-init c =
    let args = c.args in
    let begun = c.begin-begun.ensures in
    (begun.0, begins args.jobs.now args.limit args.relations.now args.sets.now args.work.now begun.0 begun.1 begun.2 begun.3)

pub loop-i-preserved : goal.loop-i-preserved
loop-i-preserved c =
    let args = c.args in
    let now = c.loop-i in
    let done = c.run_one-done in
    let turns = turns_are now.invariant.0 c.unwrap_or-i-end.ensures in (
      now.invariant.0,
      next_head args.jobs.now args.limit (memories args.relations.now args.sets.now) args.work.now now.i now.jobs now.tally
          (memories now.relations now.sets) now.work now.invariant.1 (omega arith) done.result
          (memories done.new.relations done.new.sets) done.new.work
          (at_places now.i (get_or now.jobs now.i no_job) now.jobs c.find_places-at.ensures done.ensures) done.auto.relations done.auto.sets done.auto.work,
    )

pub returns : goal.returns
returns c =
    let args = c.args in
    let now = c.loop-i in
    let turns = turns_are now.invariant.0 c.unwrap_or-i-end.ensures in
    says_so args.jobs.now args.limit (memories args.relations.now args.sets.now) args.work.now now.i now.jobs now.tally
    (memories now.relations now.sets) now.work now.invariant.1 (omega arith) c.conclude.result
    (c.conclude.ensures ∙ ap (λ (b : Begun). concluded b now.tally) now.invariant.0)
