-- The loop over the jobs: what holds at the head of a turn is `InTurn`'s `Head`, from what the call began with.
use mathlib.Core.Path.{◌≡◌}
use lib.ListN.{length}
use Rattle.store_check.specs.Memory.{memories}
use Rattle.jobs.specs.ByValue.{begun_of}
use Rattle.jobs.proofs.InTurn.{Head}
use Rattle.jobs.proofs.exported.packet_store_run_jobs.Given as goal

abbrev pub invariant-loop-i : goal.invariant-loop-i
invariant-loop-i l =
    (l.begun ≡ begun_of (memories l.fn.relations l.fn.sets) (length l.fn.jobs) l.limit)
    × Head l.fn.jobs l.limit (memories l.fn.relations l.fn.sets) l.fn.work l.i l.jobs l.tally (memories l.relations l.sets) l.work
