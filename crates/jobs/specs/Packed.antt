-- What the exported call says: its answer packed, the list of jobs, and the memories after it.
use Rattle.std.specs.Prelude.{List, [], ◌∷◌, ℕ}
use Rattle.store_check.specs.Memory.{Memories}
use Rattle.call_rules.specs.Added.{held_in, counted}
use Rattle.call_rules.specs.Answers.{refusal_number}
use Rattle.call_rules.specs.declared.added.NodeCounts.{NodeCounts}
use Rattle.packing.specs.Packed.{halves, with_added}
use Rattle.packing.specs.Returns.{Returns}
use Rattle.packing.specs.declared.AddedReply.{AddedReply}
use Rattle.jobs.specs.Jobs.{Called, ran_jobs, declined, JobsAnswer, jobs_step}
use Rattle.jobs.specs.declared.Job.{Job}

-- the number of jobs run, or the refusal's number in the high half
abbrev pub packed_called : Called → ℕ
packed_called (ran_jobs n) = halves 0 (n ∷ [])
packed_called (declined r) = halves (refusal_number r) []

abbrev pub packed_jobs : JobsAnswer × NodeCounts → AddedReply × List Job
packed_jobs r = (with_added (packed_called r.0.called) r.1, r.0.jobs)

-- the jobs js, n of them at most, on the memories M: r is returned, and js' is the list afterwards
abbrev pub RunsJobs : List Job → ℕ → Memories → Memories → List ℕ → List ℕ → AddedReply → List Job → Type 0
RunsJobs js n M M' w w' r js' = Returns packed_jobs (counted held_in M (jobs_step js n M)) M' w w' (r, js')
