-- All calls on a store but policies, and the outcome of each on two memories.
use Rattle.std.specs.Prelude.{Result, Err, ℕ}
use Rattle.store_check.specs.Memory.{Memories}
use Rattle.call_rules.specs.Outcome.{Outcome}
use Rattle.call_rules.specs.OnMemories.{on_store, new_step}
use Rattle.store.specs.SetCalls.{set_verdict, set_read_verdict}
use Rattle.store.specs.RelationCalls.{relation_verdict, relation_read_verdict}
use Rattle.store.specs.ImageCalls.{image_verdict, filter_verdict, path_verdict}
use Rattle.call_rules.specs.declared.Answer.{Answer}
use Rattle.store.specs.declared.set_calls.SetCall.{SetCall}
use Rattle.store.specs.declared.set_reads.SetRead.{SetRead}
use Rattle.store.specs.declared.image_calls.ImageCall.{ImageCall}
use Rattle.store.specs.declared.filter_calls.FilterCall.{FilterCall}
use Rattle.store.specs.declared.path_reads.PathRead.{PathRead}
use Rattle.store.specs.declared.relation_calls.RelationCall.{RelationCall}
use Rattle.store.specs.declared.relation_reads.RelationRead.{RelationRead}
use Rattle.call_rules.specs.declared.Refusal.{Refusal}

pub data Call : Type 0 where
  new_store : ℕ → Call
  set_call : SetCall → Call
  set_read : SetRead → Call
  relation_call : RelationCall → Call
  relation_read : RelationRead → Call
  image_call : ImageCall → Call
  filter_call : FilterCall → Call
  path_read : PathRead → Call

-- the answer of a call on two memories, and the memories after it
unfoldable pub step : Call → Memories → Outcome (Result Answer Refusal) Memories
step (new_store k) M = new_step k M
step (set_call c) M = on_store Err (set_verdict c) M
step (set_read c) M = on_store Err (set_read_verdict c) M
step (relation_call c) M = on_store Err (relation_verdict c) M
step (relation_read c) M = on_store Err (relation_read_verdict c) M
step (image_call c) M = on_store Err (image_verdict c) M
step (filter_call c) M = on_store Err (filter_verdict c) M
step (path_read c) M = on_store Err (path_verdict c) M
