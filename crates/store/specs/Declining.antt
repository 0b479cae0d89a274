-- On memories that are no store each call is declined with 1, and leaves them as they are.
use Rattle.std.specs.Prelude.{Err, ◌≡◌, false}
use Rattle.store_check.specs.Memory.{Memories}
use Rattle.store_check.specs.Valid.{is_store}
use Rattle.call_rules.specs.Outcome.{outcome}
use Rattle.call_rules.specs.declared.Refusal.TheVariants.{NotStore}
use Rattle.call_rules.proofs.Outcomes.{not_store}
use Rattle.store.specs.Calls.{set_call, set_read, relation_call, relation_read, image_call, filter_call, path_read, step}
use Rattle.store.specs.SetCalls.{set_verdict, set_read_verdict}
use Rattle.store.specs.RelationCalls.{relation_verdict, relation_read_verdict}
use Rattle.store.specs.ImageCalls.{image_verdict, filter_verdict, path_verdict}
use Rattle.store.specs.declared.set_calls.SetCall.{SetCall}
use Rattle.store.specs.declared.set_reads.SetRead.{SetRead}
use Rattle.store.specs.declared.relation_calls.RelationCall.{RelationCall}
use Rattle.store.specs.declared.relation_reads.RelationRead.{RelationRead}
use Rattle.store.specs.declared.image_calls.ImageCall.{ImageCall}
use Rattle.store.specs.declared.filter_calls.FilterCall.{FilterCall}
use Rattle.store.specs.declared.path_reads.PathRead.{PathRead}

pub set_call_no_store : (c : SetCall) (M : Memories) → is_store M ≡ false → outcome (Err NotStore) M ≡ step (set_call c) M
unfolding step
set_call_no_store c M e = not_store Err (set_verdict c) M e

pub set_read_no_store : (c : SetRead) (M : Memories) → is_store M ≡ false → outcome (Err NotStore) M ≡ step (set_read c) M
unfolding step
set_read_no_store c M e = not_store Err (set_read_verdict c) M e

pub relation_call_no_store : (c : RelationCall) (M : Memories) → is_store M ≡ false → outcome (Err NotStore) M ≡ step (relation_call c) M
unfolding step
relation_call_no_store c M e = not_store Err (relation_verdict c) M e

pub relation_read_no_store : (c : RelationRead) (M : Memories) → is_store M ≡ false → outcome (Err NotStore) M ≡ step (relation_read c) M
unfolding step
relation_read_no_store c M e = not_store Err (relation_read_verdict c) M e

pub image_call_no_store : (c : ImageCall) (M : Memories) → is_store M ≡ false → outcome (Err NotStore) M ≡ step (image_call c) M
unfolding step
image_call_no_store c M e = not_store Err (image_verdict c) M e

pub filter_call_no_store : (c : FilterCall) (M : Memories) → is_store M ≡ false → outcome (Err NotStore) M ≡ step (filter_call c) M
unfolding step
filter_call_no_store c M e = not_store Err (filter_verdict c) M e

pub path_read_no_store : (c : PathRead) (M : Memories) → is_store M ≡ false → outcome (Err NotStore) M ≡ step (path_read c) M
unfolding step
path_read_no_store c M e = not_store Err (path_verdict c) M e
