-- The calls on relations as calls that add relations, or nothing: each is safe by its meaning.
use mathlib.Core.Path.{◌≡◌, refl}
use Rattle.std.specs.Prelude.{Ok, Err}
use Rattle.model.specs.Store.{rel}
use Rattle.store.specs.Calls.{relation_call, relation_read, step}
use Rattle.call_rules.specs.OnMemories.{on_store}
use Rattle.call_rules.specs.Outcome.{as_handle}
use Rattle.store_check.specs.Memory.{Memories}
use Rattle.store.specs.RelationCalls.{relation_declines, relation_program, relation_verdict, relation_read_declines, relation_read_answer}
use Rattle.store.specs.RelationCalls.{relation_read_verdict}
use Rattle.store.specs.RelationChecking.{RelationReadSafe}
use Rattle.store.specs.declared.relation_calls.RelationCall.{RelationCall}
use Rattle.store.specs.declared.relation_reads.RelationRead.{RelationRead}
use Rattle.call_rules.proofs.CallSteps.{AddingCall, ReadingCall}
use Rattle.store.proofs.RelationMeant.{relation_does, relation_read_safe}

pub relation_steps : (c : RelationCall) (M : Memories) → step (relation_call c) M ≡ on_store Err (relation_verdict c) M
unfolding step
relation_steps c M = refl

abbrev pub relation_adding : (c : RelationCall) → AddingCall Err rel (step (relation_call c))
relation_adding c = record {
  check = λ k S. relation_declines k c S;
  program = λ k l. relation_program k l c;
  answer = λ S. as_handle;
  steps = relation_steps c;
  safe = λ k S l F e. (relation_does F c e).safe;
}

pub relation_read_steps : (c : RelationRead) (M : Memories) → step (relation_read c) M ≡ on_store Err (relation_read_verdict c) M
unfolding step
relation_read_steps c M = refl

abbrev pub relation_reading : (c : RelationRead) → ReadingCall Err Ok (step (relation_read c))
relation_reading c = record {
  check = λ k S. relation_read_declines k c S;
  needs = λ S l. RelationReadSafe S l c;
  answer = λ S l. relation_read_answer S l c;
  steps = relation_read_steps c;
  safe = λ k S l F e. relation_read_safe F c e;
}
