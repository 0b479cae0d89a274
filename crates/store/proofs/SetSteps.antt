-- The calls on sets as calls that add sets, or nothing: each is safe by its meaning.
use mathlib.Core.Path.{◌≡◌, refl}
use Rattle.std.specs.Prelude.{Ok, Err}
use Rattle.model.specs.Store.{set}
use Rattle.store.specs.Calls.{set_call, set_read, step}
use Rattle.call_rules.specs.OnMemories.{on_store}
use Rattle.call_rules.specs.Outcome.{as_handle}
use Rattle.store_check.specs.Memory.{Memories}
use Rattle.store.specs.SetCalls.{set_declines, set_program, set_verdict, set_read_declines, set_read_answer, set_read_verdict}
use Rattle.store.specs.SetChecking.{SetReadSafe}
use Rattle.store.specs.declared.set_calls.SetCall.{SetCall}
use Rattle.store.specs.declared.set_reads.SetRead.{SetRead}
use Rattle.call_rules.proofs.CallSteps.{AddingCall, ReadingCall}
use Rattle.store.proofs.SetMeant.{set_does, set_read_safe}

pub set_steps : (c : SetCall) (M : Memories) → step (set_call c) M ≡ on_store Err (set_verdict c) M
unfolding step
set_steps c M = refl

abbrev pub set_adding : (c : SetCall) → AddingCall Err set (step (set_call c))
set_adding c = record {
  check = λ k S. set_declines k c S;
  program = λ k l. set_program k l c;
  answer = λ S. as_handle;
  steps = set_steps c;
  safe = λ k S l F e. (set_does F c e).safe;
}

pub set_read_steps : (c : SetRead) (M : Memories) → step (set_read c) M ≡ on_store Err (set_read_verdict c) M
unfolding step
set_read_steps c M = refl

abbrev pub set_reading : (c : SetRead) → ReadingCall Err Ok (step (set_read c))
set_reading c = record {
  check = λ k S. set_read_declines k c S;
  needs = λ S l. SetReadSafe S l c;
  answer = λ S l. set_read_answer S l c;
  steps = set_read_steps c;
  safe = λ k S l F e. set_read_safe F c e;
}
