-- The calls between relations and sets as calls that add sets, relations, or nothing: each is safe by its meaning.
use mathlib.Core.Path.{◌≡◌, refl}
use Rattle.std.specs.Prelude.{Ok, Err}
use Rattle.model.specs.Store.{set, rel}
use Rattle.store.specs.Calls.{image_call, filter_call, path_read, step}
use Rattle.call_rules.specs.OnMemories.{on_store}
use Rattle.call_rules.specs.Outcome.{as_handle}
use Rattle.store.specs.ImageCalls.{image_declines, image_program, image_verdict, filter_declines, filter_program, filter_verdict}
use Rattle.store.specs.ImageCalls.{path_declines, path_answer, path_verdict}
use Rattle.store.specs.ImageChecking.{PathSafe}
use Rattle.store_check.specs.Memory.{Memories}
use Rattle.store.specs.declared.image_calls.ImageCall.{ImageCall}
use Rattle.store.specs.declared.filter_calls.FilterCall.{FilterCall}
use Rattle.store.specs.declared.path_reads.PathRead.{PathRead}
use Rattle.call_rules.proofs.CallSteps.{AddingCall, ReadingCall}
use Rattle.store.proofs.ImageMeant.{image_does, filter_does, path_safe}

pub image_steps : (c : ImageCall) (M : Memories) → step (image_call c) M ≡ on_store Err (image_verdict c) M
unfolding step
image_steps c M = refl

abbrev pub image_adding : (c : ImageCall) → AddingCall Err set (step (image_call c))
image_adding c = record {
  check = λ k S. image_declines k c S;
  program = λ k l. image_program l c;
  answer = λ S. as_handle;
  steps = image_steps c;
  safe = λ k S l F e. (image_does F c e).safe;
}

pub filter_steps : (c : FilterCall) (M : Memories) → step (filter_call c) M ≡ on_store Err (filter_verdict c) M
unfolding step
filter_steps c M = refl

abbrev pub filter_adding : (c : FilterCall) → AddingCall Err rel (step (filter_call c))
filter_adding c = record {
  check = λ k S. filter_declines k c S;
  program = λ k l. filter_program l c;
  answer = λ S. as_handle;
  steps = filter_steps c;
  safe = λ k S l F e. (filter_does F c e).safe;
}

pub path_steps : (c : PathRead) (M : Memories) → step (path_read c) M ≡ on_store Err (path_verdict c) M
unfolding step
path_steps c M = refl

abbrev pub path_reading : (c : PathRead) → ReadingCall Err Ok (step (path_read c))
path_reading c = record {
  check = λ k S. path_declines k c S;
  needs = λ S l. PathSafe S l c;
  answer = λ S l. path_answer S l c;
  steps = path_steps c;
  safe = λ k S l F e. path_safe F c e;
}
