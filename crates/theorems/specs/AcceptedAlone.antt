-- DEMAND 2 over histories: the accepted answers are those of the operations' programs run, without limit of places, on the accepted calls
-- since `new` alone, as the Rust runs them, which has neither places nor refusals.
use Rattle.std.specs.Prelude.{◌≡◌, List, [], ◌∷◌, Bool, true, false, ◌&&◌, not, eqb}
use Rattle.model.specs.Programs.{run}
use Rattle.model.specs.Store.{Store, pick}
use Rattle.store_check.specs.Memory.{decode}
use Rattle.call_rules.specs.Outcome.{Verdict, gives, runs, Outcome, outcome, map_answer}
use Rattle.theorems.specs.AllCalls.{AnyCall, call, policy, AnyAnswer, answered, read, any_refusal, Effect, begins, adds, reads, effect}
use Rattle.theorems.specs.AllCalls.{AnyReply, any_counted}
use Rattle.theorems.specs.EveryHistory.{arguments, replies, memories_after}
use Rattle.theorems.specs.Histories.{Made, History}
use Rattle.theorems.specs.Lists.{Listed, in_turn, answer_of, left_by}
use Rattle.theorems.specs.PlainStore.{Plain, lengths, Asked, asked, asked_policy, begun}

-- WITHOUT LIMIT of places: a program is run, and its lists are taken
unfoldable pub unlimited : {A X : Type 0} → Verdict A → Store → X → (Store → X) → Outcome A X
unlimited (gives a) S x put = outcome a x
unlimited (runs p f) S x put = outcome (f (run p S)) (put (run p S).store)

abbrev pub without_limit : {A : Type 0} → Asked A → Plain → Outcome A Plain
without_limit q P = unlimited q.verdict q.lists P q.taken

unfoldable pub unlimited_step : AnyCall → Plain → Outcome AnyAnswer Plain
unlimited_step (call c) P = map_answer answered (without_limit (asked c P) P)
unlimited_step (policy t) P = map_answer read (without_limit (asked_policy t P) P)

-- with the growth of the lists
abbrev pub unlimited_reply_step : AnyCall → Plain → Outcome AnyReply Plain
unlimited_reply_step c P = any_counted lengths c P (unlimited_step c P)

-- THE ACCEPTED CALLS: no refusal was returned
abbrev pub is_accepted : Made → Bool
is_accepted c = eqb (any_refusal c.answer) 0

-- those among them that do more than read
abbrev pub does_read : Effect → Bool
does_read begins = false
does_read adds = false
does_read reads = true

abbrev pub is_adding : Made → Bool
is_adding c = is_accepted c && not (does_read (effect c.what))

-- the calls that pass a test, in their order
unfoldable pub chosen : (Made → Bool) → List Made → List Made
chosen t [] = []
chosen t (c ∷ cs) = pick (t c) (c ∷ chosen t cs) (chosen t cs)

module _ (H : History) where
  -- some of its calls alone, run without limit after `new`
  abbrev pub run_alone : List Made → Listed AnyReply Plain
  run_alone cs = in_turn (answer_of unlimited_reply_step) (left_by unlimited_reply_step) (arguments cs) (begun H.width)

  -- they have the answers that they had in the history and add as many nodes, and make the lists that its memories hold at the end
  pub record Alone (cs : List Made) : Type 0 where
    pub same_replies : replies cs ≡ (run_alone cs).answers
    pub same_lists : decode (memories_after H H.calls) ≡ (run_alone cs).state.lists

  -- THE CLAIM: refused calls, refused `new`s among them, change no answer; nor do calls that only read
  pub record AcceptedAlone : Type 0 where
    pub accepted : Alone (chosen is_accepted H.calls)
    pub adding : Alone (chosen is_adding H.calls)
