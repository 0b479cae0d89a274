-- A list of calls on the two memories, and beside it on the plain store: document 01, "A list of calls, and its count".
use Rattle.std.specs.Prelude.{◌≡◌, List, [], ◌∷◌, ◌++◌, ℕ, length, Result, Ok, Err}
use Rattle.model.specs.Images.{blank, new}
use Rattle.model.specs.Meaning.{Lasts}
use Rattle.model.specs.Programs.{run}
use Rattle.model.specs.Store.{Kind, Store}
use Rattle.model.specs.WellFormed.{Held}
use Rattle.store_check.specs.Memory.{Memories, memory, fields, places_in, decode, encode}
use Rattle.store_check.specs.Valid.{IsStore}
use Rattle.store.specs.Calls.{Call, new_store, step}
use Rattle.call_rules.specs.OnMemories.{set_places, rel_places}
use Rattle.call_rules.specs.Outcome.{Outcome}
use Rattle.theorems.specs.PlainStore.{Plain, plain_step, begun}
use Rattle.call_rules.specs.declared.Answer.{Answer}
use Rattle.call_rules.specs.declared.Answer.TheVariants.{Handle}
use Rattle.call_rules.specs.declared.Refusal.{Refusal}

-- LISTS of calls of any type C on any state X: the answers in order, and what the last call leaves;
-- `answer` and `next` say what a call answers and what it leaves. 01: "Each is lent the same two slices as the call before left them"
pub record Listed (A X : Type 0) : Type 0 where
  pub answers : List A
  pub state : X

unfoldable pub in_turn : {C A X : Type 0} → (C → X → A) → (C → X → X) → List C → X → Listed A X
in_turn answer next [] x = record { answers = []; state = x }
in_turn answer next (c ∷ cs) x = (let r = in_turn answer next cs (next c x) in record { answers = answer c x ∷ r.answers; state = r.state })

-- every call of the list has Q on the state that it is made on
unfoldable pub each_call : {C X : Type 0} → (C → X → X) → (C → X → Type 0) → List C → X → Type 0
each_call next Q [] x = Unit {0}
each_call next Q (c ∷ cs) x = Q c x × each_call next Q cs (next c x)

-- the outcomes of calls of type C, with answers of type A: on the memories; on the plain store, with m places for sets and n for relations;
-- and when a call continues the store that is there
pub record Calling (C A : Type 0) : Type 1 where
  pub on_memories : C → Memories → Outcome A Memories
  pub on_plain : ℕ → ℕ → C → Plain → Outcome A Plain
  pub Continues : C → Memories → Type 0

abbrev pub answer_of : {C A X : Type 0} → (C → X → Outcome A X) → C → X → A
answer_of f c x = (f c x).answer

abbrev pub left_by : {C A X : Type 0} → (C → X → Outcome A X) → C → X → X
left_by f c x = (f c x).state

-- 01, demand 3's list: "any `new` that is refused"
pub record Refused (a : Result Answer Refusal) : Type 0 where
  pub why : Refusal
  pub is : a ≡ Err why

abbrev pub NewRefused : Call → Memories → Type 0
NewRefused c M = (k : ℕ) → c ≡ new_store k → Refused (step c M).answer

-- the calls of `store`
abbrev pub store_calls : Calling Call (Result Answer Refusal)
store_calls = record { on_memories = step; on_plain = plain_step; Continues = NewRefused }

-- WHAT IS CLAIMED. M, slices as long as M₀, are a store and hold the plain store P; all else in them is as in M₀:
-- 01, "numbers beyond the last place are never touched"
pub record Matches (M₀ M : Memories) (P : Plain) : Type 0 where
  pub store : IsStore M
  pub long : (K : Kind) → length (memory K M) ≡ length (memory K M₀)
  pub places : (K : Kind) → places_in K (memory K M) ≡ places_in K (memory K M₀)
  pub width : fields M ≡ P.width
  pub lists : decode M ≡ P.lists
  pub written : M ≡ encode P.width P.lists M₀

-- the same answer, and what is left matches
pub record Alike {A : Type 0} (M₀ : Memories) (t : Outcome A Memories) (u : Outcome A Plain) : Type 0 where
  pub answer : t.answer ≡ u.answer
  pub matches : Matches M₀ t.state u.state

-- each handle that is held in S lasts in S'
abbrev pub HandlesLast : Store → Store → Type 0
HandlesLast S S' = (K : Kind) (l h : ℕ) → Held K S l h → Lasts K S S' l h

-- P' has the number of fields of P, and the handles of P last in it
pub record ContinuesTo (P P' : Plain) : Type 0 where
  pub width : P'.width ≡ P.width
  pub handles : HandlesLast P.lists P'.lists

module _ {C A : Type 0} (Z : Calling C A) where
  abbrev pub steps : List C → Memories → Listed A Memories
  steps cs M = in_turn (answer_of Z.on_memories) (left_by Z.on_memories) cs M

  abbrev pub plain_steps : ℕ → ℕ → List C → Plain → Listed A Plain
  plain_steps m n cs P = in_turn (answer_of (Z.on_plain m n)) (left_by (Z.on_plain m n)) cs P

  -- no call of the list starts a new store
  abbrev pub AllContinue : List C → Memories → Type 0
  AllContinue cs M = each_call (left_by Z.on_memories) Z.Continues cs M

  -- one call on memories M that match P, written over M₀
  pub record CallRight (M₀ M : Memories) (P : Plain) (c : C) : Type 0 where
    pub alike : Alike M₀ (Z.on_memories c M) (Z.on_plain (set_places M₀) (rel_places M₀) c P)
    pub continues : Z.Continues c M → ContinuesTo P (Z.on_plain (set_places M₀) (rel_places M₀) c P).state

  -- a list of calls after `new k` on the memories M₀, and the same calls on the plain store
  module _ (k : ℕ) (M₀ : Memories) (cs : List C) where
    abbrev pub after_new : Listed A Memories
    after_new = steps cs (step (new_store k) M₀).state

    abbrev pub on_plain_store : Listed A Plain
    on_plain_store = plain_steps (set_places M₀) (rel_places M₀) cs (begun k)

  -- what is claimed of it, where that `new` was accepted
  pub record ListRight (k : ℕ) (M₀ : Memories) (cs : List C) : Type 0 where
    pub new_answer : (step (new_store k) M₀).answer ≡ Ok (Handle (run (new k) blank).value)
    -- the same answers, one by one; the memories are a store with the same lists, and untouched where no place is
    pub answers : (after_new k M₀ cs).answers ≡ (on_plain_store k M₀ cs).answers
    pub matches : Matches M₀ (after_new k M₀ cs).state (on_plain_store k M₀ cs).state
    -- in demand 3's lists the number of fields stays, and each handle that was held after the first calls lasts to the end
    pub width : AllContinue cs (step (new_store k) M₀).state → fields (after_new k M₀ cs).state ≡ k
    pub lasts : AllContinue cs (step (new_store k) M₀).state → (before later : List C) → cs ≡ before ++ later
        → HandlesLast (decode (after_new k M₀ before).state) (decode (after_new k M₀ cs).state)
