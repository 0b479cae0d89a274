-- DEMAND 3: what is claimed of every history, and of the texts that were accepted in it; 01, "A list of calls, and its count".
use Rattle.std.specs.Prelude.{◌≡◌, List, ◌∷◌, ◌++◌, map, ◌↔◌, ℕ, Ok, Err}
use Rattle.model.specs.Meaning.{Relates, Same}
use Rattle.model.specs.Places.{fits_places}
use Rattle.model.specs.Policies.{Policy, policy_program}
use Rattle.model.specs.Programs.{Ran, run}
use Rattle.model.specs.Store.{pick}
use Rattle.store_check.specs.Memory.{Memories, fields, decode}
use Rattle.call_rules.specs.OnMemories.{set_places, rel_places}
use Rattle.call_rules.specs.declared.Refusal.TheVariants.{UsedUp}
use Rattle.policies.specs.declared.PolicyRefusal.TheVariants.{Store}
use Rattle.theorems.specs.AllCalls.{AnyCall, AnyReply, policy, read, all_calls, text_relates, WithinRules, policy_of}
use Rattle.theorems.specs.Histories.{Made, History, left_after}
use Rattle.theorems.specs.Lists.{Listed, Matches, HandlesLast, after_new, on_plain_store}
use Rattle.theorems.specs.PlainStore.{Plain}

-- the arguments of calls that were made, and their answers with the nodes that each added
abbrev pub arguments : List Made → List AnyCall
arguments cs = map (λ c. c.what) cs

abbrev pub replies : List Made → List AnyReply
replies cs = map (λ c. (c.answer, c.added)) cs

-- among the calls is one of the text t, accepted with the handle h
pub record AcceptedIn (cs : List Made) (t : List ℕ) (h : ℕ) : Type 0 where
  pub before : List Made
  pub it : Made
  pub later : List Made
  pub is : cs ≡ before ++ (it ∷ later)
  pub text : it.what ≡ policy t
  pub handle : it.answer ≡ read (Ok h)

module _ (H : History) where
  -- the memories lent to `new`, and those after the first of the calls that followed it
  abbrev pub lent : Memories
  lent = H.new.before

  abbrev pub memories_after : List Made → Memories
  memories_after cs = left_after H.new.after cs

  -- the same calls as a list of steps, and on the plain store: 01, "It is fed the calls' arguments and both numbers of places, no answers"
  abbrev pub as_steps : List Made → Listed AnyReply Memories
  as_steps cs = after_new all_calls H.width lent (arguments cs)

  abbrev pub plain_after : List Made → Listed AnyReply Plain
  plain_after cs = on_plain_store all_calls H.width lent (arguments cs)

  -- what the plain store makes of the policy x after the calls cs
  abbrev pub plain_run : List Made → Policy → Ran
  plain_run cs x = run (policy_program H.width x) (plain_after cs).state.lists

  -- THE CLAIM
  pub record HistoryRight : Type 0 where
    -- answers, nodes added and end are those of the list of steps, whatever working memory each call was lent
    pub steps_replies : replies H.calls ≡ (as_steps H.calls).answers
    pub steps_end : memories_after H.calls ≡ (as_steps H.calls).state
    -- the answers are the plain store's, one by one, and the nodes that each call added are the growth of its lists;
    -- the memories are a store with its lists, and untouched where no place is
    pub plain_replies : replies H.calls ≡ (plain_after H.calls).answers
    pub matches : Matches lent (memories_after H.calls) (plain_after H.calls).state
    -- the number of fields stays, and each handle that was held after the first calls lasts to the end
    pub width : fields (memories_after H.calls) ≡ H.width
    pub lasts : (before later : List Made) → H.calls ≡ before ++ later
        → HandlesLast (decode (memories_after before)) (decode (memories_after H.calls))
    -- the handle of an accepted text relates, at the end, exactly the text's pairs; only a text that keeps the rules is accepted
    pub relates : (t : List ℕ) (h : ℕ) → AcceptedIn H.calls t h
        → Relates H.width (text_relates H.width t) (decode (memories_after H.calls)) h
    pub keeps : (t : List ℕ) (h : ℕ) → AcceptedIn H.calls t h → WithinRules H.width t
    -- two accepted texts have one handle exactly when they relate the same pairs
    pub one_handle : (t u : List ℕ) (g h : ℕ) → AcceptedIn H.calls t g → AcceptedIn H.calls u h
        → (g ≡ h) ↔ Same H.width (text_relates H.width t) (text_relates H.width u)
    -- a text that keeps the rules is refused exactly when the plain store ends longer than the places, and then with 6;
    -- else it has the handle that the plain store gives it. The plain store's own step on the texts before is by the grammar alone: PlainText
    pub refused : (t : List ℕ) (before later : List Made) (it : Made) → H.calls ≡ before ++ (it ∷ later) → it.what ≡ policy t
        → (r : WithinRules H.width t)
        → it.answer ≡ read (pick (fits_places (set_places lent) (rel_places lent) (plain_run before (policy_of r)).store)
        (Ok (plain_run before (policy_of r)).value) (Err (Store UsedUp)))
