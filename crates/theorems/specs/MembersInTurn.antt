-- What calls of `next` give in turn, each with the record as the call before left it: 02, M-103.
use Rattle.std.specs.Prelude.{◌≡◌, List, [], ◌∷◌, ◌++◌, true, ℕ, zero, suc, eqb, length, replicate, Result, Ok}
use Rattle.model.specs.FieldOrder.{is_before}
use Rattle.model.specs.Members.{passing, members, InOrder}
use Rattle.model.specs.Packets.{packet, number, contains}
use Rattle.model.specs.Store.{set, Store, pick}
use Rattle.model.specs.WellFormed.{Held}
use Rattle.store_check.specs.Memory.{Memories, decode}
use Rattle.call_rules.specs.declared.Answer.{Answer}
use Rattle.call_rules.specs.declared.Refusal.{Refusal}
use Rattle.call_rules.specs.declared.Answer.TheVariants.{Nothing, Member}
use Rattle.store.specs.Calls.{set_read, step}
use Rattle.store.specs.Cursors.{does_last_fit, is_to_come, with_last, at_end, moved}
use Rattle.store.specs.declared.set_reads.Cursor.{Cursor}
use Rattle.store.specs.declared.set_reads.SetRead.TheVariants.{Next}
use Rattle.theorems.specs.EveryHistory.{memories_after}
use Rattle.theorems.specs.Histories.{Made, History}
use Rattle.theorems.specs.Lists.{Listed, in_turn}

-- the answer of `next` on the memories M, with the record c
abbrev pub next_answer : Memories → Cursor → Result Answer Refusal
next_answer M c = (step (set_read (Next c)) M).answer

-- CALLS OF `next` IN TURN, the first on the first of these memories and so on: the answers, and the record as the last call leaves it
abbrev pub nexts : List Memories → Cursor → Listed (Result Answer Refusal) Cursor
nexts Ms c = in_turn next_answer (λ M c. moved (next_answer M c) c) Ms c

-- the members still to come, in field order, of the set that the record names, of level l in S; none where the end was met
abbrev pub to_come : Store → ℕ → Cursor → List (List ℕ)
to_come S l c = pick (eqb c.ended 0) (passing l (is_to_come S l c)) []

-- n calls where the packets ps are to come: "each member exactly once, then 'end', as at any call whose record has the end met"
unfoldable pub given_in_turn : ℕ → List (List ℕ) → Cursor → Listed (Result Answer Refusal) Cursor
given_in_turn zero ps c = record { answers = []; state = c }
given_in_turn (suc n) [] c = record { answers = replicate (suc n) (Ok Nothing); state = at_end c }
given_in_turn (suc n) (p ∷ ps) c = (let r = given_in_turn n ps (with_last c (number p)) in
    record { answers = Ok (Member (number p)) ∷ r.answers; state = r.state })

-- the record's last packet, where one was given, has a number of level l
abbrev pub LastFits : ℕ → Cursor → Type 0
LastFits l c = does_last_fit l c ≡ true

-- ON ONE STORE. The calls give what is to come
pub record MembersRight (M : Memories) (l : ℕ) (c : Cursor) : Type 0 where
  pub in_turn : (n : ℕ) → nexts (replicate n M) c ≡ given_in_turn n (to_come (decode M) l c) c
  -- "From a record with none given and no end met": all members, in order
  pub all : c.given ≡ 0 → c.ended ≡ 0 → to_come (decode M) l c ≡ members (decode M) l c.handle
  pub order : InOrder l (contains (decode M) c.handle) (members (decode M) l c.handle)
  -- "The last header need not be a member; the next member after it follows": the members after it, in order
  pub after : ¬ (c.given ≡ 0) → c.ended ≡ 0
      → InOrder l (λ p. contains (decode M) c.handle p × (is_before (packet l c.last) p ≡ true)) (to_come (decode M) l c)

-- OVER A HISTORY. M is what the memories were after the calls `before`, or after some of those that followed
pub record MomentAfter (H : History) (before : List Made) (M : Memories) : Type 0 where
  pub between : List Made
  pub later : List Made
  pub is : H.calls ≡ before ++ (between ++ later)
  pub there : M ≡ memories_after H (before ++ between)

abbrev pub Each : (Memories → Type 0) → List Memories → Type 0
Each P [] = Unit {0}
Each P (M ∷ Ms) = P M × Each P Ms

-- 02: "Of a held set, calls but `new` between two listings, nobody else writing, never alter what is listed." A set that was held after the calls `before`
-- is taken in turn by calls of `next` at any moments since then: they give what was to come there. And any two such moments give one answer
pub record NeverAltered (H : History) : Type 0 where
  pub in_turn : (before : List Made) (l : ℕ) (c : Cursor) → Held set (decode (memories_after H before)) l c.handle → LastFits l c
      → (Ms : List Memories) → Each (MomentAfter H before) Ms
      → nexts Ms c ≡ given_in_turn (length Ms) (to_come (decode (memories_after H before)) l c) c
  pub alike : (before : List Made) (l : ℕ) (c : Cursor) → Held set (decode (memories_after H before)) l c.handle
      → (M M' : Memories) → MomentAfter H before M → MomentAfter H before M' → next_answer M c ≡ next_answer M' c
