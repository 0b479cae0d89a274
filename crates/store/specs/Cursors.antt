-- The members of a set, one at a time, by a record that the caller lends: 02, M-103, "the set's handle, the last header given, whether any was
-- given, whether the end was met". Of a mark 0 is no and any other number yes, so that any numbers in the record have a meaning.
use Rattle.std.specs.Prelude.{Result, Ok, Err, List, Bool, ◌&&◌, ◌||◌, ℕ, ◌^◌, eqb, ltb}
use Rattle.std.proofs.Math.Option.{Option, none, some}
use Rattle.model.specs.Store.{Store, pick}
use Rattle.model.specs.Packets.{packet, number}
use Rattle.model.specs.FieldOrder.{is_before}
use Rattle.model.specs.FirstPair.{first_packet}
use Rattle.model.specs.Members.{is_member}
use Rattle.call_rules.specs.declared.Answer.{Answer}
use Rattle.call_rules.specs.declared.Answer.TheVariants.{Handle, Truth, SetNode, RelationNode, Pair, Nothing, Member}
use Rattle.call_rules.specs.declared.Refusal.{Refusal}
use Rattle.store.specs.declared.set_reads.Cursor.{Cursor}

-- whether the last packet, where one was given, has a number of level l
abbrev pub does_last_fit : ℕ → Cursor → Bool
does_last_fit l c = eqb c.given 0 || ltb c.last (2 ^ l)

-- whether the packet p of l fields is still to come: a member, and after the last one where any was given. 02: "The last header need not be a member"
abbrev pub is_to_come : Store → ℕ → Cursor → List ℕ → Bool
is_to_come S l c p = is_member S c.handle p && (eqb c.given 0 || is_before (packet l c.last) p)

-- the next member, none where the end was met
abbrev pub next_member : Store → ℕ → Cursor → Option (List ℕ)
next_member S l c = pick (eqb c.ended 0) (first_packet l (is_to_come S l c)) none

abbrev pub as_member : Option (List ℕ) → Answer
as_member none = Nothing
as_member (some p) = Member (number p)

-- THE RECORD AFTER A CALL. A member was given; the end was met: "Meeting the end sets only its mark"
abbrev pub with_last : Cursor → ℕ → Cursor
with_last c x = record { handle = c.handle; last = x; given = 1; ended = c.ended }

abbrev pub at_end : Cursor → Cursor
at_end c = record { handle = c.handle; last = c.last; given = c.given; ended = pick (eqb c.ended 0) 1 c.ended }

-- "A refusal leaves the record as it was", as would any other answer
abbrev pub moved : Result Answer Refusal → Cursor → Cursor
moved (Ok (Handle h)) c = c
moved (Ok (Truth b)) c = c
moved (Ok (SetNode x0 x1)) c = c
moved (Ok (RelationNode x00 x01 x10 x11)) c = c
moved (Ok (Pair x y)) c = c
moved (Ok Nothing) c = at_end c
moved (Ok (Member x)) c = with_last c x
moved (Err r) c = c
