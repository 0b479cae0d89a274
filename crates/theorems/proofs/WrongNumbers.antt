-- Two wrong versions of M-105's claims, refuted on packets of two fields: that a packet's number is its place in field order, and that the members of a set
-- come with ever greater numbers.
use mathlib.Core.Path.{◌≡◌, refl}
use mathlib.Core.List.{List, [], ◌∷◌}
use mathlib.Core.Option.{some}
use Prim.Native.Nat.{ℕ, ◌<◌}
use native.Mathlib.Omega.{arith}
use Rattle.model.specs.FieldOrder.{is_before, rank}
use Rattle.model.specs.FirstPair.{first_packet}
use Rattle.model.specs.Packets.{Packet, none, more, packet, number}
use Rattle.model.specs.Store.{Store, get}
use Rattle.store.specs.Cursors.{next_member}
use Rattle.store.specs.declared.set_reads.Cursor.{Cursor}

-- handle 5 is the full set of two fields
abbrev all_packets : Store
all_packets = record { sets = (0 ∷ 0 ∷ []) ∷ (2 ∷ 2 ∷ []) ∷ []; rels = [] }

-- THE PLACE IN FIELD ORDER: the packet 10, field 0 first, is the third of four, and its number is 1
pub number_as_place : ¬ ((l : ℕ) (p : List ℕ) → Packet l p → number p ≡ rank p)
unfolding number rank
number_as_place h = let e : ◌≡◌ {A = ℕ} 1 2 = h 2 (1 ∷ 0 ∷ []) (more 1 (omega arith) (more 0 (omega arith) none)) in omega arith

-- EVER GREATER NUMBERS: after the packet 01, whose number is 2, comes 10
pub greater_numbers : ¬ ((S : Store) (l : ℕ) (c : Cursor) (p : List ℕ) → ¬ (c.given ≡ 0) → next_member S l c ≡ some p → c.last < number p)
unfolding first_packet is_before packet number get
greater_numbers h =
    let c : Cursor = record { handle = 5; last = 2; given = 1; ended = 0 } in
    let i : 2 < 1 = h all_packets 2 c (1 ∷ 0 ∷ []) (λ e. let z : ⊥ = omega arith in z) refl in omega arith
