-- Four wrong versions of M-103's claims, refuted on the set of one field that has the packet 1 alone and at level 0: that the last packet must be a member,
-- that the last packet itself is given again, that the end comes before 5, and that a call whose record has the end met sets the mark anew.
use mathlib.Core.Path.{◌≡◌, refl}
use mathlib.Core.List.{List, [], ◌∷◌}
use mathlib.Core.Option.{Option, none, some}
use mathlib.Core.Bool.{Bool, true, false, ◌&&◌, ◌||◌, not}
use Prim.Native.Nat.{ℕ}
use native.Mathlib.Omega.{arith}
use lib.Dec.{eqb}
use Rattle.model.specs.FieldOrder.{is_before}
use Rattle.model.specs.FirstPair.{first_packet}
use Rattle.model.specs.Images.{blank}
use Rattle.model.specs.Members.{is_member}
use Rattle.model.specs.Packets.{packet}
use Rattle.model.specs.Store.{Store, get}
use Rattle.model.specs.WellFormed.{level_of}
use Rattle.call_rules.specs.Outcome.{Verdict, gives, guard, also, of_one}
use Rattle.call_rules.specs.declared.Answer.{Answer}
use Rattle.std.specs.Prelude.{Result, Ok, Err}
use Rattle.call_rules.specs.declared.Refusal.{Refusal}
use Rattle.call_rules.specs.declared.Answer.TheVariants.{Nothing}
use Rattle.call_rules.specs.declared.Refusal.TheVariants.{OutOfRange}
use Rattle.store.specs.Cursors.{next_member, moved}
use Rattle.store.specs.SetCalls.{set_read_verdict}
use Rattle.store.specs.declared.set_reads.Cursor.{Cursor}
use Rattle.store.specs.declared.set_reads.SetRead.TheVariants.{Next}

-- handle 2 is the set of the packet 1
abbrev one_packet : Store
one_packet = record { sets = (0 ∷ 1 ∷ []) ∷ []; rels = [] }

abbrev cursor : ℕ → ℕ → ℕ → ℕ → Cursor
cursor h x g e = record { handle = h; last = x; given = g; ended = e }

-- THE LAST PACKET MUST BE A MEMBER: after 0, which is none, comes 1
pub last_is_member : ¬ ((S : Store) (l : ℕ) (c : Cursor) (p : List ℕ) → ¬ (c.given ≡ 0) → next_member S l c ≡ some p
    → is_member S c.handle (packet l c.last) ≡ true)
unfolding first_packet is_before packet get
last_is_member h =
    let e : ◌≡◌ {A = Bool} false true = h one_packet 1 (cursor 2 0 1 0) (1 ∷ []) (λ e. let z : ⊥ = omega arith in z) refl in
    let z : ◌≡◌ {A = ℕ} 0 1 = cc in omega arith

-- FROM THE LAST PACKET ON: after 1 nothing comes, and not 1 again
pub last_again : ¬ ((S : Store) (l : ℕ) (c : Cursor) → c.ended ≡ 0
    → next_member S l c ≡ first_packet l (λ p. is_member S c.handle p && (eqb c.given 0 || not (is_before p (packet l c.last)))))
unfolding first_packet is_before packet get
last_again h =
    let e : ◌≡◌ {A = Option (List ℕ)} none (some (1 ∷ [])) = h one_packet 1 (cursor 2 1 1 0) refl in
    let z : ◌≡◌ {A = ℕ} 0 1 = cc in omega arith

-- THE END BEFORE 5: at level 0 the packet 1 is declined, also where the end was met
pub end_first : ¬ ((k : ℕ) (S : Store) (c : Cursor) → ¬ (c.ended ≡ 0) → set_read_verdict (Next c) k S ≡ gives (Ok Nothing))
unfolding guard also of_one level_of
end_first h =
    let e : ◌≡◌ {A = Verdict (Result Answer Refusal)} (gives (Err OutOfRange)) (gives (Ok Nothing))
    = h 0 blank (cursor 1 1 1 1) (λ e. let z : ⊥ = omega arith in z) in
    let z : ◌≡◌ {A = ℕ} 0 1 = cc in omega arith

-- THE MARK ANEW: a record that has the end met stays as it is
pub mark_anew : ¬ ((c : Cursor) → (moved (Ok Nothing) c).ended ≡ 1)
mark_anew h = let e : ◌≡◌ {A = ℕ} 7 1 = h (cursor 0 0 0 7) in omega arith
