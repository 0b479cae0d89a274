-- The test `is_store` decides `IsStore`.
-- what the test of one node says
use mathlib.Core.Path.{◌≡◌, refl, sym, ap, ◌∙◌, subst}
use mathlib.Core.Logic.{inl, inr}
use mathlib.Core.List.{List, []}
use Prim.Native.Nat.{ℕ, zero, suc, ◌+◌, ◌-◌, ◌*◌, ◌%◌, ◌<◌, ◌≤◌}
use native.Mathlib.Omega.{arith}
use native.Mathlib.Decide.{dec_lt}
use lib.ListN.{length, get_or}
use lib.Dec.{eqb}
use Rattle.model.specs.Store.{Kind, set, rel, arity, Store, nodes, index, handle_of, get, place, sign}
use Rattle.model.specs.WellFormed.{Held, Even, Fits, Distinct, WellFormed, level_of}
use Rattle.model.proofs.Canonical.{Sized}
use Rattle.model.proofs.Complements.{with_sign_held}
use Rattle.model.proofs.Levels.{arity_pos, small, level_is}
use Rattle.memory.proofs.Joining.{there}
use Rattle.memory.proofs.Rows.{place_fits, row_length, rows_length, rows_at}
use Rattle.store_check.specs.Memory.{fields, Memories, memory, head, count, body, places_in, nodes_in, decode}
use Rattle.store_check.specs.Valid.{Room, IsStore, has_room, is_even, is_child, is_node, are_nodes, is_store}
use Rattle.store_check.proofs.Deciding.{Decided, decided_le, decided_lt, decided_eq, decided_yes, decided_and, decided_all, decided_as}

record NodeRight (k : ℕ) (K : Kind) (S : Store) (i : ℕ) (x : List ℕ) (l : ℕ) : Type 0 where
  under : l < k
  below : (d : ℕ) → d < arity K → (get_or x d 0 < handle_of K 0 i) × (level_of k K S (get_or x d 0) ≡ l)
  even : Even K x
  first : place x (nodes K S) ≡ i

abbrev RightAt : ℕ → Kind → Store → ℕ → Type 0
RightAt k K S i = NodeRight k K S i (get_or (nodes K S) i []) (level_of k K S (get_or (get_or (nodes K S) i []) 0 0))

even_says : (K : Kind) (x : List ℕ) → Decided (is_even K x) (Even K x)
even_says set x = decided_eq (sign x) 0
even_says rel x = decided_yes

node_says : (k : ℕ) (K : Kind) (S : Store) (i : ℕ) → Decided (is_node k K S i) (RightAt k K S i)
unfolding is_node
node_says k K S i =
    let x = get_or (nodes K S) i [] in
    let l = level_of k K S (get_or x 0 0) in
    decided_as (λ t. record { under = t.0; below = t.1.0; even = t.1.1.0; first = t.1.1.1 }) (λ r. (r.under, (r.below, (r.even, r.first))))
    (decided_and (decided_lt l k) (decided_and (decided_all (arity K) (λ d. is_child k K S i l (get_or x d 0))
    (λ d. (get_or x d 0 < handle_of K 0 i) × (level_of k K S (get_or x d 0) ≡ l))
    (λ d. decided_and (decided_lt (get_or x d 0) (handle_of K 0 i)) (decided_eq (level_of k K S (get_or x d 0)) l)))
    (decided_and (even_says K x) (decided_eq (place x (nodes K S)) i))))

nodes_say : (k : ℕ) (K : Kind) (S : Store) → Decided (are_nodes k K S) ((i : ℕ) → i < length (nodes K S) → RightAt k K S i)
unfolding are_nodes
nodes_say k K S = decided_all (length (nodes K S)) (is_node k K S) (RightAt k K S) (node_says k K S)

pub room_says : (K : Kind) (m : List ℕ) → Decided (has_room K m) (Room K m)
unfolding has_room
room_says K m =
    let n = arity K * (places_in K m - count K m) in
    let f : ℕ → ℕ = λ j. get_or m (head K + arity K * count K m + j) 0 in
    decided_as (λ t. record { headed = t.0; within = t.1.0; blank = t.1.1 }) (λ r. (r.headed, (r.within, r.blank)))
    (decided_and (decided_le (head K) (length m)) (decided_and (decided_le (count K m) (places_in K m))
    (decided_all n (λ j. eqb (f j) 0) (λ j. f j ≡ 0) (λ j. decided_eq (f j) 0))))

-- what is before place i is held at a level of at most k
module _ {k : ℕ} {K : Kind} {S : Store} (Z : Sized K S) (i : ℕ) (b : i ≤ length (nodes K S))
    (F : (j : ℕ) → j < i → Fits k K S j (get_or (nodes K S) j [])) where
  early_held : (h : ℕ) → h < handle_of K 0 i → (l : ℕ) × (l ≤ k) × Held K S l h
  unfolding get
  early_held h e = elim (small h) [
    | inl s ↦ (0, omega arith, s.1)
    | inr s ↦
        (let a : index K h < i = place_early K s.1 e in
        let f = F (index K h) a in (
          suc f.level,
          f.under,
          record {
            big = s.1;
            there = omega arith;
            below = with_sign_held f.level K (h % 2) (get_or (nodes K S) (index K h) []) Z f.sized f.below;
          },
        ))
  ]
    where
      place_early : (K : Kind) → 2 ≤ h → h < handle_of K 0 i → index K h < i
      place_early set s e = omega arith
      place_early rel s e = omega arith

  early_level : (h l : ℕ) → h < handle_of K 0 i → level_of k K S h ≡ l → Held K S l h
  early_level h l e q = let r = early_held h e in subst (λ n. Held K S n h) (sym (level_is K S k r.0 h r.1 r.2) ∙ q) r.2

  node_fits : i < length (nodes K S) → RightAt k K S i → Fits k K S i (get_or (nodes K S) i [])
  node_fits c r = record {
    sized = Z.each i c;
    level = level_of k K S (get_or (get_or (nodes K S) i []) 0 0);
    under = r.under;
    below = λ d j. early_level _ _ (r.below d j).0 (r.below d j).1;
    earlier = λ d j. (r.below d j).0;
    even = r.even;
  }

module _ {k : ℕ} {K : Kind} {S : Store} (Z : Sized K S) (R : (i : ℕ) → i < length (nodes K S) → RightAt k K S i) where
  fits_before : (i : ℕ) → i ≤ length (nodes K S) → (j : ℕ) → j < i → Fits k K S j (get_or (nodes K S) j [])
  fits_before zero b j h = absurd (omega arith)
  fits_before (suc i) b j h = go (dec_lt j i) (fits_before i (omega arith))
    where
      go : Dec (j < i) → ((j : ℕ) → j < i → Fits k K S j (get_or (nodes K S) j [])) → Fits k K S j (get_or (nodes K S) j [])
      go (yes l) F = F j l
      go (no l) F = let e : i ≡ j = omega arith in
          subst (λ n. Fits k K S n (get_or (nodes K S) n [])) e (node_fits Z i (omega arith) F (omega arith) (R i (omega arith)))

  nodes_distinct : Distinct (nodes K S)
  nodes_distinct i j a b e = sym (R i a).first ∙ ap (λ x. place x (nodes K S)) e ∙ (R j b).first

-- a node of a well-formed store passes
formed_right : {k : ℕ} {S : Store} (K : Kind) → WellFormed k S → (i : ℕ) → i < length (nodes K S) → RightAt k K S i
formed_right {k} {S} K F i h =
    let N = nodes K S in
    let x = get_or N i [] in
    let f = F.fits K i h in
    let low : f.level ≤ k = omega (arith, f.under) in
    let lev : (d : ℕ) → d < arity K → level_of k K S (get_or x d 0) ≡ f.level = λ d j. level_is K S k f.level (get_or x d 0) low (f.below d j) in
    let l0 = lev 0 (arity_pos K) in
    let p = there x N (F.distinct K) i h refl in
    record {
      under = omega (arith, l0, f.under);
      below = λ d j. (f.earlier d j, lev d j ∙ sym l0);
      even = f.even;
      first = p.1;
    }

-- the nodes of a memory that has them within its places
rows_sized : (K : Kind) (m : List ℕ) → Room K m → (i : ℕ) → i < length (nodes_in K m) → length (get_or (nodes_in K m) i []) ≡ arity K
rows_sized K m r i h =
    let c = arity K in
    let n = count K m in
    let l : i < n = omega (arith, rows_length c n (body K m)) in
    ap length (rows_at c n (body K m) i l) ∙ row_length c (body K m) i (place_fits c (body K m) i (omega (arith, r.within)))

decode_sized : (M : Memories) → ((K : Kind) → Room K (memory K M)) → (K : Kind) → Sized K (decode M)
unfolding decode
decode_sized M r set = record { each = rows_sized set M.sets (r set) }
decode_sized M r rel = record { each = rows_sized rel M.relations (r rel) }

-- THE TEST DECIDES
pub store_says : (M : Memories) → Decided (is_store M) (IsStore M)
unfolding is_store
store_says M =
    let k = fields M in
    let S = decode M in
    decided_as
    (λ t. let room : (K : Kind) → Room K (memory K M) = elim [ set ↦ t.1.0 | rel ↦ t.0 ] in
    let right : (K : Kind) (i : ℕ) → i < length (nodes K S) → RightAt k K S i = elim [ set ↦ t.1.1.1.1 | rel ↦ t.1.1.1.0 ] in
    record {
      few = t.1.1.0;
      room = room;
      formed = record {
        fits = λ K i h. fits_before (decode_sized M room K) (right K) (length (nodes K S)) (omega arith) i h;
        distinct = λ K. nodes_distinct (decode_sized M room K) (right K);
      };
    })
    (λ s. (s.room rel, (s.room set, (s.few, (formed_right rel s.formed, formed_right set s.formed)))))
    (decided_and (room_says rel M.relations) (decided_and (room_says set M.sets)
    (decided_and (decided_le k 32) (decided_and (nodes_say k rel S) (nodes_say k set S)))))
