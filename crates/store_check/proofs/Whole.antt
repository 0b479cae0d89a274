-- Heads and nodes together: what `is_store` says is `is_store`.
use mathlib.Core.Path.{◌≡◌, refl, sym, ap, ◌∙◌, subst}
use mathlib.Core.List.{List}
use mathlib.Core.Bool.{Bool, true, false}
use Prim.Native.Nat.{ℕ, ◌-◌, ◌*◌, ◌≤◌}
use native.Mathlib.Omega.{arith}
use lib.ListN.{length, take, drop, replicate, length-replicate, length-drop}
use lib.Seq.{take_all}
use lib.Dec.{leb, T}
use Rattle.model.specs.Store.{Kind, set, rel, arity}
use Rattle.model.specs.WellFormed.{WellFormed}
use Rattle.memory.specs.Rows.{places, most_places}
use Rattle.memory.proofs.Rows.{places_fit}
use Rattle.memory.proofs.Steps.{false≢true}
use Rattle.store_check.specs.StoreChecking.{Tests, BothChecked, HeadsFit, StoreChecked}
use Rattle.store_check.specs.Memory.{fields, Memories, memory, head, count, body, decode}
use Rattle.store_check.specs.Valid.{Room, has_room, is_store}
use Rattle.store_check.proofs.Decide.{room_says, store_says}
use Rattle.store_check.proofs.Deciding.{decided_le, decided_true, decided_false}
use Rattle.store_check.proofs.Fitting.{says_no}

true_T : {b : Bool} → b ≡ true → T b
true_T e = subst T (sym e) tt

-- THE HEADS
pub no_room : {M : Memories} (K : Kind) {r : Bool} → r ≡ has_room K (memory K M) → r ≡ false → Tests false (HeadsFit M)
no_room {M} K {r} e f = says_no (λ H. let z : true ≡ false = sym (decided_true (room_says K (memory K M)) (H.room K)) ∙ sym e ∙ f in false≢true (sym z))

pub heads_say : {M : Memories} {a b r : Bool} → a ≡ has_room rel M.relations → b ≡ has_room set M.sets → a ≡ true → b ≡ true → Tests r (fields M ≤ 32)
    → Tests r (HeadsFit M)
heads_say {M} e f p q t = record {
  so = λ z. record { few = t.so z; room = rooms };
  not = λ z H. t.not z H.few;
}
  where
    rooms : (K : Kind) → Room K (memory K M)
    rooms rel = (room_says rel M.relations).iff.0 (true_T (sym e ∙ p))
    rooms set = (room_says set M.sets).iff.0 (true_T (sym f ∙ q))

pub few_say : (k : ℕ) → Tests (leb k 32) (k ≤ 32)
few_say k = record {
  so = λ z. (decided_le k 32).iff.0 (true_T z);
  not = λ z h. false≢true (sym z ∙ decided_true (decided_le k 32) h);
}

pub room_headed : (K : Kind) (m : List ℕ) {r : Bool} → r ≡ has_room K m → r ≡ true → head K ≤ length m
room_headed K m e p = ((room_says K m).iff.0 (true_T (sym e ∙ p))).headed

-- the numbers after a head, lent on
pub whole_part : (a : ℕ) (m : List ℕ) → take (length m - a) (drop a m) ≡ drop a m
whole_part a m = take_all (length m - a) (drop a m) (omega (arith, length-drop a m))

pub part_fits : (K : Kind) (m : List ℕ) (n : ℕ) → Room K m → n ≡ count K m → (arity K * n ≤ length (take (length m - head K) (drop (head K) m)))
    × (n ≤ most_places)
part_fits K m n R e =
    let b : n ≤ places (arity K) (body K m) = subst (λ n. n ≤ places (arity K) (body K m)) (sym e) R.within in
    (subst (λ (l : List ℕ). arity K * n ≤ length l) (sym (whole_part (head K) m)) (places_fit (arity K) (body K m) n b), omega arith)

checked_as : {c c' k : ℕ} {w w' : List ℕ} {r : Bool} (K J : Kind) (m m' : List ℕ) (n n' : ℕ) → n ≡ count K m → n' ≡ count J m'
    → BothChecked c n c' n' k (take (length m - head K) (drop (head K) m)) (take (length m' - head J) (drop (head J) m')) w w' r
    → BothChecked c (count K m) c' (count J m') k (body K m) (body J m') w w' r
checked_as {c} {c'} {k} {w} {w'} {r} K J m m' n n' e f A =
    subst (λ x. BothChecked c (count K m) c' (count J m') k (body K m) x w w' r) (whole_part (head J) m')
    (subst (λ x. BothChecked c (count K m) c' (count J m') k x (take (length m' - head J) (drop (head J) m')) w w' r) (whole_part (head K) m)
    (subst (λ x. BothChecked c (count K m) c' x k (take (length m - head K) (drop (head K) m)) (take (length m' - head J) (drop (head J) m')) w w' r) f
    (subst (λ x. BothChecked c x c' n' k (take (length m - head K) (drop (head K) m)) (take (length m' - head J) (drop (head J) m')) w w' r) e A)))

-- NODES AND HEADS
pub no_heads : (M : Memories) (last : Bool) {w w' : List ℕ} → length w' ≡ length w → Tests false (HeadsFit M) → StoreChecked M last w w' false
no_heads M last l t = record {
  says = sym (decided_false (store_says M) (λ s. t.not refl (record { few = s.few; room = s.room })));
  right = λ z. absurd (false≢true z);
  work_length = l;
}

whole : (M : Memories) (r : Bool) → HeadsFit M → Tests r (WellFormed (fields M) (decode M)) → r ≡ is_store M
whole M true H t = sym (decided_true (store_says M) (record { few = H.few; room = H.room; formed = t.so refl }))
whole M false H t = sym (decided_false (store_says M) (λ s. t.not refl s.formed))

pub still_clear : (n : ℕ) (w : List ℕ) → w ≡ replicate n 0 → w ≡ replicate (length w) 0
still_clear n w e = e ∙ ap (λ n. replicate n 0) (sym (ap length e ∙ length-replicate n 0))

module _ (M : Memories) (H : HeadsFit M) (w w₁ w' : List ℕ) (clear : w₁ ≡ replicate (length w) 0) where
  same_work_length : length w₁ ≡ length w
  same_work_length = ap length clear ∙ length-replicate (length w) 0

  pub sets_last : {r : Bool} (n n' : ℕ) → n ≡ count rel M.relations → n' ≡ count set M.sets → BothChecked 4 n 2 n' (fields M)
      (take (length M.relations - head rel) (drop (head rel) M.relations)) (take (length M.sets - head set) (drop (head set) M.sets)) w₁ w' r
      → StoreChecked M true w w' r
  unfolding decode
  sets_last {r} n n' e f B =
      let A = checked_as rel set M.relations M.sets n n' e f B in
      let z = still_clear (length w) w₁ clear in
      let R = A.right rel refl refl (H.room rel).within (H.room set).within z in
      record {
        says = whole M r H (A.verdict rel refl refl (H.room rel).within (H.room set).within z);
        right = λ t. let Q = R t in record { fields = Q.fields; formed = Q.formed; memo = Q.memo; index = Q.index; words = Q.words; unset = Q.unset };
        work_length = A.work_length ∙ same_work_length;
      }

  pub relations_last : {r : Bool} (n n' : ℕ) → n ≡ count set M.sets → n' ≡ count rel M.relations → BothChecked 2 n 4 n' (fields M)
      (take (length M.sets - head set) (drop (head set) M.sets)) (take (length M.relations - head rel) (drop (head rel) M.relations)) w₁ w' r
      → StoreChecked M false w w' r
  unfolding decode
  relations_last {r} n n' e f B =
      let A = checked_as set rel M.sets M.relations n n' e f B in
      let z = still_clear (length w) w₁ clear in
      let R = A.right set refl refl (H.room set).within (H.room rel).within z in
      record {
        says = whole M r H (A.verdict set refl refl (H.room set).within (H.room rel).within z);
        right = λ t. let Q = R t in record { fields = Q.fields; formed = Q.formed; memo = Q.memo; index = Q.index; words = Q.words; unset = Q.unset };
        work_length = A.work_length ∙ same_work_length;
      }
