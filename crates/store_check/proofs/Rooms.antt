-- Zeros in a part of a memory, and `has_room` from them: what the functions of `room` say.
use mathlib.Core.Path.{◌≡◌, refl, sym, ap, ◌∙◌, subst}
use mathlib.Core.Logic.{◌↔◌}
use mathlib.Core.List.{List, [], ◌∷◌, ◌++◌}
use mathlib.Core.Bool.{Bool, true, false, ◌&&◌}
use Prim.Native.Nat.{ℕ, ◌+◌, ◌-◌, ◌*◌, ◌<◌, ◌≤◌}
use native.Mathlib.Nat.{add-zero}
use native.Mathlib.Omega.{arith}
use lib.ListN.{length, get_or, take, drop, length-append, length-drop, get_or-append}
use lib.Seq.{length-take-le, get_or-append-add, get_or-take, get_or-drop}
use lib.Bits.{bit_or, or_add_and, and_le_l, and_le_r}
use lib.Dec.{eqb, leb}
use borrow.Author.Count.{below_more}
use borrow.Author.Tests.{eqb-true, eqb-false}
use Rattle.memory.specs.Rows.{places_of}
use Rattle.model.specs.Store.{Kind, set, rel, arity}
use Rattle.model.specs.Programs.{all_below}
use Rattle.model.proofs.Bools.{by_test}
use Rattle.store_check.specs.Memory.{head, count_at, count, places_in}
use Rattle.store_check.specs.Valid.{has_room}
use Rattle.store_check.proofs.Deciding.{Decided, decided_le, decided_eq, decided_all, decided_true, decided_false}
use Rattle.store_check.proofs.Decide.{room_says}

zeros_say : (m : List ℕ) (s n : ℕ) → Decided (all_below n (λ j. eqb (get_or m (s + j) 0) 0)) ((j : ℕ) → j < n → get_or m (s + j) 0 ≡ 0)
zeros_say m s n = decided_all n (λ j. eqb (get_or m (s + j) 0) 0) (λ j. get_or m (s + j) 0 ≡ 0) (λ j. decided_eq (get_or m (s + j) 0) 0)

-- the bits that some number of a list has: none exactly where each number is 0
abbrev pub BitsOf : List ℕ → ℕ → Type 0
BitsOf l bits = (bits ≡ 0) ↔ ((j : ℕ) → j < length l → get_or l j 0 ≡ 0)

pub bits_none : BitsOf [] 0
bits_none = (λ e j h. absurd (omega arith), λ z. refl)

bits_of_more : (l : List ℕ) (bits x : ℕ) → BitsOf l bits → BitsOf (l ++ (x ∷ [])) (bit_or bits x)
bits_of_more l bits x B =
    let a = or_add_and bits x in
    let b = and_le_l bits x in
    let c = and_le_r bits x in
    let n : length (l ++ (x ∷ [])) ≡ length l + 1 = length-append l (x ∷ []) in
    let last : get_or (l ++ (x ∷ [])) (length l) 0 ≡ x
    = ap (λ k. get_or (l ++ (x ∷ [])) k 0) (sym (add-zero (length l))) ∙ get_or-append-add l (x ∷ []) 0 0 in (
      λ e j h. below_more (λ j. get_or (l ++ (x ∷ [])) j 0 ≡ 0) (length l) (λ j h. get_or-append l (x ∷ []) 0 j h ∙ B.0 (omega arith) j h)
          (omega arith) j (omega arith),
      λ z.
          let u = z (length l) (omega arith) in
          let v = B.1 (λ j h. sym (get_or-append l (x ∷ []) 0 j h) ∙ z j (omega arith)) in omega arith,
    )

-- a turn of the closure, which changes nothing that it captured
pub bits_more : {F : Type 0} (l : List ℕ) (bits x bits' : ℕ) (f f' : F) → BitsOf l bits → (bits' ≡ bit_or bits x) × (f' ≡ f)
    → BitsOf (l ++ (x ∷ [])) bits' × (f' ≡ f)
bits_more l bits x bits' f f' B k = (subst (BitsOf (l ++ (x ∷ []))) (sym k.0) (bits_of_more l bits x B), k.1)

pub zeros_by_bits : (m : List ℕ) (s e bits : ℕ) → s ≤ e → e ≤ length m → BitsOf (take (e - s) (drop s m)) bits
    → eqb bits 0 ≡ all_below (e - s) (λ j. eqb (get_or m (s + j) 0) 0)
zeros_by_bits m s e bits h g B =
    let Z = zeros_say m s (e - s) in
    let n : length (take (e - s) (drop s m)) ≡ e - s = length-take-le (e - s) (drop s m) (omega (arith, length-drop s m)) in
    let at : (j : ℕ) → j < e - s → get_or (take (e - s) (drop s m)) j 0 ≡ get_or m (s + j) 0
    = λ j l. get_or-take (e - s) (drop s m) j 0 l ∙ get_or-drop s m j 0 in
    by_test (λ b. b ≡ all_below (e - s) (λ j. eqb (get_or m (s + j) 0) 0)) (eqb bits 0)
    (λ y. sym (decided_true Z (λ j l. sym (at j l) ∙ B.0 (eqb-true bits 0 y) j (omega arith))))
    (λ y. sym (decided_false Z (λ z. eqb-false bits 0 y (B.1 (λ j l. let l' : j < e - s = omega arith in at j l' ∙ z j l')))))

-- a memory whose count is at `at`, and whose nodes of c numbers begin at start
module _ (K : Kind) (m : List ℕ) (at start c : ℕ) (e : at ≡ count_at K) (a : start ≡ head K) (b : c ≡ arity K) where
  pub no_head : length m < start → false ≡ has_room K m
  no_head l = sym (decided_false (room_says K m) (λ R. let h : head K ≤ length m = R.headed in omega (arith, a)))

  module _ (p n : ℕ) (P : p ≡ places_of (length m - start) c) (N : n ≡ get_or m at 0) where
    places_are : p ≡ places_in K m
    places_are = P ∙ (λ i. places_of (length m - a i) (b i)) ∙ ap (λ l. places_of l (arity K)) (sym (length-drop (head K) m))

    count_is : n ≡ count K m
    count_is = N ∙ ap (λ i. get_or m i 0) e

    pub too_many : p < n → false ≡ has_room K m
    too_many l = sym (decided_false (room_says K m) (λ R. let w : count K m ≤ places_in K m = R.within in omega (arith, places_are, count_is)))

    span : (K : Kind) (x y : ℕ) → head K + arity K * x - (head K + arity K * y) ≡ arity K * (x - y)
    span set x y = omega arith
    span rel x y = omega arith

    pub room_is : {r : Bool} → start ≤ length m → n ≤ p
        → r ≡ all_below (start + c * p - (start + c * n)) (λ j. eqb (get_or m (start + c * n + j) 0) 0) → r ≡ has_room K m
    unfolding has_room
    room_is h w z =
        let f : ℕ → Bool = λ j. eqb (get_or m (head K + arity K * count K m + j) 0) 0 in
        let u : leb (head K) (length m) ≡ true = decided_true (decided_le (head K) (length m)) (omega (arith, a)) in
        let v : leb (count K m) (places_in K m) ≡ true = decided_true (decided_le (count K m) (places_in K m)) (omega (arith, places_are, count_is)) in
        z ∙ (λ i. all_below (a i + b i * places_are i - (a i + b i * count_is i)) (λ j. eqb (get_or m (a i + b i * count_is i + j) 0) 0))
        ∙ ap (λ n. all_below n f) (span K (places_in K m) (count K m))
        ∙ (λ i. sym u i && (sym v i && all_below (arity K * (places_in K m - count K m)) f))
