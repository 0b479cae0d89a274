-- The first packet that passes a test is what the definition finds, and so is the first pair; none is found exactly where none passes.
use mathlib.Core.Path.{◌≡◌, refl, sym, ap, ◌∙◌, subst}
use mathlib.Core.Logic.{◌↔◌}
use mathlib.Core.List.{List, [], ◌∷◌, ◌++◌}
use mathlib.Core.Option.{Option, none, some}
use mathlib.Core.Bool.{Bool, true, false}
use Prim.Native.Nat.{ℕ, zero, suc, ◌+◌, ◌^◌, ◌<◌, ◌≤◌}
use native.Mathlib.Omega.{arith}
use borrow.Author.Tests.{eq-eqb, ltb-false, le-ltb}
use lib.Dec.{eqb, ltb, eqb→eq}
use lib.ListN.{take, drop, take-append-drop}
use lib.Seq.{take_at, drop_at}
use Rattle.model.specs.FieldOrder.{is_before, rank, ranked}
use Rattle.model.specs.FirstPair.{begun_with, or_if_none, first_packet, first_pair, passes_through, Through, First, LeastRank, FirstPair}
use Rattle.model.specs.Meaning.{Rel, Some}
use Rattle.model.specs.Packets.{Packet, digits, walk}
use Rattle.model.specs.Packets as packets
use Rattle.model.specs.Store.{set, rel, Store, pick}
use Rattle.model.proofs.Bools.{by_test, no_true, one_iff, and_iff, on-bits}
use Rattle.model.proofs.FieldOrder.{packet_length, ranked_is, rank_below, ranked_rank, rank_ranked, before_rank}

-- ORDER by ranks
module _ {l : ℕ} {p q : List ℕ} (P : Packet l p) (Q : Packet l q) where
  pub not_before : rank q ≤ rank p → is_before p q ≡ false
  not_before h = before_rank P Q ∙ le-ltb (rank p) (rank q) h

  pub rank_first : is_before p q ≡ false → rank q ≤ rank p
  rank_first e = ltb-false (rank p) (rank q) (sym (before_rank P Q) ∙ e)

  pub rank_once : rank p ≡ rank q → p ≡ q
  rank_once e = sym (ranked_rank P) ∙ ap (ranked l) e ∙ ranked_rank Q

-- THE FIRST PACKET
abbrev pub Finds : ℕ → (List ℕ → Bool) → Option (List ℕ) → Type 0
Finds l t none = (x : List ℕ) → Packet l x → t x ≡ false
Finds l t (some x) = First l (λ x. t x ≡ true) x

module _ {l : ℕ} {t : List ℕ → Bool} where
  -- a packet with 0 is before all with 1
  zero_first : {p : List ℕ} → First l (λ x. t (0 ∷ x) ≡ true) p → First (suc l) (λ x. t x ≡ true) (0 ∷ p)
  unfolding is_before
  zero_first {p} A = record { packet = packets.more 0 (omega arith) A.packet; inside = A.inside; least = least }
    where
      by_bit : (b : ℕ) → b < 2 → (y : List ℕ) → Packet l y → t (b ∷ y) ≡ true → is_before (b ∷ y) (0 ∷ p) ≡ false
      by_bit = on-bits (λ b. (y : List ℕ) → Packet l y → t (b ∷ y) ≡ true → is_before (b ∷ y) (0 ∷ p) ≡ false) A.least (λ y Y e. refl)

      least : (y : List ℕ) → Packet (suc l) y → t y ≡ true → is_before y (0 ∷ p) ≡ false
      least y (packets.more {ds = z} b i Z) e = by_bit b i z Z e

  one_first : {p : List ℕ} → ((x : List ℕ) → Packet l x → t (0 ∷ x) ≡ false) → First l (λ x. t (1 ∷ x) ≡ true) p
      → First (suc l) (λ x. t x ≡ true) (1 ∷ p)
  unfolding is_before
  one_first {p} n A = record { packet = packets.more 1 (omega arith) A.packet; inside = A.inside; least = least }
    where
      by_bit : (b : ℕ) → b < 2 → (y : List ℕ) → Packet l y → t (b ∷ y) ≡ true → is_before (b ∷ y) (1 ∷ p) ≡ false
      by_bit = on-bits (λ b. (y : List ℕ) → Packet l y → t (b ∷ y) ≡ true → is_before (b ∷ y) (1 ∷ p) ≡ false) (λ y Y e. absurd (no_true (n y Y) e)) A.least

      least : (y : List ℕ) → Packet (suc l) y → t y ≡ true → is_before y (1 ∷ p) ≡ false
      least y (packets.more {ds = z} b i Z) e = by_bit b i z Z e

neither : {l : ℕ} (t : List ℕ → Bool) → ((x : List ℕ) → Packet l x → t (0 ∷ x) ≡ false) → ((x : List ℕ) → Packet l x → t (1 ∷ x) ≡ false)
    → (x : List ℕ) → Packet (suc l) x → t x ≡ false
neither t n m x (packets.more {ds = z} b i Z) = on-bits (λ b. t (b ∷ z) ≡ false) (n z Z) (m z Z) b i

-- of both halves
finds_half : (l : ℕ) (t : List ℕ → Bool) (o q : Option (List ℕ)) → Finds l (λ x. t (0 ∷ x)) o → Finds l (λ x. t (1 ∷ x)) q
    → Finds (suc l) t (or_if_none (begun_with 0 o) (begun_with 1 q))
finds_half l t (some p) q A B = zero_first A
finds_half l t none (some p) A B = one_first A B
finds_half l t none none A B = neither t A B

pub finds : (l : ℕ) (t : List ℕ → Bool) → Finds l t (first_packet l t)
unfolding first_packet is_before
finds zero t = by_test (λ b. t [] ≡ b → Finds zero t (pick b (some []) none)) (t [])
    (λ _ e. record { packet = packets.none; inside = e; least = λ y Y i. none_before y Y })
    (λ _ e x X. none_passes x X e)
    refl
  where
    none_before : (y : List ℕ) → Packet zero y → is_before y [] ≡ false
    none_before y packets.none = refl

    none_passes : (x : List ℕ) → Packet zero x → t [] ≡ false → t x ≡ false
    none_passes x packets.none e = e
finds (suc l) t = finds_half l t (first_packet l (λ x. t (0 ∷ x))) (first_packet l (λ x. t (1 ∷ x))) (finds l (λ x. t (0 ∷ x))) (finds l (λ x. t (1 ∷ x)))

-- there is one first packet at most
first_once : {l : ℕ} {t : List ℕ → Bool} {x y : List ℕ} → First l (λ x. t x ≡ true) x → First l (λ x. t x ≡ true) y → x ≡ y
first_once {x = x} {y} A B =
    let i = rank_first B.packet A.packet (A.least y B.packet B.inside) in
    let j = rank_first A.packet B.packet (B.least x A.packet A.inside) in
    rank_once A.packet B.packet (omega arith)

pub first_is : (l : ℕ) (t : List ℕ → Bool) (x : List ℕ) → First l (λ x. t x ≡ true) x → first_packet l t ≡ some x
first_is l t x A = go (first_packet l t) (finds l t)
  where
    go : (o : Option (List ℕ)) → Finds l t o → o ≡ some x
    go none n = absurd (no_true (n x A.packet) A.inside)
    go (some y) B = ap some (first_once B A)

pub first_none : (l : ℕ) (t : List ℕ → Bool) → ((x : List ℕ) → Packet l x → ¬ (t x ≡ true)) → first_packet l t ≡ none
first_none l t n = go (first_packet l t) (finds l t)
  where
    go : (o : Option (List ℕ)) → Finds l t o → o ≡ none
    go none A = refl
    go (some x) A = absurd (n x A.packet A.inside)

-- by the rank of what is first
module _ {l : ℕ} {t : List ℕ → Bool} {r : ℕ} (A : LeastRank l (λ x. t x ≡ true) r) where
  pub first_by_rank : r < 2 ^ l → first_packet l t ≡ some (ranked l r)
  first_by_rank i = first_is l t (ranked l r) (record {
    packet = ranked_is l r;
    inside = A.here i;
    least = λ y Y e. not_before Y (ranked_is l r) (rw (rank_ranked l r i) (A.first y Y e));
  })

  pub none_by_rank : 2 ^ l ≤ r → first_packet l t ≡ none
  none_by_rank i = first_none l t (λ x X e. let z : ⊥ = omega (arith, A.first x X e, rank_below X) in z)

-- PAIRS, as packets of twice as many fields
append_packet : {l m : ℕ} {x y : List ℕ} (n : ℕ) → n ≡ l + m → Packet l x → Packet m y → Packet n (x ++ y)
append_packet {m = m} {y = y} n e packets.none Y = subst (λ j. Packet j y) (let f : m ≡ n = omega arith in f) Y
append_packet zero e (packets.more b i X) Y = absurd (let z : ⊥ = omega arith in z)
append_packet (suc n) e (packets.more b i X) Y = packets.more b i (append_packet n (omega arith) X Y)

split_packet : (l m n : ℕ) (z : List ℕ) → n ≡ l + m → Packet n z → Packet l (take l z) × Packet m (drop l z)
split_packet zero m n z e Z = (packets.none, subst (λ j. Packet j z) (let f : n ≡ m = omega arith in f) Z)
split_packet (suc l) m n z e packets.none = absurd (let z : ⊥ = omega arith in z)
split_packet (suc l) m n z e (packets.more {l = j} {ds = y} b i Z) = let s = split_packet l m j y (omega arith) Z in (packets.more b i s.0, s.1)

-- the input decides, and the output where the inputs are equal
input_decides : {l : ℕ} {x x' : List ℕ} (y y' : List ℕ) → Packet l x' → Packet l x → is_before x' x ≡ false → (x' ≡ x → is_before y' y ≡ false)
    → is_before (x' ++ y') (x ++ y) ≡ false
unfolding is_before
input_decides y y' packets.none packets.none e f = f refl
input_decides y y' (packets.more {ds = p} a i P) (packets.more {ds = q} b j Q) e f = by_test
    (λ t. eqb a b ≡ t → pick t (is_before p q) (ltb a b) ≡ false → pick t (is_before (p ++ y') (q ++ y)) (ltb a b) ≡ false) (eqb a b)
    (λ _ g h. input_decides y y' P Q h (λ k. f (cc (eqb→eq a b (rw g tt), k)))) (λ _ g h. h) refl e

module _ {l : ℕ} {R : Rel} {t : List ℕ → List ℕ → Bool} (d : (x y : List ℕ) → Packet l x → Packet l y → (t x y ≡ true) ↔ R x y) where
  pub first_pair_is : {x y : List ℕ} → FirstPair l R x y → first_pair l t ≡ some (x ++ y)
  unfolding first_pair
  first_pair_is {x} {y} A = first_is (l + l) (λ z. t (take l z) (drop l z)) (x ++ y) (record {
    packet = append_packet (l + l) refl A.input A.output;
    inside = rw (take_at x y l (packet_length A.input), drop_at x y l (packet_length A.input)) ((d x y A.input A.output).1 A.related);
    least = λ z Z e. let s = split_packet l l (l + l) z refl Z in
        let r = (d _ _ s.0 s.1).0 e in
        subst (λ w. is_before w (x ++ y) ≡ false) (take-append-drop l z) (input_decides y (drop l z) s.0 A.input (A.least_input _ _ s.0 s.1 r)
        (λ f. A.least_output _ s.1 (subst (λ w. R w (drop l z)) f r)));
  })

  pub first_pair_none : ¬ Some l (λ x. Some l (λ y. R x y)) → first_pair l t ≡ none
  unfolding first_pair
  first_pair_none n = first_none (l + l) (λ z. t (take l z) (drop l z)) (λ z Z e. let s = split_packet l l (l + l) z refl Z in
      n (_, s.0, (_, s.1, (d _ _ s.0 s.1).0 e)))

-- THE FIRST PAIR, of what the definition finds. Equal beginnings do not decide, and where they differ they do
begins_equal : (x y y' : List ℕ) → is_before (x ++ y') (x ++ y) ≡ is_before y' y
unfolding is_before
begins_equal [] y y' = refl
begins_equal (a ∷ x) y y' = rw (eq-eqb a a refl) (begins_equal x y y')

begins_before : {l : ℕ} {x x' : List ℕ} (y y' : List ℕ) → Packet l x' → Packet l x → is_before (x' ++ y') (x ++ y) ≡ false → is_before x' x ≡ false
unfolding is_before
begins_before y y' packets.none packets.none e = refl
begins_before y y' (packets.more {ds = p} a i P) (packets.more {ds = q} b j Q) e = by_test
    (λ t. pick t (is_before (p ++ y') (q ++ y)) (ltb a b) ≡ false → pick t (is_before p q) (ltb a b) ≡ false) (eqb a b)
    (λ _ h. begins_before y y' P Q h) (λ _ h. h) e

abbrev pub PairFinds : ℕ → Rel → Option (List ℕ) → Type 0
PairFinds l R none = ¬ Some l (λ x. Some l (λ y. R x y))
PairFinds l R (some z) = FirstPair l R (take l z) (drop l z)

-- what is found is the first pair, and where none is found there is none
pub pair_finds : (l : ℕ) (R : Rel) (t : List ℕ → List ℕ → Bool) → ((x y : List ℕ) → Packet l x → Packet l y → (t x y ≡ true) ↔ R x y)
    → PairFinds l R (first_pair l t)
unfolding first_pair
pair_finds l R t d = go (first_packet (l + l) (λ z. t (take l z) (drop l z))) (finds (l + l) (λ z. t (take l z) (drop l z)))
  where
    -- a pair as a packet, and its halves again
    passes : (x y : List ℕ) → Packet l x → Packet l y → R x y → t (take l (x ++ y)) (drop l (x ++ y)) ≡ true
    passes x y X Y r = rw (take_at x y l (packet_length X), drop_at x y l (packet_length X)) ((d x y X Y).1 r)

    go : (o : Option (List ℕ)) → Finds (l + l) (λ z. t (take l z) (drop l z)) o → PairFinds l R o
    go none n = λ c. no_true (n (c.0 ++ c.2.0) (append_packet (l + l) refl c.1 c.2.1)) (passes c.0 c.2.0 c.1 c.2.1 c.2.2)
    go (some z) A =
        let s = split_packet l l (l + l) z refl A.packet in
        let least : (x y : List ℕ) → Packet l x → Packet l y → R x y → is_before (x ++ y) (take l z ++ drop l z) ≡ false
        = λ x y X Y r. subst (λ w. is_before (x ++ y) w ≡ false) (sym (take-append-drop l z))
        (A.least (x ++ y) (append_packet (l + l) refl X Y) (passes x y X Y r)) in record {
          input = s.0;
          output = s.1;
          related = (d _ _ s.0 s.1).0 A.inside;
          least_input = λ x y X Y r. begins_before (drop l z) y X s.0 (least x y X Y r);
          least_output = λ y Y r. sym (begins_equal (take l z) (drop l z) y) ∙ least (take l z) y s.0 Y r;
        }

-- at level 0 there is one pair at most
pub pair_zero : {R : Rel} → Some zero (λ x. Some zero (λ y. R x y)) → FirstPair zero R [] []
unfolding is_before
pair_zero {R} c = record {
  input = packets.none;
  output = packets.none;
  related = there c.0 c.2.0 c.1 c.2.1 c.2.2;
  least_input = λ x y X Y r. nothing_before x X;
  least_output = λ y Y r. nothing_before y Y;
}
  where
    there : (x y : List ℕ) → Packet zero x → Packet zero y → R x y → R [] []
    there x y packets.none packets.none r = r

    nothing_before : (x : List ℕ) → Packet zero x → is_before x [] ≡ false
    nothing_before x packets.none = refl

-- there is one first pair at most
pub pair_once : {l : ℕ} {R : Rel} {x y x' y' : List ℕ} → FirstPair l R x y → FirstPair l R x' y' → (x ≡ x') × (y ≡ y')
pair_once {l} {R} {x} {y} {x'} {y'} A B =
    let i = rank_first B.input A.input (A.least_input _ _ B.input B.output B.related) in
    let j = rank_first A.input B.input (B.least_input _ _ A.input A.output A.related) in
    let e : x ≡ x' = rank_once A.input B.input (omega arith) in
    let u = rank_first B.output A.output (A.least_output _ B.output (subst (λ w. R w y') (sym e) B.related)) in
    let v = rank_first A.output B.output (B.least_output _ A.output (subst (λ w. R w y) e A.related)) in
    (e, rank_once A.output B.output (omega arith))

-- the test of a pair is passed by the pairs that it is about
pub through_iff : (S : Store) (p a q : ℕ) (x y : List ℕ) → (passes_through S p a q x y ≡ true) ↔ Through S p a q x y
through_iff S p a q x y =
    let e = and_iff (eqb (walk set S p x) 1) _ (one_iff _) (and_iff (eqb (walk rel S a (digits x y)) 1) (eqb (walk set S q y) 1) (one_iff _) (one_iff _)) in
    (λ g. let t = e.0 g in (t.0, t.1.0, t.1.1), λ g. e.1 (g.0, (g.1, g.2)))
