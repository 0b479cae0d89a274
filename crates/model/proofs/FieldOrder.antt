-- Field order: the packets of l fields have the places below 2^l, one to one, and their order is that of their places.
use mathlib.Core.Path.{◌≡◌, refl, sym, ap, ◌∙◌}
use mathlib.Core.List.{List}
use Prim.Native.Nat.{ℕ, zero, suc, ◌+◌, ◌*◌, ◌/◌, ◌%◌, ◌^◌, ◌<◌}
use native.Mathlib.Omega.{arith}
use native.Mathlib.Nat.{div-add-mod', div-eq_of_lt, div-lt_iff_lt-mul, mod-lt, mul-add-div_right, mul_assoc, one-mul, pow-suc, pow-succ', pow-zero, zero-mul}
use borrow.Author.Tests.{ltb-true, ltb-false, lt-ltb, le-ltb}
use lib.Dec.{eqb, ltb}
use lib.ListN.{length}
use Rattle.model.specs.FieldOrder.{is_before, rank, ranked}
use Rattle.model.specs.Packets.{none, more, Packet}
use Rattle.model.specs.Store.{pick}
use Rattle.model.proofs.Bools.{by_test}
use Rattle.model.proofs.Powers.{pow_pos}

pub packet_length : {l : ℕ} {p : List ℕ} → Packet l p → length p ≡ l
packet_length none = refl
packet_length (more b i P) = ap suc (packet_length P)

pub bit_below : (n : ℕ) → n % 2 < 2
bit_below n = omega arith

-- PLACES
pub ranked_is : (l n : ℕ) → Packet l (ranked l n)
unfolding ranked
ranked_is zero n = none
ranked_is (suc l) n = more _ (bit_below _) (ranked_is l n)

-- only the last l bits count
pub ranked_add : (l n c : ℕ) → ranked l (c * 2 ^ l + n) ≡ ranked l n
unfolding ranked
ranked_add zero n c = refl
ranked_add (suc l) n c =
    let e : c * 2 ^ suc l + n ≡ (c * 2) * 2 ^ l + n = rw (mul_assoc c 2, pow-succ') refl in
    let d : ((c * 2) * 2 ^ l + n) / 2 ^ l % 2 ≡ n / 2 ^ l % 2 = rw (mul-add-div_right (pow_pos l) (c * 2) n) (omega arith) in
    rw e (cc (d, ranked_add l n (c * 2)))

pub rank_below : {l : ℕ} {p : List ℕ} → Packet l p → rank p < 2 ^ l
unfolding rank
rank_below none = pow_pos 0
rank_below (more {l = l} {ds = p} b i P) = rw (packet_length P, pow-suc) (below b i (rank_below P))
  where
    below : (b : ℕ) → b < 2 → rank p < 2 ^ l → b * 2 ^ l + rank p < 2 ^ l * 2
    below zero i h = rw zero-mul (omega arith)
    below (suc zero) i h = rw one-mul (omega arith)
    below (suc (suc b)) i h = absurd (omega arith)

pub ranked_rank : {l : ℕ} {p : List ℕ} → Packet l p → ranked l (rank p) ≡ p
unfolding ranked rank
ranked_rank none = refl
ranked_rank (more {l = l} {ds = p} b i P) =
    let e : (b * 2 ^ l + rank p) / 2 ^ l % 2 ≡ b = rw (mul-add-div_right (pow_pos l) b (rank p), div-eq_of_lt (rank_below P)) (omega arith) in
    rw (packet_length P) (cc (e, ranked_add l (rank p) b, ranked_rank P))

pub rank_ranked : (l n : ℕ) → n < 2 ^ l → rank (ranked l n) ≡ n
unfolding ranked rank
rank_ranked zero n h = omega (arith, rw pow-zero at h)
rank_ranked (suc l) n h =
    let d = 2 ^ l in
    let e : n / d * d + n % d ≡ n = div-add-mod' n d in
    let small : n / d < 2 = (div-lt_iff_lt-mul (pow_pos l)).1 (rw pow-succ' at h) in
    let bit : n / d % 2 ≡ n / d = omega arith in
    let low : ranked l n ≡ ranked l (n % d) = ap (ranked l) (sym e) ∙ ranked_add l (n % d) (n / d) in
    rw (packet_length (ranked_is l n), bit, low, rank_ranked l (n % d) (mod-lt n (pow_pos l))) e

-- ORDER
ltb_add : (d m n : ℕ) → ltb m n ≡ ltb (d + m) (d + n)
ltb_add d m n = by_test (λ t. t ≡ ltb (d + m) (d + n)) (ltb m n)
    (λ e. sym (lt-ltb (d + m) (d + n) (omega (arith, ltb-true m n e))))
    (λ e. sym (le-ltb (d + m) (d + n) (omega (arith, ltb-false m n e))))

-- the first bit decides where it differs, since it weighs more than all that follow together
first_decides : (d a b m n : ℕ) → a < 2 → b < 2 → m < d → n < d → pick (eqb a b) (ltb m n) (ltb a b) ≡ ltb (a * d + m) (b * d + n)
first_decides d zero zero m n i j h g = rw zero-mul (ltb_add 0 m n)
first_decides d zero (suc zero) m n i j h g = rw (zero-mul, one-mul) (sym (lt-ltb (0 + m) (d + n) (omega arith)))
first_decides d (suc zero) zero m n i j h g = rw (zero-mul, one-mul) (sym (le-ltb (d + m) (0 + n) (omega arith)))
first_decides d (suc zero) (suc zero) m n i j h g = rw one-mul (ltb_add d m n)
first_decides d (suc (suc a)) b m n i j h g = absurd (omega arith)
first_decides d zero (suc (suc b)) m n i j h g = absurd (omega arith)
first_decides d (suc zero) (suc (suc b)) m n i j h g = absurd (omega arith)

pub before_rank : {l : ℕ} {p q : List ℕ} → Packet l p → Packet l q → is_before p q ≡ ltb (rank p) (rank q)
unfolding is_before rank
before_rank none none = refl
before_rank (more {l = l} {ds = p} a i P) (more {ds = q} b j Q) =
    rw (packet_length P, packet_length Q, before_rank P Q) (first_decides (2 ^ l) a b (rank p) (rank q) i j (rank_below P) (rank_below Q))
