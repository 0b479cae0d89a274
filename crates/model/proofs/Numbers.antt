-- Packet numbers: the packets of l fields are the numbers below 2^l, one to one, bit f of the number being field f; and the law that ties
-- numbers to places in field order, by the bits in the other order.
use mathlib.Core.Path.{◌≡◌, refl, sym, ap, ◌∙◌}
use mathlib.Core.List.{List, ◌∷◌}
use Prim.Native.Nat.{ℕ, zero, suc, ◌+◌, ◌*◌, ◌/◌, ◌%◌, ◌^◌, ◌<◌}
use native.Mathlib.Omega.{arith}
use native.Mathlib.Nat.{div-div-eq-div-mul, mul_assoc, pow-suc, pow-succ', pow-zero}
use lib.ListN.{get_or}
use Rattle.model.specs.FieldOrder.{rank, ranked}
use Rattle.model.specs.Packets.{none, more, Packet, packet, number}
use Rattle.model.proofs.FieldOrder.{bit_below}
use Rattle.model.proofs.Ranks.{rank_more}

pub packet_is : (l n : ℕ) → Packet l (packet l n)
unfolding packet
packet_is zero n = none
packet_is (suc l) n = more _ (bit_below n) (packet_is l (n / 2))

-- `packet` and `number` are inverse
pub number_below : {l : ℕ} {p : List ℕ} → Packet l p → number p < 2 ^ l
unfolding number
number_below none = omega arith
number_below (more b i P) = rw pow-suc (omega (arith, number_below P))

pub packet_more : (l b n : ℕ) → b < 2 → packet (suc l) (b + 2 * n) ≡ b ∷ packet l n
unfolding packet
packet_more l b n i =
    let d : (b + 2 * n) % 2 ≡ b = omega arith in
    let e : (b + 2 * n) / 2 ≡ n = omega arith in
    rw (d, e) refl

pub packet_number : {l : ℕ} {p : List ℕ} → Packet l p → packet l (number p) ≡ p
unfolding number packet
packet_number none = refl
packet_number (more {l = l} {ds = p} b i P) = packet_more l b (number p) i ∙ ap (λ p. b ∷ p) (packet_number P)

pub number_packet : (l n : ℕ) → n < 2 ^ l → number (packet l n) ≡ n
unfolding packet number
number_packet zero n h = omega (arith, rw pow-zero at h)
number_packet (suc l) n h = omega (arith, number_packet l (n / 2) (let g : n < 2 ^ l * 2 = rw pow-suc at h in omega arith))

-- bit f of the number is field f
halved : (n l : ℕ) → n / 2 / 2 ^ l ≡ n / 2 ^ suc l
halved n l = rw (div-div-eq-div-mul, pow-succ') refl

pub field_is_bit : (l f n : ℕ) → f < l → get_or (packet l n) f 0 ≡ n / 2 ^ f % 2
unfolding packet
field_is_bit zero f n i = absurd (omega arith)
field_is_bit (suc l) zero n i = omega arith
field_is_bit (suc l) (suc f) n i = field_is_bit l f (n / 2) (omega arith) ∙ ap (λ m. m % 2) (halved n f)

-- THE PLACE IN FIELD ORDER of the packet with the number n is the number of the packet at the place n: both have the bits of n in the other order. The last
-- field, the highest bit of the number, is the lowest of the place
pub rank_last : (l n : ℕ) → rank (packet (suc l) n) ≡ n / 2 ^ l % 2 + 2 * rank (packet l n)
unfolding packet rank
rank_last zero n = omega arith
rank_last (suc l) n =
    let b = n % 2 in
    let here : rank (packet (suc (suc l)) n) ≡ b * 2 ^ suc l + rank (packet (suc l) (n / 2)) = rank_more b (packet_is (suc l) (n / 2)) in
    let below : rank (packet (suc l) n) ≡ b * 2 ^ l + rank (packet l (n / 2)) = rank_more b (packet_is l (n / 2)) in
    let twice : b * 2 ^ suc l ≡ b * 2 ^ l * 2 = ap (λ m. b * m) (pow-suc 2 l) ∙ sym (mul_assoc b (2 ^ l) 2) in
    omega (arith, here, below, twice, rank_last l (n / 2), ap (λ m. m % 2) (halved n l))

pub number_ranked : (l n : ℕ) → number (ranked l n) ≡ rank (packet l n)
unfolding packet number ranked rank
number_ranked zero n = refl
number_ranked (suc l) n = omega (arith, number_ranked l n, rank_last l n)
