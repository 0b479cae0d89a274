-- Packets, as numbers and field by field, and the walk that says what a handle holds; 01, "The store", "A list of calls".
use Rattle.std.specs.Prelude.{◌≡◌, List, [], ◌∷◌, ℕ, zero, suc, ◌+◌, ◌*◌, ◌/◌, ◌%◌, ◌<◌}
use Rattle.model.specs.Store.{Kind, set, rel, arity, Store, child}

-- l digits, each the number of a child
pub data Digits (K : Kind) : ℕ → List ℕ → Type 0 where
  none : Digits K zero []
  more : {l : ℕ} {ds : List ℕ} (d : ℕ) → d < arity K → Digits K l ds → Digits K (suc l) (d ∷ ds)

-- a packet of l fields, field by field: l bits from field 0 on
abbrev pub Packet : ℕ → List ℕ → Type 0
Packet l p = Digits set l p

-- PACKET NUMBERS. 01: "A packet of k fields is a number below 2^k"; 02, M-105: "field 0 is the least significant bit of a packet number".
-- `packet l n` is the packet of l fields with the number n, `number` its inverse. The order of packets is no matter of their numbers and
-- goes by FieldOrder. Beside the laws in proofs/Numbers, proofs/Walking of `call_rules` unfolds `packet`, for the loop of `relates`.
unfoldable pub packet : ℕ → ℕ → List ℕ
packet zero n = []
packet (suc l) n = n % 2 ∷ packet l (n / 2)

unfoldable pub number : List ℕ → ℕ
number [] = 0
number (b ∷ p) = b + 2 * number p

-- the digits of an input and an output packet: 01, "first digit input bit, second output bit"
abbrev pub digits : List ℕ → List ℕ → List ℕ
digits [] q = []
digits (i ∷ p) [] = []
digits (i ∷ p) (o ∷ q) = (2 * i + o) ∷ digits p q

-- where the walk from h ends that takes at each node the child of the next digit
abbrev pub walk : Kind → Store → ℕ → List ℕ → ℕ
walk K S h [] = h
walk K S h (d ∷ ds) = walk K S (child K S h d) ds

-- the packets in a set; the pairs of a relation: 01, "where the walk from it .. ends at handle 1"
abbrev pub contains : Store → ℕ → List ℕ → Type 0
contains S h p = walk set S h p ≡ 1

abbrev pub relates : Store → ℕ → List ℕ → List ℕ → Type 0
relates S h p q = walk rel S h (digits p q) ≡ 1
