-- The first packet that passes a test, and the first pair: 02, M-100, "the first such pair, comparing the input field by field from field 0, 0 before 1, then
-- the output likewise".
use Rattle.std.specs.Prelude.{◌≡◌, List, [], ◌∷◌, Bool, false, ◌&&◌, ℕ, zero, suc, ◌+◌, ◌^◌, ◌<◌, ◌≤◌, eqb, take, drop}
use Rattle.std.proofs.Math.Option.{Option, none, some}
use Rattle.model.specs.Store.{set, rel, Store, pick}
use Rattle.model.specs.Packets.{Packet, digits, walk, contains, relates}
use Rattle.model.specs.FieldOrder.{is_before, rank, ranked}
use Rattle.model.specs.Meaning.{Sem, Rel}

-- the packet with the bit b before its fields, if there is one
abbrev pub begun_with : ℕ → Option (List ℕ) → Option (List ℕ)
begun_with b none = none
begun_with b (some p) = some (b ∷ p)

abbrev pub or_if_none : Option (List ℕ) → Option (List ℕ) → Option (List ℕ)
or_if_none none p = p
or_if_none (some p) q = some p

-- the first packet of l fields that passes t: one with 0 in field 0 where there is such a one, else one with 1
unfoldable pub first_packet : ℕ → (List ℕ → Bool) → Option (List ℕ)
first_packet zero t = pick (t []) (some []) none
first_packet (suc l) t = or_if_none (begun_with 0 (first_packet l (λ p. t (0 ∷ p)))) (begun_with 1 (first_packet l (λ p. t (1 ∷ p))))

-- the first pair of packets of l fields that passes t. A pair is the packet of its input's fields and then its output's: the order of pairs is field order
unfoldable pub first_pair : ℕ → (List ℕ → List ℕ → Bool) → Option (List ℕ)
first_pair l t = first_packet (l + l) (λ z. t (take l z) (drop l z))

-- 02: "input in the first set, output in the last, related"
abbrev pub passes_through : Store → ℕ → ℕ → ℕ → List ℕ → List ℕ → Bool
passes_through S p a q x y = eqb (walk set S p x) 1 && (eqb (walk rel S a (digits x y)) 1 && eqb (walk set S q y) 1)

abbrev pub Through : Store → ℕ → ℕ → ℕ → Rel
Through S p a q x y = contains S p x × relates S a x y × contains S q y

-- the first pair from the set p by the relation a to the set q, all of level l
abbrev pub first_path : ℕ → Store → ℕ → ℕ → ℕ → Option (List ℕ)
first_path l S p a q = first_pair l (passes_through S p a q)

-- WHAT IS FIRST: in P, and nothing that is in P comes before it
pub record First (l : ℕ) (P : Sem) (x : List ℕ) : Type 0 where
  pub packet : Packet l x
  pub inside : P x
  pub least : (y : List ℕ) → Packet l y → P y → is_before y x ≡ false

-- h is the rank of what is first in P, or 2^l where nothing is
pub record LeastRank (l : ℕ) (P : Sem) (h : ℕ) : Type 0 where
  pub most : h ≤ 2 ^ l
  pub here : h < 2 ^ l → P (ranked l h)
  pub first : (x : List ℕ) → Packet l x → P x → h ≤ rank x

-- x and y are the first pair in R: the input decides, and the output where the inputs are equal
pub record FirstPair (l : ℕ) (R : Rel) (x y : List ℕ) : Type 0 where
  pub input : Packet l x
  pub output : Packet l y
  pub related : R x y
  pub least_input : (x' y' : List ℕ) → Packet l x' → Packet l y' → R x' y' → is_before x' x ≡ false
  pub least_output : (y' : List ℕ) → Packet l y' → R x y' → is_before y' y ≡ false
