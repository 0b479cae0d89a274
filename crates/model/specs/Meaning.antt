-- What the operations mean: sets and relations of packets, after the KATch paper (SPs and SPPs) and NetKAT without `dup`.
use Rattle.std.specs.Prelude.{◌≡◌, ◌⊎◌, ◌↔◌, List, Bool, ℕ, zero, suc, ◌<◌, get_or, set as put}
use Rattle.model.specs.Store.{Kind, rel, Store, pick}
use Rattle.model.specs.Packets.{Digits, Packet, walk, relates}
use Rattle.model.specs.WellFormed.{Held}

-- a set of packets (or of lists of digits), and a relation on packets
abbrev pub Sem : Type 1
Sem = List ℕ → Type 0

abbrev pub Rel : Type 1
Rel = List ℕ → List ℕ → Type 0

-- h is held at level l and denotes φ: a walk from it ends at 1 exactly along the digits in φ; for a set, these are its packets
pub record Den (K : Kind) (l : ℕ) (φ : Sem) (S : Store) (h : ℕ) : Type 0 where
  pub held : Held K S l h
  pub means : (ds : List ℕ) → Digits K l ds → (walk K S h ds ≡ 1) ↔ φ ds

-- h is held at level l and relates the packets that R does
pub record Relates (l : ℕ) (R : Rel) (S : Store) (h : ℕ) : Type 0 where
  pub held : Held rel S l h
  pub means : (p q : List ℕ) → Packet l p → Packet l q → relates S h p q ↔ R p q

-- the handle h of kind K, held at level l in S, lasts in S': it is held there at that level and its walks end as they did,
-- so that a set has the same packets and a relation the same pairs
pub record Lasts (K : Kind) (S S' : Store) (l h : ℕ) : Type 0 where
  pub held : Held K S' l h
  pub walks : (ds : List ℕ) → Digits K l ds → walk K S' h ds ≡ walk K S h ds

-- R and R' relate the same packets of l fields
abbrev pub Same : ℕ → Rel → Rel → Type 0
Same l R R' = (p q : List ℕ) → Packet l p → Packet l q → R p q ↔ R' p q

-- h is a yes, 1, exactly where X is so, else a no, 0
pub record Decides (X : Type 0) (h : ℕ) : Type 0 where
  pub bit : h < 2
  pub means : (h ≡ 1) ↔ X

-- xor, "in exactly one"; difference
abbrev pub OneOf : Type 0 → Type 0 → Type 0
OneOf X Y = (X × (¬ Y)) ⊎ ((¬ X) × Y)

abbrev pub Without : Type 0 → Type 0 → Type 0
Without X Y = X × (¬ Y)

abbrev pub Both : Type 0 → Type 0 → Type 0
Both X Y = X × Y

-- some packet of l fields
abbrev pub Some : ℕ → Sem → Type 0
Some l P = (p : List ℕ) × Packet l p × P p

-- NetKAT's tests and assignments on field v; the bit of a value
abbrev pub bit_of : Bool → ℕ
bit_of b = pick b 1 0

abbrev pub Passes : ℕ → Bool → Sem
Passes v b p = get_or p v 0 ≡ bit_of b

abbrev pub Assign : ℕ → Bool → Rel
Assign v b p q = q ≡ put p v (bit_of b)

-- the filter of a set: NetKAT's predicates as relations
abbrev pub Filter : Sem → Rel
Filter P p q = (p ≡ q) × P p

-- composition, and any finite number of steps
abbrev pub Compose : ℕ → Rel → Rel → Rel
Compose l R T p q = (m : List ℕ) × Packet l m × R p m × T m q

abbrev pub Steps : ℕ → ℕ → Rel → Rel
Steps l zero R p q = p ≡ q
Steps l (suc n) R p q = Compose l R (Steps l n R) p q

abbrev pub Star : ℕ → Rel → Rel
Star l R p q = (n : ℕ) × Steps l n R p q

-- the range, the domain, the image of a set, and the packets with some output in a set
abbrev pub Range : ℕ → Rel → Sem
Range l R q = Some l (λ p. R p q)

abbrev pub Domain : ℕ → Rel → Sem
Domain l R p = Some l (λ q. R p q)

abbrev pub Image : ℕ → Sem → Rel → Sem
Image l P R q = Some l (λ p. P p × R p q)

abbrev pub Preimage : ℕ → Rel → Sem → Sem
Preimage l R P p = Some l (λ q. P q × R p q)

-- p has no output at all by R; 01, "the packets p refuses"
abbrev pub Refuses : ℕ → Rel → Sem
Refuses l R p = ¬ Domain l R p

-- `ifelse`: the first set where field v is 1, else the second
abbrev pub Choice : ℕ → Sem → Sem → Sem
Choice v P Q p = ((get_or p v 0 ≡ 1) × P p) ⊎ ((get_or p v 0 ≡ 0) × Q p)
