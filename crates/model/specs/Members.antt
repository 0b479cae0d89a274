-- The packets that pass a test, in field order: 02, M-103, "headers come in the field order of M-100, each member exactly once".
use Rattle.std.specs.Prelude.{◌≡◌, List, [], ◌∷◌, ◌++◌, map, ◌⊎◌, Bool, true, ℕ, zero, suc, eqb}
use Rattle.model.specs.Store.{set, Store, pick}
use Rattle.model.specs.Packets.{Packet, walk}
use Rattle.model.specs.FieldOrder.{is_before}
use Rattle.model.specs.Meaning.{Sem}

-- the packets of l fields that pass t: those with 0 in field 0, then those with 1
unfoldable pub passing : ℕ → (List ℕ → Bool) → List (List ℕ)
passing zero t = pick (t []) ([] ∷ []) []
passing (suc l) t = map (λ p. 0 ∷ p) (passing l (λ p. t (0 ∷ p))) ++ map (λ p. 1 ∷ p) (passing l (λ p. t (1 ∷ p)))

-- whether a packet is in the set h
abbrev pub is_member : Store → ℕ → List ℕ → Bool
is_member S h p = eqb (walk set S h p) 1

-- THE MEMBERS of the set h of level l
abbrev pub members : Store → ℕ → ℕ → List (List ℕ)
members S l h = passing l (is_member S h)

-- WHAT IT IS FOR A LIST to have the packets of P in field order
abbrev pub In : List ℕ → List (List ℕ) → Type 0
In p [] = ⊥
In p (x ∷ xs) = (p ≡ x) ⊎ In p xs

-- each is before all that follow it, so that none is there twice
abbrev pub Ordered : List (List ℕ) → Type 0
Ordered [] = Unit {0}
Ordered (x ∷ xs) = ((y : List ℕ) → In y xs → is_before x y ≡ true) × Ordered xs

pub record InOrder (l : ℕ) (P : Sem) (xs : List (List ℕ)) : Type 0 where
  pub each : (p : List ℕ) → In p xs → Packet l p × P p
  pub all : (p : List ℕ) → Packet l p → P p → In p xs
  pub ordered : Ordered xs
