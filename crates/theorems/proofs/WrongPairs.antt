-- Three wrong versions of the first pair, refuted: the pair that a walk by digits meets first, the first packet of each set, and none where the first packet of
-- the input set leads nowhere.
use mathlib.Core.Path.{◌≡◌, refl}
use mathlib.Core.List.{List, [], ◌∷◌, ◌++◌}
use mathlib.Core.Option.{Option, none, some}
use mathlib.Core.Bool.{Bool, true, ◌&&◌, ◌||◌}
use Prim.Native.Nat.{ℕ, ◌+◌}
use native.Mathlib.Omega.{arith}
use lib.ListN.{take}
use Rattle.model.specs.FirstPair.{first_packet, first_pair}
use Rattle.model.specs.Store.{same_node}

-- a test that one pair passes
abbrev pair : List ℕ → List ℕ → List ℕ → List ℕ → Bool
pair a b x y = same_node x a && same_node y b

-- BY DIGITS: the fields of both packets in turn, input bit before output bit, as a walk meets them
abbrev inputs : List ℕ → List ℕ
inputs [] = []
inputs (i ∷ []) = i ∷ []
inputs (i ∷ o ∷ z) = i ∷ inputs z

abbrev outputs : List ℕ → List ℕ
outputs [] = []
outputs (i ∷ []) = []
outputs (i ∷ o ∷ z) = o ∷ outputs z

-- with the pairs (01, 00) and (00, 10) alone the walk meets the former first, and the latter is the first pair
pub by_digits : ¬ ((l : ℕ) (t : List ℕ → List ℕ → Bool) (z w : List ℕ) → first_packet (l + l) (λ z. t (inputs z) (outputs z)) ≡ some z
    → first_pair l t ≡ some w → inputs z ≡ take l w)
unfolding first_packet first_pair
by_digits h =
    let t : List ℕ → List ℕ → Bool = λ x y. pair (0 ∷ 1 ∷ []) (0 ∷ 0 ∷ []) x y || pair (0 ∷ 0 ∷ []) (1 ∷ 0 ∷ []) x y in
    let e : ◌≡◌ {A = List ℕ} (0 ∷ 1 ∷ []) (0 ∷ 0 ∷ []) = h 2 t (0 ∷ 0 ∷ 1 ∷ 0 ∷ []) (0 ∷ 0 ∷ 1 ∷ 0 ∷ []) refl refl in
    let z : ◌≡◌ {A = ℕ} 1 0 = cc in omega arith

-- THE FIRST PACKETS of both sets need not be related: with the pair (0, 1) alone and full sets they are 0 and 0
pub first_packets : ¬ ((l : ℕ) (P Q : List ℕ → Bool) (t : List ℕ → List ℕ → Bool) (x y w : List ℕ) → first_packet l P ≡ some x → first_packet l Q ≡ some y
    → first_pair l (λ x y. P x && (t x y && Q y)) ≡ some w → w ≡ x ++ y)
unfolding first_packet first_pair
first_packets h =
    let e : ◌≡◌ {A = List ℕ} (0 ∷ 1 ∷ []) (0 ∷ 0 ∷ []) = h 1 (λ x. true) (λ y. true) (pair (0 ∷ []) (1 ∷ [])) (0 ∷ []) (0 ∷ []) (0 ∷ 1 ∷ []) refl refl refl in
    let z : ◌≡◌ {A = ℕ} 1 0 = cc in omega arith

-- NONE is not said of the first packet of the input set: with the pair (1, 0) alone and full sets it is 0, which leads nowhere
pub first_leads_nowhere : ¬ ((l : ℕ) (P Q : List ℕ → Bool) (t : List ℕ → List ℕ → Bool) (x : List ℕ) → first_packet l P ≡ some x
    → first_packet l (λ y. t x y && Q y) ≡ none → first_pair l (λ x y. P x && (t x y && Q y)) ≡ none)
unfolding first_packet first_pair
first_leads_nowhere h =
    let e : ◌≡◌ {A = Option (List ℕ)} (some (1 ∷ 0 ∷ [])) none = h 1 (λ x. true) (λ y. true) (pair (1 ∷ []) (0 ∷ [])) (0 ∷ []) refl refl in
    let z : ◌≡◌ {A = ℕ} 1 0 = cc in omega arith
