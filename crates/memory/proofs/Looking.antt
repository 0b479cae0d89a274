-- The children of a handle, read one by one, are the node that `get` gives.
use mathlib.Core.Path.{◌≡◌, refl, ap, ◌∙◌}
use mathlib.Core.List.{List, [], ◌∷◌}
use Prim.Native.Nat.{ℕ, ◌%◌, ◌<◌, ◌≤◌}
use native.Mathlib.Omega.{arith}
use lib.ListN.{length, get_or}
use Rattle.model.specs.Safety.{Within}
use Rattle.model.specs.Store.{Kind, set, rel, arity, Store, nodes, index, get}
use Rattle.model.proofs.Signs.{length_with_sign}
use Rattle.memory.specs.Performing.{ReadsChildren}
use Rattle.memory.specs.Noting.{ChildOf}
use Rattle.memory.specs.Rows.{places, plain}
use Rattle.memory.proofs.Rows.{place_fits, row_length, plain_length, plain_at}

sized : (K : Kind) (B : Store) (m : List ℕ) (n h : ℕ) → n ≤ places (arity K) m → Within K (plain K B m n) h → length (get K (plain K B m n) h) ≡ arity K
unfolding get
sized K B m n h l A =
    let i : index K h < n = omega (arith, A.there, plain_length K B m n) in
    length_with_sign K (h % 2) (get_or (nodes K (plain K B m n)) (index K h) []) ∙ ap length (plain_at K B m n (index K h) i)
    ∙ row_length (arity K) m (index K h) (place_fits (arity K) m (index K h) (omega arith))

two : (x : List ℕ) (a b : ℕ) → length x ≡ 2 → a ≡ get_or x 0 0 → b ≡ get_or x 1 0 → x ≡ a ∷ b ∷ []
two [] a b e p q = absurd (omega (arith, e))
two (c ∷ []) a b e p q = absurd (omega (arith, e))
two (c ∷ d ∷ []) a b e p q = cc
two (c ∷ d ∷ f ∷ x) a b e p q = absurd (omega (arith, e))

pub reads_two : {m : List ℕ} {h a b : ℕ} → ChildOf m 2 h 0 a → ChildOf m 2 h 1 b → ReadsChildren set m h (a ∷ b ∷ [])
reads_two {m} {h} {a} {b} p q = record { kids = λ B n l A. two _ a b (sized set B m n h l A) (p set B n refl l A) (q set B n refl l A) }

four : (x : List ℕ) (a b c d : ℕ) → length x ≡ 4 → a ≡ get_or x 0 0 → b ≡ get_or x 1 0 → c ≡ get_or x 2 0 → d ≡ get_or x 3 0 → x ≡ a ∷ b ∷ c ∷ d ∷ []
four [] a b c d e p q r s = absurd (omega (arith, e))
four (u ∷ []) a b c d e p q r s = absurd (omega (arith, e))
four (u ∷ v ∷ []) a b c d e p q r s = absurd (omega (arith, e))
four (u ∷ v ∷ x ∷ []) a b c d e p q r s = absurd (omega (arith, e))
four (u ∷ v ∷ x ∷ y ∷ []) a b c d e p q r s = cc
four (u ∷ v ∷ x ∷ y ∷ z ∷ l) a b c d e p q r s = absurd (omega (arith, e))

pub reads_four : {m : List ℕ} {h a b c d : ℕ} → ChildOf m 4 h 0 a → ChildOf m 4 h 1 b → ChildOf m 4 h 2 c → ChildOf m 4 h 3 d
    → ReadsChildren rel m h (a ∷ b ∷ c ∷ d ∷ [])
reads_four {m} {h} {a} {b} {c} {d} p q r s = record {
  kids = λ B n l A. four _ a b c d (sized rel B m n h l A) (p rel B n refl l A) (q rel B n refl l A) (r rel B n refl l A) (s rel B n refl l A);
}
