-- The walk along two packets, field by field, as `relates` makes it.
use mathlib.Core.Path.{◌≡◌, sym, ap, ◌∙◌, subst}
use mathlib.Core.List.{List}
use Prim.Native.Nat.{ℕ, zero, suc, ◌+◌, ◌-◌, ◌*◌, ◌/◌, ◌%◌, ◌<◌}
use native.Mathlib.Omega.{arith}
use lib.ListN.{get_or}
use lib.Dec.{eqb}
use Rattle.model.specs.Packets.{packet, digits, walk}
use Rattle.model.specs.Safety.{Within}
use Rattle.model.specs.Store.{rel, Store, get}
use Rattle.model.specs.WellFormed.{Held}

abbrev pub pair : ℕ → ℕ → ℕ → List ℕ
pair l p q = digits (packet l p) (packet l q)

-- from h, of level l, the walk along i and o, what is left of the packets p and q, ends as the one from a, of level n, along all of them
pub record Walking (S : Store) (n a p q l h i o : ℕ) : Type 0 where
  pub held : Held rel S l h
  pub same : walk rel S h (pair l i o) ≡ walk rel S a (pair n p q)

module _ {S : Store} {n a p q h i o : ℕ} where
  pub walking_within : (l : ℕ) → 0 < l → Walking S n a p q l h i o → Within rel S h
  walking_within zero g W = absurd (omega arith)
  walking_within (suc l) g W = record { big = W.held.big; there = W.held.there }

  pub walking_next : (l r : ℕ) → 0 < l → r ≡ get_or (get rel S h) (2 * (i % 2) + o % 2) 0 → Walking S n a p q l h i o
      → Walking S n a p q (l - 1) r (i / 2) (o / 2)
  unfolding packet
  walking_next zero r g er W = absurd (omega arith)
  walking_next (suc l) r g er W = let e : suc l - 1 ≡ l = omega arith in subst (λ j. Walking S n a p q j r (i / 2) (o / 2)) (sym e) (record {
    held = subst (Held rel S l) (sym er) (W.held.below (2 * (i % 2) + o % 2) (omega arith));
    same = ap (λ x. walk rel S x (pair l (i / 2) (o / 2))) er ∙ W.same;
  })

  pub walking_ends : (l : ℕ) → l ≡ 0 → Walking S n a p q l h i o → eqb h 1 ≡ eqb (walk rel S a (pair n p q)) 1
  unfolding packet
  walking_ends l e W = ap (λ x. eqb x 1) (sym (ap (λ l. walk rel S h (pair l i o)) e) ∙ W.same)
