-- The first member of a set from a rank on: none of an empty set, the one packet of level 0 from rank 0, and above level 0 by both halves.
use mathlib.Core.Path.{◌≡◌, refl, sym, ap, ◌∙◌, subst}
use mathlib.Core.Logic.{◌↔◌}
use mathlib.Core.List.{List, [], ◌∷◌}
use mathlib.Core.Bool.{true, false, not}
use Prim.Native.Nat.{ℕ, zero, suc, ◌+◌, ◌-◌, ◌^◌, ◌<◌, ◌≤◌, zero-le, min}
use native.Mathlib.Omega.{arith}
use native.Mathlib.Nat.{one-mul, zero-mul}
use lib.Dec.{T}
use lib.ListN.{get_or}
use Rattle.model.specs.FieldOrder.{rank, ranked}
use Rattle.model.specs.FirstPair.{LeastRank}
use Rattle.model.specs.Meaning.{Sem}
use Rattle.model.specs.Packets.{none, Packet, contains}
use Rattle.model.specs.Store.{set, Store, child}
use Rattle.model.specs.WellFormed.{Held}
use Rattle.model.proofs.Ranks.{least_none, least_iff, least_first_half, least_second_half, rank_more}
use Rattle.model.proofs.FieldOrder.{rank_below}
use Rattle.model.proofs.Rules.{own, held_within}
use Rattle.model.proofs.Tests.{empty, den_empty, inhabited}
use Rattle.memory.specs.Performing.{KnowsProperties, ReadsChildren}
use Rattle.memory.specs.Rows.{places, plain}
use Rattle.memory.specs.declared.Properties.{Properties}
use Rattle.first_paths.specs.FromRanks.{FindsFrom}

-- the members from the rank f on
abbrev FromRank : Store → ℕ → ℕ → Sem
FromRank S p f x = contains S p x × (f ≤ rank x)

from_empty : (S : Store) (l p f : ℕ) → Held set S l p → T (empty set l p S) → LeastRank l (FromRank S p f) (2 ^ l)
from_empty S l p f A t = least_none (λ x X c. den_empty (own set S l p A) t x X c.0)

-- AT LEVEL 0
nothing_later : (S : Store) (p f : ℕ) → (f ≡ 0 → ⊥) → LeastRank 0 (FromRank S p f) (2 ^ 0)
unfolding rank
nothing_later S p f n = least_none none_there
  where
    none_there : (x : List ℕ) → Packet 0 x → ¬ FromRank S p f x
    none_there x none c = n (let e : f ≡ 0 = omega (arith, c.1) in e)

the_one : (S : Store) (p f : ℕ) → p < 2 → T (not (empty set 0 p S)) → f ≡ 0 → LeastRank 0 (FromRank S p f) 0
unfolding rank ranked
the_one S p f b t e = record {
  most = zero-le;
  here = λ i. let d = inhabited set 0 p S b t in (only d.0 d.1 d.2, let z : f ≤ 0 = omega arith in z);
  first = λ x X c. zero-le;
}
  where
    only : (ds : List ℕ) → Packet 0 ds → contains S p ds → p ≡ 1
    only ds none c = c

-- ABOVE IT: what is in each half
module _ (S : Store) (l p f : ℕ) where
  abbrev x₀ : ℕ
  x₀ = child set S p 0

  abbrev x₁ : ℕ
  x₁ = child set S p 1

  in_first : (y : List ℕ) → Packet l y → FromRank S x₀ f y ↔ FromRank S p f (0 ∷ y)
  in_first y Y = let e : rank (0 ∷ y) ≡ 0 + rank y = rank_more 0 Y ∙ ap (λ n. n + rank y) (zero-mul (2 ^ l)) in
      (λ c. (c.0, omega (arith, c.1)), λ c. (c.0, omega (arith, c.1)))

  in_second : (g : ℕ) → ((n : ℕ) → (g ≤ n) ↔ (f ≤ 2 ^ l + n)) → (y : List ℕ) → Packet l y → FromRank S x₁ g y ↔ FromRank S p f (1 ∷ y)
  in_second g i y Y = let e : rank (1 ∷ y) ≡ 2 ^ l + rank y = rank_more 1 Y ∙ ap (λ n. n + rank y) (one-mul (2 ^ l)) in
      (λ c. (c.0, subst (λ n. f ≤ n) (sym e) ((i (rank y)).0 c.1)), λ c. (c.0, (i (rank y)).1 (subst (λ n. f ≤ n) e c.1)))

  from_first : {r : ℕ} → r < 2 ^ l → LeastRank l (FromRank S x₀ f) r → LeastRank (suc l) (FromRank S p f) r
  from_first i A = least_first_half i (least_iff in_first A)

  from_second : {r n : ℕ} → f < 2 ^ l → 2 ^ l ≤ r → LeastRank l (FromRank S x₀ f) r → LeastRank l (FromRank S x₁ 0) n
      → LeastRank (suc l) (FromRank S p f) (2 ^ l + n)
  from_second {r} {n} h i A B =
      let e : min n (2 ^ l) ≡ n = omega (arith, B.most) in
      subst (λ m. LeastRank (suc l) (FromRank S p f) (2 ^ l + m)) e
      (least_second_half i (least_iff in_first A) (least_iff (in_second 0 (λ m. (λ _. omega arith, λ _. zero-le))) B))

  from_beyond : {n : ℕ} → 2 ^ l ≤ f → LeastRank l (FromRank S x₁ (f - 2 ^ l)) n → LeastRank (suc l) (FromRank S p f) (2 ^ l + n)
  from_beyond {n} h B =
      let e : min n (2 ^ l) ≡ n = omega (arith, B.most) in
      subst (λ m. LeastRank (suc l) (FromRank S p f) (2 ^ l + m)) e
      (least_second_half {m = 2 ^ l} (omega arith) (least_none none_before)
      (least_iff (in_second (f - 2 ^ l) (λ m. (λ i. omega arith, λ i. omega arith))) B))
    where
      none_before : (y : List ℕ) → Packet l y → ¬ FromRank S p f (0 ∷ y)
      none_before y Y c = let d = (in_first y Y).1 c in let z : ⊥ = omega (arith, d.1, rank_below Y) in z

-- THE CODE: what it finds of a set whose properties r it knows
module _ {m w : List ℕ} {l p f : ℕ} {r : Properties} (N : KnowsProperties set m w l p r) where
  pub find_empty : {v : ℕ} → r.empty ≡ true → v ≡ 2 ^ l → FindsFrom l p f m w v
  find_empty t e = record {
    finds = λ k B n i F W A. subst (LeastRank l (FromRank (plain set B m n) p f)) (sym e)
        (from_empty (plain set B m n) l p f A (subst T (sym ((N.knows k B n i F W A).empty ∙ t)) tt));
  }

  -- at level 0 there is one packet, of rank 0
  pub find_at_0 : {v : ℕ} → r.empty ≡ false → l ≡ 0 → v ≡ min f 1 → FindsFrom l p f m w v
  find_at_0 {v} t e g = subst (λ l. KnowsProperties set m w l p r → FindsFrom l p f m w v) (sym e) (λ N. go N f g) N
    where
      go : KnowsProperties set m w 0 p r → (f : ℕ) → v ≡ min f 1 → FindsFrom 0 p f m w v
      go N zero g = subst (FindsFrom 0 p 0 m w) (let e : 0 ≡ v = omega (arith, g) in e) (record {
        finds = λ k B n i F W A. the_one (plain set B m n) p 0 A (subst (λ b. T (not b)) (sym ((N.knows k B n i F W A).empty ∙ t)) tt) refl;
      })
      go N (suc f) g = subst (FindsFrom 0 p (suc f) m w) (let e : 1 ≡ v = omega (arith, g) in e) (record {
        finds = λ k B n i F W A. nothing_later (plain set B m n) p (suc f) (λ e. absurd (let z : ⊥ = omega arith in z));
      })

-- the children of p, of level l, are y₀ and y₁, and are held in every store on the nodes m
module _ {m : List ℕ} {p y₀ y₁ : ℕ} (l : ℕ) (X : ReadsChildren set m p (y₀ ∷ y₁ ∷ [])) (B : Store) (n : ℕ) (i : n ≤ places 2 m)
    (A : Held set (plain set B m n) (suc l) p) where
  is_first : child set (plain set B m n) p 0 ≡ y₀
  is_first = ap (λ x. get_or x 0 0) (X.kids B n i (held_within l A))

  is_second : child set (plain set B m n) p 1 ≡ y₁
  is_second = ap (λ x. get_or x 1 0) (X.kids B n i (held_within l A))

  held_first : Held set (plain set B m n) l y₀
  held_first = subst (Held set (plain set B m n) l) is_first (A.below 0 (omega arith))

  held_second : Held set (plain set B m n) l y₁
  held_second = subst (Held set (plain set B m n) l) is_second (A.below 1 (omega arith))

  module _ {f r : ℕ} where
    of_first : LeastRank l (FromRank (plain set B m n) y₀ f) r → LeastRank l (FromRank (plain set B m n) (child set (plain set B m n) p 0) f) r
    of_first L = subst (λ y. LeastRank l (FromRank (plain set B m n) y f) r) (sym is_first) L

    of_second : LeastRank l (FromRank (plain set B m n) y₁ f) r → LeastRank l (FromRank (plain set B m n) (child set (plain set B m n) p 1) f) r
    of_second L = subst (λ y. LeastRank l (FromRank (plain set B m n) y f) r) (sym is_second) L

-- so what is found there leads to what is found of p; v is 2^l
module _ {m w : List ℕ} {g l p f v y₀ y₁ : ℕ} (eg : g ≡ suc l) (X : ReadsChildren set m p (y₀ ∷ y₁ ∷ [])) (ev : v ≡ 2 ^ l) where
  pub find_first : {r : ℕ} → r < v → FindsFrom l y₀ f m w r → FindsFrom g p f m w r
  find_first {r} h R = subst (λ g. FindsFrom g p f m w r) (sym eg) (record {
    finds = λ k B n i F W A. from_first (plain set B m n) l p f (omega (arith, ev)) (of_first l X B n i A (R.finds k B n i F W (held_first l X B n i A)));
  })

  pub find_second : {r t : ℕ} → f < v → v ≤ r → FindsFrom l y₀ f m w r → FindsFrom l y₁ 0 m w t → FindsFrom g p f m w (v + t)
  find_second {r} {t} h j R Q = subst (λ g. FindsFrom g p f m w (v + t)) (sym eg) (record {
    finds = λ k B n i F W A. subst (λ v. LeastRank (suc l) (FromRank (plain set B m n) p f) (v + t)) (sym ev)
        (from_second (plain set B m n) l p f (omega (arith, ev)) (omega (arith, ev)) (of_first l X B n i A (R.finds k B n i F W (held_first l X B n i A)))
        (of_second l X B n i A (Q.finds k B n i F W (held_second l X B n i A))));
  })

  pub find_beyond : {t : ℕ} → v ≤ f → FindsFrom l y₁ (f - v) m w t → FindsFrom g p f m w (v + t)
  find_beyond {t} h R = subst (λ g. FindsFrom g p f m w (v + t)) (sym eg) (record {
    finds = λ k B n i F W A. subst (λ v. FindsFrom l y₁ (f - v) m w t → LeastRank (suc l) (FromRank (plain set B m n) p f) (v + t)) (sym ev)
        (λ R. from_beyond (plain set B m n) l p f (omega (arith, ev)) (of_second l X B n i A (R.finds k B n i F W (held_second l X B n i A)))) R;
  })
