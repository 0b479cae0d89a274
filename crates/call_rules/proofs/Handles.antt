-- Operands and their levels: what `of_one`, `of_pair` and their fellows are where a function says which handles are held, and at which level.
use mathlib.Core.Path.{◌≡◌, refl, sym, ap, ◌∙◌, subst}
use mathlib.Core.List.{List}
use mathlib.Core.Bool.{Bool, true, false, ◌&&◌}
use Prim.Native.Nat.{ℕ, ◌^◌, ◌<◌, ◌≤◌}
use native.Mathlib.Omega.{arith}
use lib.Dec.{ltb, eqb, T}
use borrow.Author.Tests.{lt-ltb, le-ltb, eq-eqb, ne_eqb}
use Rattle.model.specs.Store.{Kind, arity, Store}
use Rattle.model.specs.WellFormed.{Held, WellFormed, is_held, level_of}
use Rattle.model.proofs.Levels.{level_is, held_at}
use Rattle.memory.specs.Noting.{LevelIs}
use Rattle.memory.specs.Rows.{places, plain}
use Rattle.memory.proofs.Steps.{false≢true}
use Rattle.call_rules.specs.Outcome.{Check, guard, also, of_one, of_pair, of_four}
use Rattle.call_rules.specs.Checking.{Low, Checks}
use Rattle.std.specs.Prelude.{Ok, Err, IsErrAnd}
use Rattle.call_rules.specs.declared.Refusal.{Refusal}
use Rattle.call_rules.specs.declared.Refusal.TheVariants.{NotHeld, LevelsDiffer}

pub guard_yes : (r : Refusal) (b : Bool) (c : Check) → b ≡ true → guard r b c ≡ c
unfolding guard
guard_yes r b c e = rw e

pub guard_no : (r : Refusal) (b : Bool) (c : Check) → b ≡ false → guard r b c ≡ Err r
unfolding guard
guard_no r b c e = rw e

module _ {k : ℕ} {S : Store} (K : Kind) (F : WellFormed k S) where
  pub held_here : (h : ℕ) → is_held K S h ≡ true → (level_of k K S h ≤ k) × Held K S (level_of k K S h) h
  held_here h e =
      let t = held_at K h F (subst T (sym e) tt) in
      let q = level_is K S k t.0 h t.1 t.2 in (subst (λ l. l ≤ k) (sym q) t.1, subst (λ l. Held K S l h) (sym q) t.2)

  pub one_none : (a : ℕ) → is_held K S a ≡ false → of_one k K S a ≡ Err NotHeld
  unfolding of_one
  one_none a e = guard_no _ _ _ e

  pub one_is : (a l : ℕ) → is_held K S a ≡ true → l ≡ level_of k K S a → of_one k K S a ≡ Ok l
  unfolding of_one
  one_is a l e f = guard_yes _ _ _ e ∙ ap Ok (sym f)

  -- four operands: all held, all at one level
  module _ (a b c d : ℕ) where
    pub four_none : (is_held K S a && (is_held K S b && (is_held K S c && is_held K S d))) ≡ false → of_four k K S a b c d ≡ Err NotHeld
    unfolding of_four
    four_none e = guard_no _ _ _ e

    module _ (e : (is_held K S a && (is_held K S b && (is_held K S c && is_held K S d))) ≡ true) (l : ℕ) (p : l ≡ level_of k K S a) where
      at_levels : (x : Bool) → (eqb (level_of k K S b) l && (eqb (level_of k K S c) l && eqb (level_of k K S d) l)) ≡ x
          → of_four k K S a b c d ≡ guard LevelsDiffer x (Ok l)
      unfolding of_four
      at_levels x q = guard_yes _ _ _ e ∙ rw (← p, q)

      pub four_apart : (eqb (level_of k K S b) l && (eqb (level_of k K S c) l && eqb (level_of k K S d) l)) ≡ false
          → of_four k K S a b c d ≡ Err LevelsDiffer
      four_apart q = at_levels false q ∙ guard_no _ _ _ refl

      pub four_are : (eqb (level_of k K S b) l && (eqb (level_of k K S c) l && eqb (level_of k K S d) l)) ≡ true → of_four k K S a b c d ≡ Ok l
      four_are q = at_levels true q ∙ guard_yes _ _ _ refl

-- two operands of the kinds K and J
module _ {k : ℕ} {S : Store} (K J : Kind) (F : WellFormed k S) (a b : ℕ) where
  pub pair_first : is_held K S a ≡ false → of_pair k S K a J b ≡ Err NotHeld
  unfolding of_pair
  pair_first e = guard_no _ _ _ e

  pub pair_second : is_held K S a ≡ true → is_held J S b ≡ false → of_pair k S K a J b ≡ Err NotHeld
  unfolding of_pair
  pair_second e f = guard_yes _ _ _ e ∙ guard_no _ _ _ f

  module _ (l j : ℕ) (e : is_held K S a ≡ true) (f : is_held J S b ≡ true) (p : l ≡ level_of k K S a) (q : j ≡ level_of k J S b) where
    levels : of_pair k S K a J b ≡ guard LevelsDiffer (eqb j l) (Ok l)
    unfolding of_pair
    levels = guard_yes _ _ _ e ∙ guard_yes _ _ _ f ∙ (λ i. guard LevelsDiffer (eqb (sym q i) (sym p i)) (Ok (sym p i)))

    pub pair_apart : (j ≡ l → ⊥) → of_pair k S K a J b ≡ Err LevelsDiffer
    pair_apart n = levels ∙ guard_no _ _ _ (ne_eqb j l n)

    pub pair_are : j ≡ l → of_pair k S K a J b ≡ Ok l
    pair_are n = levels ∙ guard_yes _ _ _ (eq-eqb j l n)

-- each of four tests
pub all_four : (a b c d : Bool) → (a && (b && (c && d))) ≡ true → (a ≡ true) × (b ≡ true) × (c ≡ true) × (d ≡ true)
all_four true true true true e = (refl, refl, refl, refl)
all_four true true true false e = absurd (false≢true e)
all_four true true false d e = absurd (false≢true e)
all_four true false c d e = absurd (false≢true e)
all_four false b c d e = absurd (false≢true e)

-- the level that `level` finds
pub level_known : {c k h r : ℕ} (K : Kind) (B : Store) (m : List ℕ) (n : ℕ) → LevelIs m c k h r → c ≡ arity K → n ≤ places (arity K) m
    → WellFormed k (plain K B m n) → is_held K (plain K B m n) h ≡ true → r ≡ level_of k K (plain K B m n) h
level_known K B m n L e f F t = let u = held_here K F _ t in L K B n _ e (subst (λ c. n ≤ places c m) (sym e) f) u.1 u.0

-- a check X that is r, and one more test t where it passes
module _ {X r : Check} (q : Refusal) (t : ℕ → Bool) (C : X ≡ r) where
  pub also_no : (l : ℕ) → r ≡ Ok l → t l ≡ false → also X q t ≡ Err q
  unfolding also
  also_no l e f = ap (λ c. also c q t) (C ∙ e) ∙ guard_no q (t l) (Ok l) f

  pub also_yes : (l : ℕ) → r ≡ Ok l → t l ≡ true → also X q t ≡ Ok l
  unfolding also
  also_yes l e f = ap (λ c. also c q t) (C ∙ e) ∙ guard_yes q (t l) (Ok l) f

  -- a refusal stays
  pub still_no : (p : Refusal) → r ≡ Err p → also X q t ≡ r
  unfolding also
  still_no p e = ap (λ c. also c q t) (C ∙ e) ∙ sym e

-- a refusal that `?` hands on
pub handed_on : (x y : Check) (q : Refusal) → x ≡ Err q → IsErrAnd y (λ r. r ≡ q) → y ≡ x
handed_on x (Ok l) q e a = absurd a
handed_on x (Err r) q e a = ap Err a ∙ sym e

-- A CHECK that a function made, and one more test after it or before it
module _ {K : Kind} {m : List ℕ} {n k : ℕ} {check : Store → Check} {r : Check} (C : Checks K m n k check r) where
  module _ (q : Refusal) (t : ℕ → Bool) where
    pub stays : (y : Check) (p : Refusal) → r ≡ Err p → IsErrAnd y (λ r. r ≡ p) → Checks K m n k (λ S. also (check S) q t) y
    stays y p e a = let h = handed_on r y p e a in record {
      says = λ B f F. still_no q t (C.says B f F) p e ∙ sym h;
      low = subst (Low k) (sym h) C.low;
    }

    module _ (l : ℕ) (e : r ≡ Ok l) where
      pub fails : t l ≡ false → Checks K m n k (λ S. also (check S) q t) (Err q)
      fails f = record { says = λ B g F. also_no q t (C.says B g F) l e f; low = tt }

      pub passes : t l ≡ true → Checks K m n k (λ S. also (check S) q t) (Ok l)
      passes f = record { says = λ B g F. also_yes q t (C.says B g F) l e f; low = subst (Low k) e C.low }

  pub guarded : (q : Refusal) (b : Bool) → b ≡ true → Checks K m n k (λ S. guard q b (check S)) r
  guarded q b e = record { says = λ B f F. guard_yes q b (check (plain K B m n)) e ∙ C.says B f F; low = C.low }

  -- a level is at most 32
  pub low_level : (l : ℕ) → r ≡ Ok l → k ≤ 32 → l ≤ 32
  low_level l e h = let g = subst (Low k) e C.low in omega arith

-- a packet x against the power of 2 that was computed
pub too_big : (x w p l : ℕ) → w ≡ x → p ≡ 2 ^ l → p ≤ w → ltb x (2 ^ l) ≡ false
too_big x w p l e f h = le-ltb x (2 ^ l) (omega (arith, e, f))

pub in_range : (x w p l : ℕ) → w ≡ x → p ≡ 2 ^ l → w < p → ltb x (2 ^ l) ≡ true
in_range x w p l e f h = lt-ltb x (2 ^ l) (omega (arith, e, f))
