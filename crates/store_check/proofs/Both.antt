-- Both kinds checked, one after the other: each keeps the rules by itself, so together they do.
use mathlib.Core.Path.{◌≡◌, refl, sym, ap, ◌∙◌, subst}
use mathlib.Core.Logic.{◌⊎◌, inl, inr}
use mathlib.Core.List.{List, []}
use mathlib.Core.Bool.{Bool, true, false}
use Prim.Native.Nat.{ℕ, zero, suc, ◌%◌, ◌<◌, ◌≤◌}
use native.Mathlib.Omega.{arith}
use lib.ListN.{length, get_or, replicate}
use Rattle.model.specs.Images.{blank}
use Rattle.model.specs.Store.{Kind, set, rel, arity, Nodes, Store, nodes, index, with_sign, get, child}
use Rattle.model.specs.WellFormed.{Held, Fits, Distinct, WellFormed}
use Rattle.memory.specs.Performing.{other}
use Rattle.memory.specs.Finding.{Emptied}
use Rattle.memory.specs.Rows.{rows, places, plain}
use Rattle.memory.specs.Working.{Right}
use Rattle.memory.proofs.Rows.{plain_length}
use Rattle.memory.proofs.Starting.{right_turned, right_cleared}
use Rattle.memory.proofs.Steps.{false≢true}
use Rattle.store_check.specs.StoreChecking.{Start, NodesChecked, both, BothChecked}
use Rattle.store_check.proofs.Fitting.{says_no}

-- ONE KIND of a well-formed store is well formed by itself
module _ (K : Kind) (S S' : Store) (e : nodes K S ≡ nodes K S') where
  child_alone : (h d : ℕ) → child K S h d ≡ child K S' h d
  unfolding get
  child_alone h d = ap (λ (N : Nodes). get_or (with_sign K (h % 2) (get_or N (index K h) [])) d 0) e

  held_alone : (l h : ℕ) → Held K S l h → Held K S' l h
  held_alone zero h A = A
  held_alone (suc l) h A = record {
    big = A.big;
    there = subst (λ (N : Nodes). index K h < length N) e A.there;
    below = λ d b. subst (Held K S' l) (child_alone h d) (held_alone l (child K S h d) (A.below d b));
  }

  fits_alone : (k i : ℕ) (x : List ℕ) → Fits k K S i x → Fits k K S' i x
  fits_alone k i x f = record {
    sized = f.sized;
    level = f.level;
    under = f.under;
    below = λ d b. held_alone f.level (get_or x d 0) (f.below d b);
    earlier = f.earlier;
    even = f.even;
  }

formed_alone : {k : ℕ} (S S' : Store) → ((K : Kind) → (nodes K S ≡ nodes K S') ⊎ (nodes K S' ≡ [])) → WellFormed k S → WellFormed k S'
formed_alone {k} S S' p F = record { fits = λ K. fits K (p K); distinct = λ K. distinct K (p K) }
  where
    fits : (K : Kind) → (nodes K S ≡ nodes K S') ⊎ (nodes K S' ≡ []) → (i : ℕ) → i < length (nodes K S') → Fits k K S' i (get_or (nodes K S') i [])
    fits K (inl e) i l = fits_alone K S S' e k i (get_or (nodes K S') i [])
        (subst (λ (N : Nodes). Fits k K S i (get_or N i [])) e (F.fits K i (subst (λ (N : Nodes). i < length N) (sym e) l)))
    fits K (inr e) i l = absurd (let z : ⊥ = omega (arith, ap length e) in z)

    distinct : (K : Kind) → (nodes K S ≡ nodes K S') ⊎ (nodes K S' ≡ []) → Distinct (nodes K S')
    distinct K (inl e) = subst Distinct e (F.distinct K)
    distinct K (inr e) = λ i j l. absurd (let z : ⊥ = omega (arith, ap length e) in z)

formed_none : {k : ℕ} (K : Kind) (m : List ℕ) → WellFormed k (plain K blank m 0)
formed_none K m = record { fits = λ J i l. absurd (none K J i l); distinct = λ J i j l. absurd (none K J i l) }
  where
    none : (K J : Kind) (i : ℕ) → i < length (nodes J (plain K blank m 0)) → ⊥
    none set set i l = omega (arith, plain_length set blank m 0)
    none rel rel i l = omega (arith, plain_length rel blank m 0)
    none set rel i l = omega arith
    none rel set i l = omega arith

first_alone : {k : ℕ} (K : Kind) (m m' : List ℕ) (n n' : ℕ) → WellFormed k (both K m n m' n') → WellFormed k (plain K blank m n)
first_alone K m m' n n' = formed_alone (both K m n m' n') (plain K blank m n) (λ J. parts K J)
  where
    parts : (K J : Kind) → (nodes J (both K m n m' n') ≡ nodes J (plain K blank m n)) ⊎ (nodes J (plain K blank m n) ≡ [])
    parts set set = inl refl
    parts rel rel = inl refl
    parts set rel = inr refl
    parts rel set = inr refl

none_yet : (K : Kind) (m m' : List ℕ) (n : ℕ) → plain (other K) (plain K blank m n) m' 0 ≡ plain K blank m n
unfolding rows
none_yet set m m' n = refl
none_yet rel m m' n = refl

start : {k : ℕ} (K : Kind) (m w : List ℕ) → w ≡ replicate (length w) 0 → Start k K blank m w
start {k} K m w e = record {
  right = subst (λ w. Right K blank w m 0) (sym e) (right_cleared (length w) k (formed_none K m));
  formed = formed_none K m;
}

-- a verdict that is known
pub as_checked : {c n k : ℕ} {m w w' : List ℕ} {r b : Bool} → r ≡ b → NodesChecked c n k m w w' r → NodesChecked c n k m w w' b
as_checked {c} {n} {k} {m} {w} {w'} e = subst (NodesChecked c n k m w w') e

pub first_fails : {c n k : ℕ} (c' n' : ℕ) {m w w₁ : List ℕ} (m' : List ℕ) → NodesChecked c n k m w w₁ false → BothChecked c n c' n' k m m' w w₁ false
first_fails {n = n} c' n' {m} {w} m' A = record {
  right = λ K a b p q z t. absurd (false≢true t);
  verdict = λ K a b p q z. says_no (λ W. (A.verdict K blank a p (start K m w z)).not refl (first_alone K m m' n n' W));
  work_length = A.work_length;
}

pub both_checked : {c n c' n' k : ℕ} {m m' w w₁ w₂ w₃ : List ℕ} {r : Bool} → NodesChecked c n k m w w₁ true → Emptied w₁ w₂ → NodesChecked c' n' k m' w₂ w₃ r
    → BothChecked c n c' n' k m m' w w₃ r
both_checked {c} {n} {k = k} {m = m} {m' = m'} {w = w} {w₂ = w₂} A E I = record {
  right = λ K a b p q z. I.right (other K) (plain K blank m n) b q (begun K a p z);
  verdict = λ K a b p q z. I.verdict (other K) (plain K blank m n) b q (begun K a p z);
  work_length = I.work_length ∙ E.apart.work_length ∙ A.work_length;
}
  where
    begun : (K : Kind) → c ≡ arity K → n ≤ places c m → w ≡ replicate (length w) 0 → Start k (other K) (plain K blank m n) m' w₂
    begun K a p z = record {
      right = right_turned (none_yet K m m' n) (A.right K blank a p (start K m w z) refl) E;
      formed = subst (WellFormed k) (sym (none_yet K m m' n)) ((A.verdict K blank a p (start K m w z)).so refl);
    }
