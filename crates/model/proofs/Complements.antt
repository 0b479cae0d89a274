-- The complement of a set's handle: held at the same level, and its walks end the other way.
use mathlib.Core.Path.{◌≡◌, refl, sym, ap, ◌∙◌}
use mathlib.Core.List.{List, [], map}
use Prim.Native.Nat.{ℕ, zero, suc, ◌-◌, ◌/◌, ◌%◌, ◌<◌, ◌≤◌}
use native.Mathlib.Omega.{arith}
use lib.ListN.{length, get_or}
use Rattle.model.specs.Packets.{Digits, none, more, walk}
use Rattle.model.specs.Store.{Kind, set, rel, arity, Store, signed, index, with_sign, get, child}
use Rattle.model.specs.WellFormed.{Held, WellFormed}
use Rattle.model.proofs.Canonical.{Sized, formed_sized, get_length}
use Rattle.model.proofs.Signs.{with_sign_twice, get_d_map, with_sign_zero}

signed_get : (S : Store) (s h : ℕ) → 2 ≤ h → get set S (signed s h) ≡ map (signed s) (get set S h)
unfolding get
signed_get S zero h b = sym (with_sign_zero _)
signed_get S (suc s) h b =
    let e : index set (signed 1 h) ≡ index set h = omega arith in
    ap (λ i. map (signed (signed 1 h % 2)) (get_or S.sets i [])) e
    ∙ go (h % 2) (signed 1 h % 2) (get_or S.sets (index set h) []) (omega arith) (omega arith)
  where
    go : (p q : ℕ) (x : List ℕ) → q ≡ 1 - p → p < 2 → map (signed q) x ≡ map (signed 1) (map (signed p) x)
    go zero q x e c = rw (e, with_sign_zero) refl
    go (suc p) q x e c = let z : q ≡ 0 = omega arith in rw (z, with_sign_zero) (sym (with_sign_twice set 1 x))

pub signed_held : {S : Store} → Sized set S → (l s h : ℕ) → Held set S l h → Held set S l (signed s h)
signed_held F zero zero h A = A
signed_held F zero (suc s) h A = omega arith
signed_held {S} F (suc l) s h A = record {
  big = big s A.big;
  there = rw (same s A.big) A.there;
  below = λ d i. rw (signed_get S s h A.big, get_d_map (signed s) (get set S h) d (rw (get_length set h F A) i))
      (signed_held F l s (child set S h d) (A.below d i));
}
  where
    big : (s : ℕ) → 2 ≤ h → 2 ≤ signed s h
    big zero b = b
    big (suc s) b = omega arith

    same : (s : ℕ) → 2 ≤ h → signed s h / 2 - 1 ≡ h / 2 - 1
    same zero b = refl
    same (suc s) b = omega arith

pub with_sign_held : {S : Store} (l : ℕ) (K : Kind) (s : ℕ) (x : List ℕ) → Sized K S → length x ≡ arity K
    → ((d : ℕ) → d < arity K → Held K S l (get_or x d 0))
    → (d : ℕ) → d < arity K → Held K S l (get_or (with_sign K s x) d 0)
with_sign_held l rel s x F n H d i = H d i
with_sign_held l set s x F n H d i = rw (get_d_map (signed s) x d (rw n i)) (signed_held F l s (get_or x d 0) (H d i))

-- the complement's walk
pub signed_walk : {k : ℕ} {S : Store} {l : ℕ} {ds : List ℕ} (h : ℕ) → WellFormed k S → Held set S l h → Digits set l ds
    → walk set S (signed 1 h) ds ≡ 1 - walk set S h ds
signed_walk h F A none = omega arith
signed_walk {S = S} h F A (more d i D) = rw (signed_get S 1 h A.big, get_d_map (signed 1) (get set S h) d (rw (get_length set h (formed_sized set F) A) i))
    (signed_walk (child set S h d) F (A.below d i) D)
