-- What later nodes leave as it was: children, levels, walks.
use mathlib.Core.Path.{◌≡◌, refl, sym, ap, ◌∙◌}
use mathlib.Core.List.{List, [], ◌∷◌, ◌++◌, append_assoc}
use Prim.Native.Nat.{ℕ, zero, suc, ◌%◌, ◌<◌}
use native.Mathlib.Omega.{arith}
use lib.ListN.{length, get_or, length-append, get_or-append}
use Rattle.model.specs.Meaning.{Lasts}
use Rattle.model.specs.Packets.{Digits, none, more, walk}
use Rattle.model.specs.Store.{Kind, Nodes, Store, nodes, index, with_sign, get, child}
use Rattle.model.specs.WellFormed.{Held, Fits, Extends}

pub append_nil : (N : Nodes) → N ++ [] ≡ N
append_nil [] = refl
append_nil (x ∷ N) = ap (λ M. x ∷ M) (append_nil N)

pub ext_refl : {S : Store} → Extends S S
ext_refl {S} = record { tail = λ K. []; split = λ K. sym (append_nil (nodes K S)) }

pub ext_trans : {S S' S'' : Store} → Extends S S' → Extends S' S'' → Extends S S''
ext_trans {S} p q = record {
  tail = λ K. p.tail K ++ q.tail K;
  split = λ K. q.split K ∙ ap (λ N. N ++ q.tail K) (p.split K) ∙ append_assoc (nodes K S) (p.tail K) (q.tail K);
}

module _ {S S' : Store} (E : Extends S S') where
  pub ext_there : (K : Kind) (i : ℕ) → i < length (nodes K S) → i < length (nodes K S')
  ext_there K i h = rw (E.split K, length-append) (omega arith)

  pub ext_node : (K : Kind) (i : ℕ) → i < length (nodes K S) → get_or (nodes K S') i [] ≡ get_or (nodes K S) i []
  ext_node K i h = rw (E.split K) (get_or-append (nodes K S) (E.tail K) [] i h)

  pub ext_get : (K : Kind) (h : ℕ) → index K h < length (nodes K S) → get K S' h ≡ get K S h
  unfolding get
  ext_get K h t = ap (with_sign K (h % 2)) (ext_node K (index K h) t)

  pub ext_held : (K : Kind) (l h : ℕ) → Held K S l h → Held K S' l h
  ext_held K zero h A = A
  ext_held K (suc l) h A = record {
    big = A.big;
    there = ext_there K (index K h) A.there;
    below = λ d i. rw (ext_get K h A.there) (ext_held K l (child K S h d) (A.below d i));
  }

  pub ext_walk : {K : Kind} {l : ℕ} {ds : List ℕ} (h : ℕ) → Held K S l h → Digits K l ds → walk K S' h ds ≡ walk K S h ds
  ext_walk h A none = refl
  ext_walk {K} h A (more {ds = ds} d i D) = rw (ext_get K h A.there) (ext_walk (child K S h d) (A.below d i) D)

  -- so every handle lasts
  pub ext_lasts : {K : Kind} {l h : ℕ} → Held K S l h → Lasts K S S' l h
  ext_lasts {K} {l} {h} A = record { held = ext_held K l h A; walks = λ ds D. ext_walk h A D }

  -- an old node still fits
  pub ext_fits : {k : ℕ} {K : Kind} {i : ℕ} {x : List ℕ} → Fits k K S i x → Fits k K S' i x
  ext_fits {K = K} f = record {
    sized = f.sized;
    level = f.level;
    under = f.under;
    below = λ d i. ext_held K f.level _ (f.below d i);
    earlier = f.earlier;
    even = f.even;
  }

-- a handle that lasts to a store and on from there
pub lasts_same : {K : Kind} {S : Store} {l h : ℕ} → Held K S l h → Lasts K S S l h
lasts_same A = record { held = A; walks = λ ds D. refl }

pub lasts_then : {K : Kind} {S S' S'' : Store} {l h : ℕ} → Lasts K S S' l h → Lasts K S' S'' l h → Lasts K S S'' l h
lasts_then f g = record { held = g.held; walks = λ ds D. g.walks ds D ∙ f.walks ds D }
