-- On limited places a program succeeds exactly where its run without limit ends within them.
-- the places rule, as 01 words it: neither kind has more nodes than places
use mathlib.Core.Path.{◌≡◌, refl, ap, ◌∙◌}
use mathlib.Core.Logic.{◌↔◌}
use mathlib.Core.Bool.{Bool, true, false}
use Prim.Native.Nat.{ℕ, ◌≤◌}
use native.Mathlib.Omega.{arith}
use lib.ListN.{length, length-append}
use lib.Dec.{leb, T, leb→le, le→leb}
use Rattle.model.specs.Places.{fits_places, Bounded, used_up, ended, and_then, bounded}
use Rattle.model.specs.Programs.{holds, Prog, panic, ret, ask, look, mk, bind, Ran, ran, run}
use Rattle.model.specs.Store.{set, rel, Store, pick, get}
use Rattle.model.specs.WellFormed.{Extends}
use Rattle.model.proofs.Bools.{and_T, both_T}
use Rattle.model.proofs.Settle.{run_ext}

pub fits_places_iff : (m n : ℕ) (S : Store) → T (fits_places m n S) ↔ ((length S.sets ≤ m) × (length S.rels ≤ n))
fits_places_iff m n S = (
  λ t. let u = and_T (leb (length S.sets) m) (leb (length S.rels) n) t in (leb→le (length S.sets) m u.0, leb→le (length S.rels) n u.1),
  λ h. both_T (leb (length S.sets) m) (leb (length S.rels) n) (le→leb (length S.sets) m h.0) (le→leb (length S.rels) n h.1),
)

-- fewer nodes need no more places
pub fits_back : (m n : ℕ) {S S' : Store} → Extends S S' → T (fits_places m n S') → T (fits_places m n S)
fits_back m n {S} {S'} E t = let u = (fits_places_iff m n S').0 t in (fits_places_iff m n S).1 (
  omega (arith, u.0, ap length (E.split set), length-append S.sets (E.tail set)),
  omega (arith, u.1, ap length (E.split rel), length-append S.rels (E.tail rel)),
)

ends : (b : Bool) (R : Ran) → T b → ended R ≡ pick b (ended R) used_up
ends true R t = refl
ends false R t = absurd t

module _ (m n : ℕ) where
  -- refusal 6: the limited run is used up exactly where the run without limit ends with more nodes than places
  pub bounded_is : (p : Prog) (S : Store) → T (fits_places m n S) → bounded m n p S ≡ pick (fits_places m n (run p S).store) (ended (run p S)) used_up
  unfolding run bounded
  bounded_is panic S t = ends (fits_places m n S) (ran S 0) t
  bounded_is (ret h) S t = ends (fits_places m n S) (ran S h) t
  bounded_is (ask c p q) S t = go _ _ (run p S) (run q S) (holds c S) (bounded_is p S t) (bounded_is q S t)
    where
      go : (P Q : Bounded) (R R' : Ran) (b : Bool) → P ≡ pick (fits_places m n R.store) (ended R) used_up
          → Q ≡ pick (fits_places m n R'.store) (ended R') used_up
          → pick b P Q ≡ pick (fits_places m n (pick b R R').store) (ended (pick b R R')) used_up
      go P Q R R' true e f = e
      go P Q R R' false e f = f
  bounded_is (look K h f) S t = bounded_is (f (get K S h)) S t
  bounded_is (mk K x) S t = refl
  bounded_is (bind p f) S t = go (fits_places m n (run p S).store) refl (bounded_is p S t) (bounded_is (f (run p S).value) (run p S).store)
    where
      R : Ran
      R = run p S

      Q : Ran
      Q = run (f R.value) R.store

      used : (b : Bool) → (T b → ⊥) → used_up ≡ pick b (ended Q) used_up
      used true n = absurd (n tt)
      used false n = refl

      go : (b : Bool) → fits_places m n R.store ≡ b → bounded m n p S ≡ pick b (ended R) used_up
          → (T (fits_places m n R.store) → bounded m n (f R.value) R.store ≡ pick (fits_places m n Q.store) (ended Q) used_up)
          → and_then (bounded m n p S) (λ r. bounded m n (f r.value) r.store) ≡ pick (fits_places m n Q.store) (ended Q) used_up
      go true e g h = ap (λ z. and_then z (λ r. bounded m n (f r.value) r.store)) g ∙ h (rw e tt)
      go false e g h = ap (λ z. and_then z (λ r. bounded m n (f r.value) r.store)) g
          ∙ used (fits_places m n Q.store) (λ t. rw e at (fits_back m n (run_ext (f R.value) R.store) t))
