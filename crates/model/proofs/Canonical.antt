-- Canonicity (Bryant): two handles of one level with one meaning are one handle, for both kinds, from the store's rules.
-- THE GENERIC LEMMA: a handle's children decide it
use mathlib.Core.Path.{◌≡◌, sym, ap, ◌∙◌, subst}
use mathlib.Core.Logic.{◌↔◌}
use mathlib.Core.List.{List, [], ◌∷◌}
use Prim.Native.Nat.{ℕ, zero, suc, ◌%◌, ◌<◌}
use native.Mathlib.Omega.{arith}
use lib.ListN.{length, get_or}
use lib.Seq.{ext_get_or}
use Rattle.model.specs.Packets.{Digits, none, more, walk}
use Rattle.model.specs.Store.{Kind, arity, Store, nodes, index, handle_of, get, child}
use Rattle.model.specs.WellFormed.{Inner, Held, WellFormed}
use Rattle.model.proofs.Bools.{bit_eq}
use Rattle.model.proofs.Signs.{handle_index, length_with_sign, with_sign_inj, handle_eq}

get_inj : {k : ℕ} {S : Store} {P Q : ℕ → Type 0} (K : Kind) (a b : ℕ) → WellFormed k S → Inner K S P a → Inner K S Q b → get K S a ≡ get K S b → a ≡ b
unfolding get
get_inj {S = S} K a b F A B e =
    let fa = F.fits K (index K a) A.there in
    let fb = F.fits K (index K b) B.there in
    let bs : a % 2 < 2 = omega arith in
    let bt : b % 2 < 2 = omega arith in
    let r = with_sign_inj K (a % 2) (b % 2) _ _ bs bt fa.sized fb.sized fa.even fb.even e in
    let i : index K a ≡ index K b = F.distinct K (index K a) (index K b) A.there B.there r.0 in
    sym (handle_index K a A.big) ∙ handle_eq K (a % 2) (b % 2) (index K a) r.1 bs bt ∙ ap (handle_of K (b % 2)) i ∙ handle_index K b B.big

-- nodes as long as their kind asks
pub record Sized (K : Kind) (S : Store) : Type 0 where
  pub each : (i : ℕ) → i < length (nodes K S) → length (get_or (nodes K S) i []) ≡ arity K

pub formed_sized : {k : ℕ} {S : Store} (K : Kind) → WellFormed k S → Sized K S
formed_sized K F = record { each = λ i h. (F.fits K i h).sized }

pub get_length : {S : Store} {P : ℕ → Type 0} (K : Kind) (h : ℕ) → Sized K S → Inner K S P h → length (get K S h) ≡ arity K
unfolding get
get_length {S} K h Z A = length_with_sign K (h % 2) (get_or (nodes K S) (index K h) []) ∙ Z.each (index K h) A.there

pub canonical : {k : ℕ} {S : Store} (K : Kind) (l a b : ℕ) → WellFormed k S → Held K S l a → Held K S l b
    → ((ds : List ℕ) → Digits K l ds → walk K S a ds ≡ walk K S b ds) → a ≡ b
canonical K zero a b F A B e = e [] none
canonical {S = S} K (suc l) a b F A B e =
    get_inj K a b F A B (ext_get_or 0 (get K S a) (get K S b) (get_length K a (formed_sized K F) A ∙ sym (get_length K b (formed_sized K F) B))
    (λ d h. let i : d < arity K = subst (λ n. d < n) (get_length K a (formed_sized K F) A) h in
    canonical K l (child K S a d) (child K S b d) F (A.below d i) (B.below d i) (λ ds D. e (d ∷ ds) (more d i D))))

-- WALKS END AT 0 OR 1
pub walk_bit : {K : Kind} {l : ℕ} {ds : List ℕ} (S : Store) (h : ℕ) → Held K S l h → Digits K l ds → walk K S h ds < 2
walk_bit S h A none = A
walk_bit {K} S h A (more d i D) = walk_bit S (child K S h d) (A.below d i) D

pub canonical↔ : {k : ℕ} {S : Store} (K : Kind) (l a b : ℕ) → WellFormed k S → Held K S l a → Held K S l b
    → ((ds : List ℕ) → Digits K l ds → (walk K S a ds ≡ 1) ↔ (walk K S b ds ≡ 1)) → a ≡ b
canonical↔ {S = S} K l a b F A B e = canonical K l a b F A B (λ ds D. bit_eq _ _ (walk_bit S a A D) (walk_bit S b B D) (e ds D))
