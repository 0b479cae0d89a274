-- Rules for programs: what is known after each step of a run, from what is known before it.
-- R is a store well formed that extends S, and a value with Q
use mathlib.Core.Path.{◌≡◌, refl, ap}
use mathlib.Core.Logic.{◌↔◌}
use mathlib.Core.List.{List, [], ◌∷◌}
use mathlib.Core.Bool.{Bool, true, false, not}
use Prim.Native.Nat.{ℕ, zero, suc, ◌<◌}
use native.Mathlib.Omega.{arith}
use lib.ListN.{length, get_or}
use lib.Dec.{T}
use Rattle.model.specs.Meaning.{Sem, Den, Lasts}
use Rattle.model.specs.Packets.{Digits, more, walk}
use Rattle.model.specs.Programs.{Test, holds, Prog, ret, ask, look, mk, bind, Ran, run}
use Rattle.model.specs.Recursion.{for, four}
use Rattle.model.specs.Safety.{Within, Sure, Safe}
use Rattle.model.specs.Store.{Kind, arity, Store, pick, get, child, mk_store, mk_handle}
use Rattle.model.specs.WellFormed.{Held, WellFormed, Extends}
use Rattle.model.proofs.Extends.{ext_refl, ext_trans, ext_lasts}
use Rattle.model.proofs.Mk.{mk_ext, mk_held, mk_formed, mk_walk}

pub record After (k : ℕ) (S : Store) (Q : Store → ℕ → Type 0) (R : Ran) : Type 0 where
  pub ext : Extends S R.store
  pub formed : WellFormed k R.store
  pub post : Q R.store R.value

-- later nodes keep Q
abbrev pub Kept : (Store → ℕ → Type 0) → Type 0
Kept Q = (S S' : Store) (h : ℕ) → Extends S S' → Q S h → Q S' h

-- p is safe from S on, and ends with Q
pub record Does (k : ℕ) (S : Store) (p : Prog) (Q : Store → ℕ → Type 0) : Type 0 where
  pub safe : Safe p S
  pub after : After k S Q (run p S)

-- a handle that lasts keeps its meaning
pub den_lasts : {K : Kind} {l : ℕ} {φ : Sem} {S S' : Store} {h : ℕ} → Lasts K S S' l h → Den K l φ S h → Den K l φ S' h
den_lasts L A = record { held = L.held; means = λ ds D. rw (L.walks ds D) (A.means ds D) }

pub den_ext : {K : Kind} {l : ℕ} {φ : Sem} {S S' : Store} {h : ℕ} → Extends S S' → Den K l φ S h → Den K l φ S' h
den_ext E A = den_lasts (ext_lasts E A.held) A

pub den_iff : {K : Kind} {l : ℕ} {φ ψ : Sem} {S : Store} {h : ℕ} → ((ds : List ℕ) → Digits K l ds → φ ds ↔ ψ ds) → Den K l φ S h → Den K l ψ S h
den_iff e A = record { held = A.held; means = λ ds D. (λ w. (e ds D).0 ((A.means ds D).0 w), λ p. (A.means ds D).1 ((e ds D).1 p)) }

-- what a held handle means by its own walks
pub own : (K : Kind) (S : Store) (l a : ℕ) → Held K S l a → Den K l (λ ds. walk K S a ds ≡ 1) S a
own K S l a A = record { held = A; means = λ ds D. (λ x. x, λ x. x) }

-- a child's meaning
pub den_child : {K : Kind} {l : ℕ} {φ : Sem} {S : Store} {h : ℕ} → Den K (suc l) φ S h → (d : ℕ) → d < arity K → Den K l (λ ds. φ (d ∷ ds)) S (child K S h d)
den_child A d i = record { held = A.held.below d i; means = λ ds D. A.means (d ∷ ds) (more d i D) }

-- what is held above level 0 has a node
pub held_within : {K : Kind} {S : Store} {h : ℕ} (l : ℕ) → Held K S (suc l) h → Within K S h
held_within l A = record { big = A.big; there = A.there }

-- the meaning of a node whose children mean φ 0, φ 1, ..
abbrev pub Node : (ℕ → Sem) → Sem
Node φ [] = ⊥
Node φ (d ∷ ds) = φ d ds

module _ {k : ℕ} where
  pub ret_does : {S : Store} {Q : Store → ℕ → Type 0} (h : ℕ) → WellFormed k S → Q S h → Does k S (ret h) Q
  unfolding run Safe
  ret_does h F q = record { safe = tt; after = record { ext = ext_refl; formed = F; post = q } }

  pub ask_does : {S : Store} {Q : Store → ℕ → Type 0} {p q : Prog} (t : Test) → Sure t S → (T (holds t S) → Does k S p Q)
      → (T (not (holds t S)) → Does k S q Q)
      → Does k S (ask t p q) Q
  unfolding run Safe
  ask_does {S} {Q} {p} {q} t s f g = let r = go (holds t S) f g in record { safe = (s, r.0); after = r.1 }
    where
      go : (b : Bool) → (T b → Does k S p Q) → (T (not b) → Does k S q Q) → pick b (Safe p S) (Safe q S) × After k S Q (pick b (run p S) (run q S))
      go true f g = ((f tt).safe, (f tt).after)
      go false f g = ((g tt).safe, (g tt).after)

  pub look_does : {S : Store} {Q : Store → ℕ → Type 0} (K : Kind) (h : ℕ) {f : List ℕ → Prog} → Within K S h → Does k S (f (get K S h)) Q
      → Does k S (look K h f) Q
  unfolding run Safe
  look_does K h w d = record { safe = (w, d.safe); after = d.after }

  after_ext : {S S' : Store} {Q : Store → ℕ → Type 0} {R : Ran} → Extends S S' → After k S' Q R → After k S Q R
  after_ext E a = record { ext = ext_trans E a.ext; formed = a.formed; post = a.post }

  pub post_does : {S : Store} {Q Q' : Store → ℕ → Type 0} {p : Prog} → ((S' : Store) (h : ℕ) → Q S' h → Q' S' h) → Does k S p Q → Does k S p Q'
  post_does f a = record { safe = a.safe; after = record { ext = a.after.ext; formed = a.after.formed; post = f _ _ a.after.post } }

  pub bind_does : {S : Store} {Q Q' : Store → ℕ → Type 0} {p : Prog} {f : ℕ → Prog} → Does k S p Q
      → ((S' : Store) (h : ℕ) → Extends S S' → WellFormed k S' → Q S' h → Does k S' (f h) Q') → Does k S (bind p f) Q'
  unfolding run Safe
  bind_does a g =
      let b = g _ _ a.after.ext a.after.formed a.after.post in
      record { safe = (a.safe, b.safe); after = after_ext a.after.ext b.after }

  pub mk_does : {S : Store} (K : Kind) (l : ℕ) (φ : ℕ → Sem) (x : List ℕ) → WellFormed k S → l < k → length x ≡ arity K
      → ((d : ℕ) → d < arity K → Den K l (φ d) S (get_or x d 0)) → Does k S (mk K x) (Den K (suc l) (Node φ))
  unfolding run Safe
  mk_does {S} K l φ x F b n H = record {
    safe = record { level = l; sized = n; held = λ d i. (H d i).held };
    after = record {
      ext = mk_ext K x S;
      formed = mk_formed K x F b n (λ d i. (H d i).held);
      post = record { held = mk_held K x F b n (λ d i. (H d i).held); means = means };
    };
  }
    where
      means : (ds : List ℕ) → Digits K (suc l) ds → (walk K (mk_store K x S) (mk_handle K x S) ds ≡ 1) ↔ Node φ ds
      means ds (more {ds = ds'} d i D) = rw (mk_walk K x F b n (λ d i. (H d i).held) d i D) ((H d i).means ds' D)

  -- f 0, .., f (n - 1) in order, with Q 0, .., Q (n - 1), which later nodes keep; then c of their values
  pub for_does : {S : Store} {Q' : Store → ℕ → Type 0} (Q : ℕ → Store → ℕ → Type 0) → ((d : ℕ) (S S' : Store) (h : ℕ) → Extends S S' → Q d S h → Q d S' h)
      → (n : ℕ) (f : ℕ → Prog) (c : List ℕ → Prog) → WellFormed k S
      → ((d : ℕ) → d < n → (S' : Store) → Extends S S' → WellFormed k S' → Does k S' (f d) (Q d))
      → ((S' : Store) (rs : List ℕ) → Extends S S' → WellFormed k S' → length rs ≡ n → ((d : ℕ) → d < n → Q d S' (get_or rs d 0)) → Does k S' (c rs) Q')
      → Does k S (for n f c) Q'
  for_does {S} Q up zero f c F H G = G S [] ext_refl F refl (λ d i. absurd (omega arith))
  for_does {S} Q up (suc n) f c F H G =
      bind_does (H 0 (omega arith) S ext_refl F) (λ S₁ r E₁ F₁ A.
      for_does (λ d. Q (suc d)) (λ d. up (suc d)) n (λ d. f (suc d)) (λ rs. c (r ∷ rs)) F₁
      (λ d i S₂ E₂ F₂. H (suc d) (omega arith) S₂ (ext_trans E₁ E₂) F₂)
      (λ S₂ rs E₂ F₂ e B. G S₂ (r ∷ rs) (ext_trans E₁ E₂) F₂ (ap suc e)
      (elim [ zero ↦ λ i. up 0 S₁ S₂ r E₂ A | suc d ↦ λ i. B d (omega arith) ])))

  -- four programs in order, with what later nodes keep of each
  pub four_does : {S : Store} {Q' : Store → ℕ → Type 0} (Q₀ Q₁ Q₂ Q₃ : Store → ℕ → Type 0) {p q r s : Prog} {c : ℕ → ℕ → ℕ → ℕ → Prog}
      → Kept Q₀ → Kept Q₁ → Kept Q₂
      → Does k S p Q₀
      → ((S' : Store) → Extends S S' → WellFormed k S' → Does k S' q Q₁)
      → ((S' : Store) → Extends S S' → WellFormed k S' → Does k S' r Q₂)
      → ((S' : Store) → Extends S S' → WellFormed k S' → Does k S' s Q₃)
      → ((S' : Store) (a b d e : ℕ) → Extends S S' → WellFormed k S' → Q₀ S' a → Q₁ S' b → Q₂ S' d → Q₃ S' e → Does k S' (c a b d e) Q')
      → Does k S (four p q r s c) Q'
  four_does Q₀ Q₁ Q₂ Q₃ up₀ up₁ up₂ P Q R Z G =
      bind_does P λ S₁ a E₁ F₁ A.
      bind_does (Q S₁ E₁ F₁) λ S₂ b E₂ F₂ B.
      let W₂ = ext_trans E₁ E₂ in
      bind_does (R S₂ W₂ F₂) λ S₃ d E₃ F₃ D.
      let W₃ = ext_trans W₂ E₃ in
      bind_does (Z S₃ W₃ F₃) λ S₄ e E₄ F₄ E.
      G S₄ a b d e (ext_trans W₃ E₄) F₄ (up₀ S₁ S₄ a (ext_trans E₂ (ext_trans E₃ E₄)) A) (up₁ S₂ S₄ b (ext_trans E₃ E₄) B) (up₂ S₃ S₄ d E₄ D) E
