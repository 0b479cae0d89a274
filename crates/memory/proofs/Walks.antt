-- The walk down one child a level: in a well-formed store children that pass one test are one handle,
-- so where they differ the test of the node fails, and where they do not it is the child's.
use mathlib.Core.Path.{◌≡◌, refl, sym, ap, ◌∙◌, subst}
use mathlib.Core.List.{◌∷◌}
use mathlib.Core.Bool.{Bool, true, false, ◌&&◌}
use Prim.Native.Nat.{ℕ, zero, suc, ◌-◌, ◌<◌}
use native.Mathlib.Omega.{arith}
use lib.Dec.{eqb, T}
use borrow.Author.Tests.{eq-eqb, eqb-true}
use Rattle.model.specs.Store.{Kind, set, rel, arity, Store, child}
use Rattle.model.specs.Programs.{is_identity, ending, all_below, agrees}
use Rattle.model.specs.WellFormed.{Held, WellFormed}
use Rattle.model.specs.Safety.{Within}
use Rattle.model.proofs.Tests.{ident, all_below_T}
use Rattle.model.proofs.Levels.{agrees_once}
use Rattle.model.proofs.Bools.{no_true}
use Rattle.memory.specs.Working.{Has}
use Rattle.memory.specs.Noting.{properties}
use Rattle.memory.specs.declared.Properties.{Properties}
use Rattle.memory.proofs.Children.{all_true, all_false}

-- a truth value by what it implies
pub T_true : (b : Bool) → T b → b ≡ true
T_true true t = refl
T_true false t = absurd t

pub T_false : (b : Bool) → (T b → ⊥) → b ≡ false
T_false true f = absurd (f tt)
T_false false f = refl

true_T : {b : Bool} → b ≡ true → T b
true_T e = rw e tt

-- one test of every child
all_one : (n : ℕ) (f : ℕ → Bool) (b : Bool) → 0 < n → ((d : ℕ) → d < n → f d ≡ b) → all_below n f ≡ b
all_one n f true h e = all_true n f e
all_one n f false h e = all_false n f 0 h (e 0 h)

arity_pos : (K : Kind) → 0 < arity K
arity_pos set = omega arith
arity_pos rel = omega arith

-- a fact of a level and the one below it
below : (P : ℕ → ℕ → Type 0) (l : ℕ) → 0 < l → ((j : ℕ) → P (suc j) j) → P l (l - 1)
below P zero h f = absurd (omega arith)
below P (suc j) h f = let e : suc j - 1 ≡ j = omega arith in subst (P (suc j)) (sym e) (f j)

pub level_within : (K : Kind) (S : Store) (l g : ℕ) → 0 < l → Held K S l g → Within K S g
level_within K S zero g h A = absurd (omega arith)
level_within K S (suc l) g h A = record { big = A.big; there = A.there }

-- WALKS TO v: q says whether all children of g are its first child x
abbrev to : ℕ → Kind → ℕ → ℕ → Store → Bool
to v = agrees (λ ds. v)

module _ {k : ℕ} {S : Store} (K : Kind) (c l g v x : ℕ) (q : Bool) (a : c ≡ arity K) (F : WellFormed k S) (pos : 0 < l) (A : Held K S l g)
    (first : x ≡ child K S g 0) (all : q ≡ all_below c (λ d. eqb (child K S g d) x)) where
  alike : all_below (arity K) (λ d. eqb (child K S g d) x) ≡ q
  alike = subst (λ n. all_below n (λ d. eqb (child K S g d) x) ≡ q) a (sym all)

  pub walks_apart : q ≡ false → to v K l g S ≡ false
  unfolding agrees
  walks_apart e = below (λ l j. Held K S l g → to v K l g S ≡ false) l pos go A
    where
      go : (j : ℕ) → Held K S (suc j) g → to v K (suc j) g S ≡ false
      go j A = T_false (to v K (suc j) g S) (λ t.
          let each = all_below_T (arity K) (λ d. to v K j (child K S g d) S) t in
          let one : (d : ℕ) → d < arity K → child K S g d ≡ x =
          λ d i. (agrees_once K j (child K S g 0) (child K S g d) (λ ds. v) F (A.below 0 (arity_pos K)) (A.below d i) (each 0 (arity_pos K))).0 (each d i)
          ∙ sym first in
          no_true (alike ∙ e) (all_true (arity K) (λ d. eqb (child K S g d) x) (λ d i. eq-eqb _ _ (one d i))))

  pub walks_next : q ≡ true → Held K S (l - 1) x × (to v K l g S ≡ to v K (l - 1) x S)
  unfolding agrees
  walks_next e = below (λ l j. Held K S l g → Held K S j x × (to v K l g S ≡ to v K j x S)) l pos go A
    where
      go : (j : ℕ) → Held K S (suc j) g → Held K S j x × (to v K (suc j) g S ≡ to v K j x S)
      go j A =
          let same : (d : ℕ) → d < arity K → child K S g d ≡ x =
          λ d i. eqb-true _ _ (T_true _ (all_below_T (arity K) (λ d. eqb (child K S g d) x) (true_T (alike ∙ e)) d i)) in (
            subst (Held K S j) (sym first) (A.below 0 (arity_pos K)),
            all_one (arity K) (λ d. to v K j (child K S g d) S) (to v K j x S) (arity_pos K) (λ d i. ap (λ h. to v K j h S) (same d i)),
          )

pub walks_end : (K : Kind) (S : Store) (l g v : ℕ) → l ≡ 0 → to v K l g S ≡ eqb g v
unfolding agrees
walks_end K S l g v e = ap (λ l. to v K l g S) e

-- WALKS ALONG THE IDENTITY, whose first and last child are one, and the two between
module _ {k : ℕ} {S : Store} (l g : ℕ) (F : WellFormed k S) (pos : 0 < l) (A : Held rel S l g) where
  abbrev x : ℕ → ℕ
  x d = child rel S g d

  parts : (j : ℕ) → T (ident (suc j) g S) → T (ident j (x 0) S) × T (to 0 rel j (x 1) S) × T (to 0 rel j (x 2) S) × T (ident j (x 3) S)
  unfolding agrees
  parts j t =
      let each = all_below_T 4 (λ d. agrees (λ ds. ending is_identity (d ∷ ds)) rel j (x d) S) t in
      (each 0 (omega arith), each 1 (omega arith), each 2 (omega arith), each 3 (omega arith))

  pub identity_off : {x01 x10 : ℕ} → x01 ≡ x 1 → x10 ≡ x 2 → (x10 ≡ x01 → ⊥) → ident l g S ≡ false
  identity_off e1 e2 n = below (λ l j. Held rel S l g → ident l g S ≡ false) l pos go A
    where
      go : (j : ℕ) → Held rel S (suc j) g → ident (suc j) g S ≡ false
      go j A = T_false _ (λ t. n (e2
          ∙ (agrees_once rel j (x 1) (x 2) (λ ds. 0) F (A.below 1 (omega arith)) (A.below 2 (omega arith)) (parts j t).1).0 (parts j t).2 ∙ sym e1))

  pub identity_on : {x00 x11 : ℕ} → x00 ≡ x 0 → x11 ≡ x 3 → (x11 ≡ x00 → ⊥) → ident l g S ≡ false
  identity_on e0 e3 n = below (λ l j. Held rel S l g → ident l g S ≡ false) l pos go A
    where
      go : (j : ℕ) → Held rel S (suc j) g → ident (suc j) g S ≡ false
      go j A = T_false _ (λ t. n (e3
          ∙ (agrees_once rel j (x 0) (x 3) (ending is_identity) F (A.below 0 (omega arith)) (A.below 3 (omega arith)) (parts j t).0).0 (parts j t).3
          ∙ sym e0))

  pub identity_held : (d : ℕ) → d < 4 → {y : ℕ} → y ≡ x d → Held rel S (l - 1) y
  identity_held d i e = subst (Held rel S (l - 1)) (sym e) (below (λ l j. Held rel S l g → Held rel S j (x d)) l pos (λ j A. A.below d i) A)

  -- q says whether x01 is empty
  pub identity_some : {x01 : ℕ} {q : Bool} → x01 ≡ x 1 → q ≡ to 0 rel (l - 1) x01 S → q ≡ false → ident l g S ≡ false
  identity_some e1 w n = below (λ l j. to 0 rel j (x 1) S ≡ false → ident l g S ≡ false) l pos
      (λ j e. T_false _ (λ t. no_true e (T_true _ (parts j t).1))) (ap (λ h. to 0 rel (l - 1) h S) (sym e1) ∙ sym w ∙ n)

  pub identity_next : {x00 x01 x10 x11 : ℕ} {q : Bool} → x00 ≡ x 0 → x01 ≡ x 1 → x10 ≡ x 2 → x11 ≡ x 3 → x10 ≡ x01 → x11 ≡ x00
      → q ≡ to 0 rel (l - 1) x01 S → q ≡ true → ident l g S ≡ ident (l - 1) x00 S
  unfolding agrees
  identity_next e0 e1 e2 e3 m n w y =
      below (λ l j. to 0 rel j (x 1) S ≡ true → ident l g S ≡ ident j (x 0) S) l pos go (ap (λ h. to 0 rel (l - 1) h S) (sym e1) ∙ sym w ∙ y)
      ∙ ap (λ h. ident (l - 1) h S) (sym e0)
    where
      four : (b : Bool) → (b && (true && (true && (b && true)))) ≡ b
      four true = refl
      four false = refl

      go : (j : ℕ) → to 0 rel j (x 1) S ≡ true → ident (suc j) g S ≡ ident j (x 0) S
      go j e =
          let t2 : to 0 rel j (x 2) S ≡ true = ap (λ h. to 0 rel j h S) (sym e2 ∙ m ∙ e1) ∙ e in
          let t3 : ident j (x 3) S ≡ ident j (x 0) S = ap (λ h. ident j h S) (sym e3 ∙ n ∙ e0) in
          rw (e, t2, t3) (four (ident j (x 0) S))

-- THE NODE g, from its first child x: q says whether all children are x, i whether g is the identity
module _ {k : ℕ} {S : Store} (K : Kind) (c l g x : ℕ) (q i : Bool) (p : Properties) (a : c ≡ arity K) (F : WellFormed k S) (pos : 0 < l) (A : Held K S l g)
    (first : x ≡ child K S g 0) (all : q ≡ all_below c (λ d. eqb (child K S g d) x)) where
  pub first_held : Held K S (l - 1) x
  first_held = subst (Held K S (l - 1)) (sym first) (below (λ l j. Held K S l g → Held K S j (child K S g 0)) l pos (λ j A. A.below 0 (arity_pos K)) A)

  one_test : (v : ℕ) (b : Bool) → to v K (l - 1) x S ≡ b → to v K l g S ≡ (q && b)
  one_test v b e = go q refl
    where
      go : (r : Bool) → q ≡ r → to v K l g S ≡ (r && b)
      go true y = (walks_next K c l g v x q a F pos A first all y).1 ∙ e
      go false y = walks_apart K c l g v x q a F pos A first all y

  pub walked_has : Has K S (l - 1) x p → (K ≡ rel → agrees (ending is_identity) K l g S ≡ i) → Has K S l g (properties (q && p.empty) (q && p.universal) i l)
  walked_has H I = record { empty = one_test 0 p.empty H.empty; universal = one_test 1 p.universal H.universal; identity = I; level = refl }
