-- Operations by recursion on the level, once: where the shortcuts answer right and the children's results make the right node, the operation is right.
-- I indexes what the operands mean, Pre says that they do, Post what the result means
use mathlib.Core.Path.{◌≡◌, refl, ap}
use Prim.Native.Nat.{ℕ, zero, suc, ◌-◌, ◌<◌, ◌≤◌}
use native.Mathlib.Omega.{arith}
use Rattle.model.specs.Programs.{Prog, panic, look}
use Rattle.model.specs.Recursion.{Op1, node1, op1, Op2, node2, op2}
use Rattle.model.specs.Store.{Store, get}
use Rattle.model.specs.WellFormed.{Held, WellFormed}
use Rattle.model.proofs.Rules.{Does, held_within, look_does}

pub record Sound1 (k : ℕ) (O : Op1) (I : Type 1) (Pre : ℕ → I → Store → ℕ → Type 0) (Post : ℕ → I → Store → ℕ → Type 0) : Type 1 where
  pub held : (l : ℕ) (i : I) (S : Store) (a : ℕ) → Pre l i S a → Held O.kind S l a
  pub short : (l : ℕ) (i : I) (S : Store) (a : ℕ) (node : Prog) → WellFormed k S → l ≤ k → Pre l i S a
      → (0 < l → Does k S node (Post l i)) → Does k S (O.short l a node) (Post l i)
  pub kids : (l : ℕ) (i : I) (S : Store) (a : ℕ) (f : ℕ → Prog) → WellFormed k S → l < k → Pre (suc l) i S a
      → ((j : I) (S : Store) (a : ℕ) → WellFormed k S → Pre l j S a → Does k S (f a) (Post l j)) → Does k S (O.kids l f (get O.kind S a)) (Post (suc l) i)

module _ {k : ℕ} {O : Op1} {I : Type 1} {Pre : ℕ → I → Store → ℕ → Type 0} {Post : ℕ → I → Store → ℕ → Type 0} (sound : Sound1 k O I Pre Post) where
  node1_does : (l : ℕ) (i : I) (S : Store) (a : ℕ) → 0 < l → WellFormed k S → l ≤ k → Pre l i S a → Does k S (node1 O l a) (Post l i)
  unfolding node1
  node1_does zero i S a p F u A = absurd (omega arith)
  node1_does (suc l) i S a p F u A = look_does O.kind a (held_within l (sound.held (suc l) i S a A))
      (sound.kids l i S a _ F u A (λ j S a F A. sound.short l j S a (node1 O l a) F (omega arith) A (λ p. node1_does l j S a p F (omega arith) A)))

  pub op1_does : (l : ℕ) (i : I) (S : Store) (a : ℕ) → WellFormed k S → l ≤ k → Pre l i S a → Does k S (op1 O l a) (Post l i)
  unfolding op1
  op1_does l i S a F u A = sound.short l i S a (node1 O l a) F u A (λ p. node1_does l i S a p F u A)

pub record Sound2 (k : ℕ) (O : Op2) (I : Type 1) (Pre : ℕ → I → Store → ℕ → ℕ → Type 0) (Post : ℕ → I → Store → ℕ → Type 0) : Type 1 where
  pub held : (l : ℕ) (i : I) (S : Store) (a b : ℕ) → Pre l i S a b → Held O.first S l a × Held O.second S l b
  pub short : (l : ℕ) (i : I) (S : Store) (a b : ℕ) (node : ℕ → ℕ → Prog) → WellFormed k S → l ≤ k → Pre l i S a b
      → (0 < l → (j : I) (a b : ℕ) → Pre l j S a b → Does k S (node a b) (Post l j)) → Does k S (O.short l a b node) (Post l i)
  pub kids : (l : ℕ) (i : I) (S : Store) (a b : ℕ) (f : ℕ → ℕ → Prog) → WellFormed k S → l < k → Pre (suc l) i S a b
      → ((j : I) (S : Store) (a b : ℕ) → WellFormed k S → Pre l j S a b → Does k S (f a b) (Post l j))
      → Does k S (O.kids l f (get O.first S a) (get O.second S b)) (Post (suc l) i)

module _ {k : ℕ} {O : Op2} {I : Type 1} {Pre : ℕ → I → Store → ℕ → ℕ → Type 0} {Post : ℕ → I → Store → ℕ → Type 0} (sound : Sound2 k O I Pre Post) where
  node2_does : (l : ℕ) (i : I) (S : Store) (a b : ℕ) → 0 < l → WellFormed k S → l ≤ k → Pre l i S a b → Does k S (node2 O l a b) (Post l i)
  unfolding node2
  node2_does zero i S a b p F u A = absurd (omega arith)
  node2_does (suc l) i S a b p F u A =
      let h = sound.held (suc l) i S a b A in
      look_does O.first a (held_within l h.0) (look_does O.second b (held_within l h.1)
      (sound.kids l i S a b _ F u A (λ j S a b F A. sound.short l j S a b (node2 O l) F (omega arith) A
      (λ p j a b A. node2_does l j S a b p F (omega arith) A))))

  pub op2_does : (l : ℕ) (i : I) (S : Store) (a b : ℕ) → WellFormed k S → l ≤ k → Pre l i S a b → Does k S (op2 O l a b) (Post l i)
  unfolding op2
  op2_does l i S a b F u A = sound.short l i S a b (node2 O l) F u A (λ p j a b A. node2_does l j S a b p F u A)

-- OPENED one step: at level 0 nothing is left; above it the children's operation is the operation one level down
pub node1_zero : (O : Op1) (l a : ℕ) → l ≡ 0 → node1 O l a ≡ panic
unfolding node1
node1_zero O zero a e = refl
node1_zero O (suc l) a e = absurd (let z : ⊥ = omega arith in z)

pub node1_open : (O : Op1) (l a : ℕ) → (l ≡ 0 → ⊥) → node1 O l a ≡ look O.kind a (λ x. O.kids (l - 1) (op1 O (l - 1)) x)
unfolding node1 op1
node1_open O zero a h = absurd (h refl)
node1_open O (suc l) a h = let e : l ≡ suc l - 1 = omega arith in ap (λ n. look O.kind a (λ x. O.kids n (λ a. O.short n a (node1 O n a)) x)) e

pub node2_zero : (O : Op2) (l a b : ℕ) → l ≡ 0 → node2 O l a b ≡ panic
unfolding node2
node2_zero O zero a b e = refl
node2_zero O (suc l) a b e = absurd (let z : ⊥ = omega arith in z)

pub node2_open : (O : Op2) (l a b : ℕ) → (l ≡ 0 → ⊥)
    → node2 O l a b ≡ look O.first a (λ x. look O.second b (λ y. O.kids (l - 1) (op2 O (l - 1)) x y))
unfolding node2 op2
node2_open O zero a b h = absurd (h refl)
node2_open O (suc l) a b h = let e : l ≡ suc l - 1 = omega arith in
    ap (λ n. look O.first a (λ x. look O.second b (λ y. O.kids n (λ a b. O.short n a b (node2 O n)) x y))) e
