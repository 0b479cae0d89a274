-- Products: what is left of their nodes.
use mathlib.Core.Path.{◌≡◌, sym, ◌∙◌, subst}
use mathlib.Core.List.{List, [], ◌∷◌}
use mathlib.Core.Bool.{true}
use Prim.Native.Nat.{ℕ, ◌-◌}
use native.Mathlib.Omega.{arith}
use Rattle.model.specs.Programs.{Prog, run, ◌>>=◌}
use Rattle.model.specs.Recursion.{node2, x00, x01}
use Rattle.model.specs.Relations.{sequence_op, sequence}
use Rattle.model.specs.Safety.{Safe, ReducesTo}
use Rattle.model.specs.Store.{rel, Store, get}
use Rattle.model.proofs.Diagonal.{node, times_diagonal, diagonal_reduces, product_lifts, Void, child_void}
use Rattle.model.proofs.Recursion.{node2_open}
use Rattle.model.proofs.Reducing.{Formed}
use Rattle.memory.specs.Performing.{Any, ReadsChildren, KnowsProperties, Reduces}
use Rattle.memory.specs.Rows.{plain}
use Rattle.memory.proofs.Steps.{begin, turn, by, empty_says}
use Rattle.memory.specs.declared.Properties.{Properties}
use Rattle.relations.specs.Shapes.{Lifted}

-- the product of two nodes, the second with an empty relation off the diagonal: what is left of it where the shorter program serves
module _ {m w : List ℕ} (l x y : ℕ) {p q : List ℕ} {r : Properties} (h : l ≡ 0 → ⊥) (X : ReadsChildren rel m x p) (Y : ReadsChildren rel m y q)
    (N : KnowsProperties rel m w (l - 1) (x01 q) r) (e : r.empty ≡ true) where
  abbrev whole : Prog
  whole = sequence_op.kids (l - 1) (sequence (l - 1)) p q

  shorter : {n : Prog} → ((S : Store) → Void (l - 1) S (x01 q) → Safe whole S → ReducesTo whole n S) → Reduces rel (node2 sequence_op l x y) n m w
  unfolding run Safe sequence
  shorter f = turn (by begin (node2_open sequence_op l x y h)) (λ B c n i s R.
      let S = plain rel B m n in
      let a = X.kids B n i s.0 in
      let b = Y.kids B n i s.1.0 in
      let known = (empty_says {Q = Any} N e).decides B c n i R in
      let F : Formed S = record { fields = R.fields; rules = R.formed } in
      let s' : Safe whole S = subst (λ z. Safe (sequence_op.kids (l - 1) (sequence (l - 1)) p z) S) b
      (subst (λ z. Safe (sequence_op.kids (l - 1) (sequence (l - 1)) z (get rel S y)) S) a s.1.1) in
      let k = f S (child_void 1 (omega arith) F s.1.0 b known) s' in
      record { runs = (λ j. run (sequence_op.kids (l - 1) (sequence (l - 1)) (a j) (b j)) S) ∙ k.runs; safe = k.safe })

-- four products are left; one, where the nodes are lifted
module _ {m w : List ℕ} (l x y : ℕ) {r : Properties} (h : l ≡ 0 → ⊥) where
  pub diagonal_left : {p : List ℕ} {b z z' c : ℕ} → ReadsChildren rel m x p → ReadsChildren rel m y (b ∷ z ∷ z' ∷ c ∷ []) → z ≡ z'
      → KnowsProperties rel m w (l - 1) z r → r.empty ≡ true → Reduces rel (node2 sequence_op l x y) (times_diagonal (l - 1) p b c) m w
  diagonal_left {p} {b} {z} {z'} {c} X Y o N e = shorter l x y h X (subst (λ n. ReadsChildren rel m y (b ∷ z ∷ n ∷ c ∷ [])) (sym o) Y) N e
      (λ S. diagonal_reduces (l - 1) p b c z)

  pub lift_left : {p q : List ℕ} → ReadsChildren rel m x p → ReadsChildren rel m y q → Lifted p q → KnowsProperties rel m w (l - 1) (x01 q) r
      → r.empty ≡ true → Reduces rel (node2 sequence_op l x y) (sequence (l - 1) (x00 p) (x00 q) >>= λ t. node t (x01 q) (x01 q) t) m w
  lift_left {p} {q} X Y L N e = shorter l x y h (subst (ReadsChildren rel m x) L.first X) (subst (ReadsChildren rel m y) L.second Y) N e
      (λ S. product_lifts (l - 1) (x00 p) (x00 q) (x01 q))
