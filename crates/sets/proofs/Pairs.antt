-- An operation on two sets, step by step: its tests on equal and opposite operands, and its node, whose operands' children are read.
use mathlib.Core.Path.{◌≡◌, refl, sym, ap, ◌∙◌}
use mathlib.Core.List.{List, [], ◌∷◌}
use mathlib.Core.Bool.{Bool, true, false}
use Prim.Native.Nat.{ℕ, ◌-◌}
use borrow.Author.Tests.{eq-eqb, ne_eqb}
use Rattle.model.specs.Operations.{constant}
use Rattle.model.specs.Programs.{same, ask}
use Rattle.model.specs.Recursion.{node2, op2, each2}
use Rattle.model.specs.Store.{set, signed}
use Rattle.model.proofs.Recursion.{node2_open}
use Rattle.memory.specs.Performing.{ReadsChildren, Reduces}
use Rattle.memory.proofs.Steps.{begin, by, yes, no, looked, same_says}
use Rattle.sets.specs.Binary.{Tests, on_equal, on_opposite, binary}

binary_is : (cancels : Bool) (tests : Tests) (l a b : ℕ) → op2 (binary cancels tests) l a b
    ≡ ask (same a b) (on_equal cancels l a) (on_opposite cancels l a b (tests l a b (node2 (binary cancels tests) l)))
unfolding op2
binary_is cancels tests l a b = refl

module _ (cancels : Bool) (tests : Tests) (l a b : ℕ) {m w : List ℕ} where
  differ : (a ≡ b → ⊥) → Reduces set (op2 (binary cancels tests) l a b) (on_opposite cancels l a b (tests l a b (node2 (binary cancels tests) l))) m w
  differ h = no (by begin (binary_is cancels tests l a b)) (same_says (ne_eqb a b h))

  -- equal operands
  pub equal : {c : Bool} → a ≡ b → cancels ≡ c → Reduces set (op2 (binary cancels tests) l a b) (on_equal c l a) m w
  equal h e = by (yes (by begin (binary_is cancels tests l a b)) (same_says (eq-eqb a b h))) (ap (λ c. on_equal c l a) e)

  -- opposite ones, of which b's other handle is o
  pub opposite : (o : ℕ) → (a ≡ b → ⊥) → cancels ≡ false → o ≡ signed 1 b → a ≡ o → Reduces set (op2 (binary cancels tests) l a b) (constant set 1 l) m w
  opposite o h e f g = yes (by (differ h) (ap (λ c. on_opposite c l a b (tests l a b (node2 (binary cancels tests) l))) e))
      (same_says (eq-eqb a (signed 1 b) (g ∙ f)))

  -- others, and opposite ones too where equal ones cancel
  pub cancelled : (a ≡ b → ⊥) → cancels ≡ true → Reduces set (op2 (binary cancels tests) l a b) (tests l a b (node2 (binary cancels tests) l)) m w
  cancelled h e = by (differ h) (ap (λ c. on_opposite c l a b (tests l a b (node2 (binary cancels tests) l))) e)

  pub unopposed : (o : ℕ) → (a ≡ b → ⊥) → cancels ≡ false → o ≡ signed 1 b → (a ≡ o → ⊥)
      → Reduces set (op2 (binary cancels tests) l a b) (tests l a b (node2 (binary cancels tests) l)) m w
  unopposed o h e f g = no (by (differ h) (ap (λ c. on_opposite c l a b (tests l a b (node2 (binary cancels tests) l))) e))
      (same_says (ne_eqb a (signed 1 b) (λ q. g (q ∙ sym f))))

  -- the operands' children are read
  pub opened : {p0 p1 q0 q1 : ℕ} → (l ≡ 0 → ⊥) → ReadsChildren set m a (p0 ∷ p1 ∷ []) → ReadsChildren set m b (q0 ∷ q1 ∷ [])
      → Reduces set (node2 (binary cancels tests) l a b) (each2 set (op2 (binary cancels tests) (l - 1)) (p0 ∷ p1 ∷ []) (q0 ∷ q1 ∷ [])) m w
  opened h X Y = looked (looked (by begin (node2_open (binary cancels tests) l a b h)) X) Y
