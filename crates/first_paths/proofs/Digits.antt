-- `output_bit` and `first_digit`: the bit of the smaller of two ranks, and what is left of the digit when the children are read.
use mathlib.Core.Path.{◌≡◌, refl, ap, ◌∙◌, subst}
use mathlib.Core.List.{List, [], ◌∷◌}
use Prim.Native.Nat.{ℕ, zero, suc, ◌+◌, ◌-◌, ◌^◌, ◌<◌, ◌≤◌, min}
use native.Mathlib.Omega.{arith}
use borrow.Author.Tests.{lt-ltb, le-ltb}
use Rattle.model.specs.FirstInputs.{first_input, output_bit, first_digit_kids, first_digit}
use Rattle.model.specs.Programs.{less, Prog, panic, ret, ask, look, ◌>>=◌}
use Rattle.model.specs.Store.{Kind, set, rel}
use Rattle.std.specs.Prelude.{Bool, true, false, Option, Some, None, unwrap_or}
use Rattle.memory.specs.Performing.{RunState, going, ended, Condition, PerformsOn, OtherNodes, ReducesOn, ReadsChildren}
use Rattle.memory.proofs.OtherNodes.{read_of_other}
use Rattle.memory.proofs.Steps.{begin, by, looked, performs_less, performs_not_less, performs_ret}
use Rattle.memory.proofs.Stopping.{made}
use Rattle.first_paths.specs.Digits.{bit, bit_or_none, digit}
use Rattle.first_paths.proofs.Halves.{performs_number}

-- OUTPUT_BIT: x and y give ranks of level l
abbrev which_bit : ℕ → Prog → Prog → Prog
which_bit l x y = x >>= λ m. y >>= λ n. ask (less n m) (ret 1) (ask (less m (2 ^ l)) (ret 0) (ret 2))

pub bit_is : (l p a b q0 q1 : ℕ) → output_bit l p a b q0 q1 ≡ which_bit l (first_input l p a q0) (first_input l p b q1)
unfolding output_bit
bit_is l p a b q0 q1 = refl

module _ {Q : Condition} {K : Kind} (l : ℕ) {x y : Prog} {s : RunState} {n r t : ℕ} {m m₁ m₂ w w₁ w₂ : List ℕ}
    (d : PerformsOn Q K x s m m₁ w w₁ (ended n (Some r))) (e : PerformsOn Q K y (going n) m₁ m₂ w₁ w₂ (ended n (Some t))) where
  pub one_first : t < r → PerformsOn Q K (which_bit l x y) s m m₂ w w₂ (ended n (Some 1))
  one_first i = made d (made e (performs_less t r (lt-ltb _ _ i) performs_ret))

  module _ {none : ℕ} (i : r ≤ t) (k : none ≡ 2 ^ l) where
    pub zero_first : r < none → PerformsOn Q K (which_bit l x y) s m m₂ w w₂ (ended n (Some 0))
    zero_first g = made d (made e (performs_not_less t r (le-ltb _ _ i)
        (performs_less r (2 ^ l) (lt-ltb _ _ (subst (λ n. r < n) k g)) performs_ret)))

    pub none_first : none ≤ r → PerformsOn Q K (which_bit l x y) s m m₂ w w₂ (ended n (Some 2))
    none_first g = made d (made e (performs_not_less t r (le-ltb _ _ i)
        (performs_not_less r (2 ^ l) (le-ltb _ _ (subst (λ n. n ≤ r) k g)) performs_ret)))

-- FIRST_DIGIT: x gives the output's bit where the input's is 0, or 2, and y where it is 1
abbrev digit_of : Prog → Prog → Prog
digit_of x y = x >>= λ d. ask (less d 2) (ret d) (y >>= λ e. ret (2 + min e 1))

-- a bit is below 2, and one that there may not be is asked for as 1
bit_below : (b : Bool) → bit b < 2
bit_below false = omega arith
bit_below true = omega arith

bit_there : (r : Option Bool) → 2 + bit (unwrap_or r true) ≡ 2 + min (bit_or_none r) 1
bit_there None = refl
bit_there (Some false) = refl
bit_there (Some true) = refl

no_bit : (r : Option Bool) → ((b : Bool) → r ≡ Some b → ⊥) → r ≡ None
no_bit None f = refl
no_bit (Some b) f = absurd (f b refl)

module _ {Q : Condition} {K : Kind} {x y : Prog} {s : RunState} {n : ℕ} {m m₁ w w₁ : List ℕ} where
  pub input_bit_zero : (b : Bool) → PerformsOn Q K x s m m₁ w w₁ (ended n (Some (bit b)))
      → PerformsOn Q K (digit_of x y) s m m₁ w w₁ (ended n (Some (digit false b)))
  input_bit_zero b d = made d (performs_less (bit b) 2 (lt-ltb _ _ (bit_below b)) (performs_number (omega arith)))

  pub input_bit_one : (r t : Option Bool) {b : Bool} {m₂ w₂ : List ℕ} → PerformsOn Q K x s m m₁ w w₁ (ended n (Some (bit_or_none r)))
      → ((b : Bool) → r ≡ Some b → ⊥) → PerformsOn Q K y (going n) m₁ m₂ w₁ w₂ (ended n (Some (bit_or_none t))) → b ≡ unwrap_or t true
      → PerformsOn Q K (digit_of x y) s m m₂ w w₂ (ended n (Some (digit true b)))
  input_bit_one r t d e f g = made (subst (λ r. PerformsOn Q K x s m m₁ w w₁ (ended n (Some (bit_or_none r)))) (no_bit r e) d)
      (performs_not_less 2 2 refl (made f (performs_number (ap (λ b. 2 + bit b) g ∙ bit_there t))))

pub digit_zero : (l p a q : ℕ) → l ≡ 0 → first_digit l p a q ≡ panic
unfolding first_digit
digit_zero zero p a q e = refl
digit_zero (suc l) p a q e = absurd (let z : ⊥ = omega arith in z)

digit_open : (l p a q : ℕ) → (l ≡ 0 → ⊥) → first_digit l p a q ≡ look set p (λ x. look set q (λ y. look rel a (λ r. first_digit_kids (l - 1) x r y)))
unfolding first_digit
digit_open zero p a q h = absurd (h refl)
digit_open (suc l) p a q h = let e : l ≡ suc l - 1 = omega arith in
    ap (λ n. look set p (λ x. look set q (λ y. look rel a (λ r. first_digit_kids n x r y)))) e

pub digit_opened : (l p a q : ℕ) {o m w : List ℕ} {j p0 p1 q0 q1 a00 a01 a10 a11 : ℕ} → (l ≡ 0 → ⊥) → ReadsChildren set m p (p0 ∷ p1 ∷ [])
    → ReadsChildren set m q (q0 ∷ q1 ∷ []) → ReadsChildren rel o a (a00 ∷ a01 ∷ a10 ∷ a11 ∷ [])
    → ReducesOn (OtherNodes set o j) set (first_digit l p a q) (digit_of (output_bit (l - 1) p0 a00 a01 q0 q1) (output_bit (l - 1) p1 a10 a11 q0 q1)) m w
digit_opened l p a q h X Z Y = read_of_other (looked (looked (by begin (digit_open l p a q h)) X) Z) Y
