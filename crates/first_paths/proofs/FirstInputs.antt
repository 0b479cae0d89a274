-- `first_input`: what is left after the shortcuts, and of the node when its children are read; the first of two ways to an output.
use mathlib.Core.Path.{◌≡◌, refl, ap, subst}
use mathlib.Core.List.{List, [], ◌∷◌}
use mathlib.Core.Bool.{Bool, true, false}
use Prim.Native.Nat.{ℕ, zero, suc, ◌-◌, ◌^◌, min}
use native.Mathlib.Omega.{arith}
use borrow.Author.Tests.{eq-eqb, ne_eqb}
use Rattle.model.specs.FirstInputs.{from_halves, lesser, either_output, first_member, first_input_short, first_input_kids, first_input_node, first_input}
use Rattle.model.specs.FirstInputs.{if_path, children_rank}
use Rattle.model.specs.Images.{has_path}
use Rattle.model.specs.Programs.{is_empty, is_universal, has, Prog, panic, ret, ask, look, ran, run}
use Rattle.model.specs.Safety.{Safe}
use Rattle.model.specs.Store.{Kind, set, rel, Store}
use Rattle.std.specs.Prelude.{Some}
use Rattle.memory.specs.Performing.{RunState, going, ended, told, Condition, PerformsOn, OtherNodes, ReducesOn, ReadsChildren, KnowsProperties}
use Rattle.memory.specs.declared.Properties.{Properties}
use Rattle.memory.specs.Working.{Remembers}
use Rattle.memory.proofs.OtherNodes.{read_of_other, empty_of_other, universal_of_other}
use Rattle.memory.proofs.Steps.{begin, by, no, empty_says, turn, looked, performs_by, performs_same, performs_differ, performs_ret}
use Rattle.memory.proofs.Stopping.{made}
use Rattle.first_paths.proofs.Halves.{performs_number}

-- EITHER_OUTPUT: the second rank is asked for where the first is not 0, and the lesser is given
module _ {Q : Condition} {K : Kind} {x y : Prog} {s : RunState} {n r : ℕ} {m m₁ w w₁ : List ℕ}
    (d : PerformsOn Q K x s m m₁ w w₁ (ended n (Some r))) where
  pub first_at_once : r ≡ 0 → PerformsOn Q K (lesser x y) s m m₁ w w₁ (ended n (Some r))
  first_at_once e = made d (performs_same r 0 (eq-eqb _ _ e) performs_ret)

  pub both_asked : {t v : ℕ} {m₂ w₂ : List ℕ} → (r ≡ 0 → ⊥) → PerformsOn Q K y (going n) m₁ m₂ w₁ w₂ (ended n (Some t)) → v ≡ min r t
      → PerformsOn Q K (lesser x y) s m m₂ w w₂ (ended n (Some v))
  both_asked h e f = made d (performs_differ r 0 (ne_eqb _ _ h) (made e (performs_number f)))

-- FIRST_INPUT
pub input_is : (l p a q : ℕ) → first_input l p a q ≡ first_input_short l p a q (first_input_node l p a q)
unfolding first_input
input_is l p a q = refl

pub input_zero : (l p a q : ℕ) → l ≡ 0 → first_input_node l p a q ≡ panic
unfolding first_input_node
input_zero zero p a q e = refl
input_zero (suc l) p a q e = absurd (let z : ⊥ = omega arith in z)

pub input_open : (l p a q : ℕ) → (l ≡ 0 → ⊥) → first_input_node l p a q ≡ if_path l p a q (children_rank l p a q)
unfolding first_input_node children_rank first_input
input_open zero p a q h = absurd (h refl)
input_open (suc l) p a q h = refl

-- what is left where neither set is empty; where the relation is neither empty nor universal either
module _ {o m w : List ℕ} {j : ℕ} {r r' : Properties} (l p a q : ℕ) (P : KnowsProperties set m w l p r) (e : r.empty ≡ false)
    (P' : KnowsProperties set m w l q r') (e' : r'.empty ≡ false) where
  pub tests_left : ReducesOn (OtherNodes set o j) set (first_input l p a q)
      (ask (has is_empty rel l a) (ret (2 ^ l)) (ask (has is_universal rel l a) (first_member l p) (first_input_node l p a q))) m w
  tests_left = no (no (by begin (input_is l p a q)) (empty_says P e)) (empty_says P' e')

  pub node_left : {s : Properties} → KnowsProperties rel o w l a s → s.empty ≡ false → s.universal ≡ false
      → ReducesOn (OtherNodes set o j) set (first_input l p a q) (first_input_node l p a q) m w
  node_left A f g = no (no tests_left (empty_of_other A f)) (universal_of_other A g)

-- the memo knows the rank of what is left
pub rank_recalled : {Q : Condition} {K : Kind} {t q : Prog} {m w : List ℕ} {h : ℕ} → ReducesOn Q K t q m w
    → ((S : Store) → Remembers w S → run q S ≡ ran S h) → ReducesOn Q K t (ret h) m w
unfolding run Safe
rank_recalled u f = turn u (λ B c n i x R. record { runs = f _ R.memo; safe = tt })

-- what was told is so
was_told : {Q : Condition} {p : Prog} {s : RunState} (n : ℕ) {b c : Bool} {m m' w w' : List ℕ} → b ≡ c → PerformsOn Q set p s m m' w w' (told n b)
    → PerformsOn Q set p s m m' w w' (told n c)
was_told {Q} {p} {s} n {m = m} {m'} {w} {w'} e d = subst (λ b. PerformsOn Q set p s m m' w w' (told n b)) e d

-- no path: no rank is looked for; a path: the children's ranks
module _ {Q : Condition} {s : RunState} {n : ℕ} {b : Bool} {m m₁ w w₁ : List ℕ} (l p a q : ℕ) (h : l ≡ 0 → ⊥)
    (d : PerformsOn Q set (has_path l p a q) s m m₁ w w₁ (told n b)) where
  pub no_input : {v : ℕ} → b ≡ false → v ≡ 2 ^ l → PerformsOn Q set (first_input_node l p a q) s m m₁ w w₁ (ended n (Some v))
  no_input g e = performs_by (input_open l p a q h) (made (was_told n g d) (performs_differ 0 1 refl (performs_number e)))

  pub some_input : {r : RunState} {m₂ w₂ : List ℕ} → b ≡ true → PerformsOn Q set (children_rank l p a q) (going n) m₁ m₂ w₁ w₂ r
      → PerformsOn Q set (first_input_node l p a q) s m m₂ w w₂ r
  some_input g e = performs_by (input_open l p a q h) (made (was_told n g d) (performs_same 1 1 refl e))

-- RANK_CHILDREN
pub children_zero : (l p a q : ℕ) → l ≡ 0 → children_rank l p a q ≡ panic
unfolding children_rank
children_zero zero p a q e = refl
children_zero (suc l) p a q e = absurd (let z : ⊥ = omega arith in z)

children_open : (l p a q : ℕ) → (l ≡ 0 → ⊥)
    → children_rank l p a q ≡ look set p (λ x. look set q (λ y. look rel a (λ r. first_input_kids (l - 1) (first_input (l - 1)) x r y)))
unfolding children_rank
children_open zero p a q h = absurd (h refl)
children_open (suc l) p a q h = let e : l ≡ suc l - 1 = omega arith in
    ap (λ n. look set p (λ x. look set q (λ y. look rel a (λ r. first_input_kids n (first_input n) x r y)))) e

pub children_opened : (l p a q : ℕ) {o m w : List ℕ} {j p0 p1 q0 q1 a00 a01 a10 a11 : ℕ} → (l ≡ 0 → ⊥) → ReadsChildren set m p (p0 ∷ p1 ∷ [])
    → ReadsChildren set m q (q0 ∷ q1 ∷ []) → ReadsChildren rel o a (a00 ∷ a01 ∷ a10 ∷ a11 ∷ [])
    → ReducesOn (OtherNodes set o j) set (children_rank l p a q) (from_halves (l - 1) (either_output (first_input (l - 1)) p0 a00 a01 q0 q1)
    (either_output (first_input (l - 1)) p1 a10 a11 q0 q1)) m w
children_opened l p a q h X Z Y = read_of_other (looked (looked (by begin (children_open l p a q h)) X) Z) Y
