-- A test or an assignment is built after its `x`, from what is read of its field and its value.
use mathlib.Core.Path.{◌≡◌, refl, sym, ap, ◌∙◌, subst₂}
use mathlib.Core.List.{List, [], ◌∷◌, ◌++◌, append_assoc}
use mathlib.Core.Bool.{Bool}
use Prim.Native.Nat.{ℕ}
use native.Mathlib.Omega.{arith}
use lib.Dec.{eqb}
use lib.ListN.{get_or, drop}
use Rattle.model.specs.Store.{rel}
use Rattle.model.specs.Operations.{test, assign}
use Rattle.model.specs.Policies.{Policy, tests, assigns, policy_program}
use Rattle.memory.specs.Performing.{RunState, ended, Performs}
use Rattle.policy_text.specs.XForms.{Field, x_form, x_forms}
use Rattle.policy_text.specs.Grammar.{Bit, b_zero, b_one, Atom, a_zero, a_one, a_full, a_test, a_assign, a_neg, a_paren}
use Rattle.policy_build.specs.Items.{Past, ReadsNumber}
use Rattle.std.specs.Prelude.{Option}
use Rattle.policy_build.specs.Building.{Named, Builds, after_atom}
use Rattle.policy_build.specs.declared.items.Number.{Number}
use Rattle.policy_build.proofs.Suffixes.{first_is, next}
use Rattle.policy_build.proofs.Placed.{placed, placed_builds}

-- what follows the `x`
data After (t : List ℕ) (at : ℕ) (rest : List ℕ) : Policy → Type 0 where
  a_tests : {f : List ℕ} {n c : ℕ} {v : Bool} → Field f n → Bit c v → drop at t ≡ f ++ (61 ∷ c ∷ rest) → After t at rest (tests n v)
  a_assigns : {f : List ℕ} {n c : ℕ} {v : Bool} → Field f n → Bit c v → drop at t ≡ f ++ (58 ∷ 61 ∷ c ∷ rest) → After t at rest (assigns n v)

after_name : (t : List ℕ) (at : ℕ) (rest : List ℕ) {d : ℕ} {v u : List ℕ} {p : Policy} → Atom x_forms d v p → v ≡ 120 ∷ u → drop at t ≡ u ++ rest
    → After t at rest p
after_name t at rest a_zero e h = absurd (omega (arith, ap (λ x. get_or x 0 0) e))
after_name t at rest a_one e h = absurd (omega (arith, ap (λ x. get_or x 0 0) e))
after_name t at rest a_full e h = absurd (omega (arith, ap (λ x. get_or x 0 0) e))
after_name t at rest (a_neg l A) e h = absurd (omega (arith, ap (λ x. get_or x 0 0) e))
after_name t at rest (a_paren l A) e h = absurd (omega (arith, ap (λ x. get_or x 0 0) e))
after_name t at rest (a_test {c = c} (x_form {f = f} F) B) e h =
    a_tests F B (h ∙ ap (λ x. drop 1 x ++ rest) (sym e) ∙ append_assoc f (61 ∷ c ∷ []) rest)
after_name t at rest (a_assign {c = c} (x_form {f = f} F) B) e h =
    a_assigns F B (h ∙ ap (λ x. drop 1 x ++ rest) (sym e) ∙ append_assoc f (58 ∷ 61 ∷ c ∷ []) rest)

bit_is : {c : ℕ} {v : Bool} → Bit c v → eqb c 49 ≡ v
bit_is b_zero = refl
bit_is b_one = refl

module _ {t : List ℕ} {at : ℕ} {s : RunState} {m m' w w' : List ℕ} {f : Number} {value : Bool} (F : ReadsNumber t at f) where
  -- the field, `=` and the value
  test_part : (k : ℕ) {next₁ end : ℕ} {z : RunState} → Past t f.end next₁ → get_or t f.end 0 ≡ 61 → value ≡ eqb (get_or t next₁ 0) 49 → Past t next₁ end
      → Performs rel (test rel k f.value value) s m m' w w' z → (p : Policy) (rest : List ℕ) → After t at rest p
      → (drop end t ≡ rest) × Performs rel (policy_program k p) s m m' w w' z
  unfolding policy_program
  test_part k {next₁} P₁ q Y P₂ X p rest (a_assigns {c = c} N B h) =
      let i = F.reads (58 ∷ 61 ∷ c ∷ rest) N h (omega arith) in absurd (omega (arith, q, first_is t f.end i.1))
  test_part k {next₁} {z = z} P₁ q Y P₂ X p rest (a_tests {n = n} {c = c} {v = v} N B h) =
      let i = F.reads (61 ∷ c ∷ rest) N h (omega arith) in
      let j : drop next₁ t ≡ c ∷ rest = P₁.rest ∙ next t f.end i.1 in
      let e : value ≡ v = Y ∙ ap (λ b. eqb b 49) (first_is t next₁ j) ∙ bit_is B in
      (P₂.rest ∙ next t next₁ j, subst₂ (λ n v. Performs rel (test rel k n v) s m m' w w' z) i.0 e X)

  -- the field, `:=` and the value
  assign_part : (k : ℕ) {next₁ next₂ end : ℕ} {z : RunState} → Past t f.end next₁ → ¬ (get_or t f.end 0 ≡ 61) → Past t next₁ next₂
      → value ≡ eqb (get_or t next₂ 0) 49 → Past t next₂ end → Performs rel (assign k f.value value) s m m' w w' z → (p : Policy) (rest : List ℕ)
      → After t at rest p → (drop end t ≡ rest) × Performs rel (policy_program k p) s m m' w w' z
  unfolding policy_program
  assign_part k P₁ q P₂ Y P₃ X p rest (a_tests {c = c} N B h) =
      let i = F.reads (61 ∷ c ∷ rest) N h (omega arith) in absurd (q (first_is t f.end i.1))
  assign_part k {next₁} {next₂} {z = z} P₁ q P₂ Y P₃ X p rest (a_assigns {n = n} {c = c} {v = v} N B h) =
      let i = F.reads (58 ∷ 61 ∷ c ∷ rest) N h (omega arith) in
      let j : drop next₂ t ≡ c ∷ rest = P₂.rest ∙ next t next₁ (P₁.rest ∙ next t f.end i.1) in
      let e : value ≡ v = Y ∙ ap (λ b. eqb b 49) (first_is t next₂ j) ∙ bit_is B in
      (P₃.rest ∙ next t next₂ j, subst₂ (λ n v. Performs rel (assign k n v) s m m' w w' z) i.0 e X)

  -- r is what the operation gave
  module _ {k c : ℕ} (r : Option ℕ) where
    pub test_builds : {next₁ end : ℕ} → Past t f.end next₁ → get_or t f.end 0 ≡ 61 → value ≡ eqb (get_or t next₁ 0) 49 → Past t next₁ end
        → Performs rel (test rel k f.value value) s m m' w w' (ended c r) → Builds Named after_atom k t at s m m' w w' c (placed r end)
    test_builds P₁ q Y P₂ X = placed_builds r (omega (arith, F.from, P₁.from, P₂.from)) P₂.within
        (λ d u p rest A h x. test_part k P₁ q Y P₂ X p rest (after_name t at rest A refl h))

    pub assign_builds : {next₁ next₂ end : ℕ} → Past t f.end next₁ → ¬ (get_or t f.end 0 ≡ 61) → Past t next₁ next₂
        → value ≡ eqb (get_or t next₂ 0) 49 → Past t next₂ end → Performs rel (assign k f.value value) s m m' w w' (ended c r)
        → Builds Named after_atom k t at s m m' w w' c (placed r end)
    assign_builds P₁ q P₂ Y P₃ X = placed_builds r (omega (arith, F.from, P₁.from, P₂.from, P₃.from)) P₃.within
        (λ d u p rest A h x. assign_part k P₁ q P₂ Y P₃ X p rest (after_name t at rest A refl h))
