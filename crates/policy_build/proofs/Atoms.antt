-- Each kind of atom is built, from what its operand's build and its operations do; the first byte says which kind.
use mathlib.Core.Path.{◌≡◌, refl, ◌∙◌, subst}
use mathlib.Core.List.{List, [], ◌∷◌, ◌++◌, append_assoc}
use Prim.Native.Nat.{ℕ, ◌+◌, ◌≤◌}
use native.Mathlib.Omega.{arith}
use lib.ListN.{get_or, drop}
use Rattle.memory.proofs.Stopping.{made, failed}
use Rattle.model.specs.Store.{rel}
use Rattle.model.specs.Operations.{zero_at_depth, one_at_depth, top_at_depth, difference}
use Rattle.model.specs.Policies.{Policy, policy_program}
use Rattle.memory.specs.Performing.{RunState, going, ended, Performs}
use Rattle.policy_text.specs.XForms.{x_form, x_forms}
use Rattle.policy_text.specs.Grammar.{Atom, a_zero, a_one, a_full, a_test, a_assign, a_neg, a_paren, Sum}
use Rattle.policy_text.specs.declared.Rank.{Rank}
use Rattle.policy_build.specs.Items.{Past}
use Rattle.std.specs.Prelude.{Option, Some, None, IfSome}
use Rattle.model.specs.Programs.{◌>>=◌}
use Rattle.policy_build.specs.Building.{Named, BuildsPart, Builds, after_atom, ranked, after_rank}
use Rattle.policy_build.specs.declared.Built.{Built}
use Rattle.policy_build.proofs.Suffixes.{first_is, next}
use Rattle.policy_build.proofs.Placed.{placed, Shown, placed_builds, none_builds}

-- AN ATOM by its first byte, and what follows that
data By (t : List ℕ) (at : ℕ) (rest : List ℕ) : ℕ → Policy → Type 0 where
  by_zero : drop (at + 1) t ≡ rest → By t at rest 48 Policy.fail
  by_one : drop (at + 1) t ≡ rest → By t at rest 49 Policy.skip
  by_full : drop (at + 1) t ≡ rest → By t at rest 84 Policy.full
  by_name : (d : ℕ) (u : List ℕ) {p : Policy} → Named d u p → drop (at + 1) t ≡ u ++ rest → By t at rest 120 p
  by_neg : (d : ℕ) (u : List ℕ) {p : Policy} → Atom x_forms d u p → drop (at + 1) t ≡ u ++ rest → By t at rest 33 (Policy.negates p)
  by_paren : (d : ℕ) (u : List ℕ) {p : Policy} → Sum x_forms d u p → drop (at + 1) t ≡ u ++ (41 ∷ rest) → By t at rest 40 p

by_first : (t : List ℕ) (at : ℕ) (rest : List ℕ) (b : ℕ) {d : ℕ} {u : List ℕ} {p : Policy} → get_or t at 0 ≡ b → Atom x_forms d u p → drop at t ≡ u ++ rest
    → By t at rest b p
by_first t at rest b {p = p} f A h = subst (λ c. By t at rest c p) f (go A h)
  where
    go : {d : ℕ} {u : List ℕ} {p : Policy} → Atom x_forms d u p → drop at t ≡ u ++ rest → By t at rest (get_or t at 0) p
    go a_zero h = rw (first_is t at h) (by_zero (next t at h))
    go a_one h = rw (first_is t at h) (by_one (next t at h))
    go a_full h = rw (first_is t at h) (by_full (next t at h))
    go {d} (a_test {c = c} (x_form {f = f} x) y) h = rw (first_is t at h) (by_name d (f ++ (61 ∷ c ∷ [])) (a_test (x_form x) y) (next t at h))
    go {d} (a_assign {c = c} (x_form {f = f} x) y) h = rw (first_is t at h) (by_name d (f ++ (58 ∷ 61 ∷ c ∷ [])) (a_assign (x_form x) y) (next t at h))
    go (a_neg {e = e} {s = u} l A) h = rw (first_is t at h) (by_neg e u A (next t at h))
    go (a_paren {e = e} {s = u} l A) h = rw (first_is t at h) (by_paren e u A (next t at h ∙ append_assoc u (41 ∷ []) rest))

-- what is shown by the first byte b holds of every atom there
by_byte : (k : ℕ) {t : List ℕ} {at : ℕ} (end b : ℕ) {s z : RunState} {m m' w w' : List ℕ} → get_or t at 0 ≡ b
    → ((p : Policy) (rest : List ℕ) → By t at rest b p → (drop end t ≡ rest) × Performs rel (policy_program k p) s m m' w w' z)
    → Shown (Atom x_forms) after_atom k t at end s m m' w w' z
by_byte k {t} {at} end b f B d u p rest A h x = B p rest (by_first t at rest b f A h)

module _ (k : ℕ) {t : List ℕ} {at : ℕ} {s : RunState} {m m₁ w w₁ : List ℕ} where
  -- `!p`: p, then one, then the difference
  module _ {c : ℕ} {p : Built} (B : Builds (Atom x_forms) after_atom k t (at + 1) s m m₁ w w₁ c (Some p)) where
    negation_part : {m₃ w₃ : List ℕ} {z : RunState} → Performs rel (one_at_depth rel k >>= λ one. difference rel k one p.handle) (going c) m₁ m₃ w₁ w₃ z
        → (x : Policy) (rest : List ℕ) → By t at rest 33 x → (drop p.end t ≡ rest) × Performs rel (policy_program k x) s m m₃ w w₃ z
    unfolding policy_program
    negation_part P x rest (by_neg d u A h) = let i = B.part d u _ rest A h tt in (i.text_left, made i.performs P)

    pub negation_builds : {m₃ w₃ : List ℕ} {c₃ : ℕ} (r : Option ℕ) → get_or t at 0 ≡ 33
        → Performs rel (one_at_depth rel k >>= λ one. difference rel k one p.handle) (going c) m₁ m₃ w₁ w₃ (ended c₃ r)
        → Builds (Atom x_forms) after_atom k t at s m m₃ w w₃ c₃ (placed r p.end)
    negation_builds r f P = placed_builds r (omega (arith, B.from)) B.within (by_byte k _ _ f (negation_part P))

  pub negation_none : {c : ℕ} → get_or t at 0 ≡ 33 → Builds (Atom x_forms) after_atom k t (at + 1) s m m₁ w w₁ c None
      → Builds (Atom x_forms) after_atom k t at s m m₁ w w₁ c None
  unfolding policy_program
  negation_none {c} f B = none_builds c (λ d u x rest A h n. part x rest (by_first t at rest 33 f A h))
    where
      part : (x : Policy) (rest : List ℕ) → By t at rest 33 x → Performs rel (policy_program k x) s m m₁ w w₁ (ended c None)
      part x rest (by_neg d u A h) = failed (B.part d u _ rest A h tt).performs refl

  -- `(` sum `)`
  pub paren_builds : {c end : ℕ} {p : Built} → get_or t at 0 ≡ 40 → Builds (ranked x_forms Rank.Sum) (after_rank Rank.Sum) k t (at + 1) s m m₁ w w₁ c (Some p)
      → Past t p.end end → Builds (Atom x_forms) after_atom k t at s m m₁ w w₁ c (Some (record { handle = p.handle; end = end }))
  paren_builds {c} {end} {p} f B E =
      placed_builds (Some p.handle) (omega (arith, B.from, E.from)) E.within (by_byte k _ _ f part)
    where
      part : (x : Policy) (rest : List ℕ) → By t at rest 40 x → (drop end t ≡ rest) × Performs rel (policy_program k x) s m m₁ w w₁ (ended c (Some p.handle))
      part x rest (by_paren d u A h) = let i = B.part d u _ (41 ∷ rest) A h refl in (E.rest ∙ next t p.end i.text_left, i.performs)

  pub paren_none : {c : ℕ} → get_or t at 0 ≡ 40 → Builds (ranked x_forms Rank.Sum) (after_rank Rank.Sum) k t (at + 1) s m m₁ w w₁ c None
      → Builds (Atom x_forms) after_atom k t at s m m₁ w w₁ c None
  paren_none {c} f B = none_builds c (λ d u x rest A h n. part x rest (by_first t at rest 40 f A h))
    where
      part : (x : Policy) (rest : List ℕ) → By t at rest 40 x → Performs rel (policy_program k x) s m m₁ w w₁ (ended c None)
      part x rest (by_paren d u A h) = (B.part d u _ (41 ∷ rest) A h refl).performs

  -- `0`, `1` and `T`
  zero_part : {z : RunState} (end : ℕ) → Past t at end → Performs rel (zero_at_depth rel k) s m m₁ w w₁ z
      → (x : Policy) (rest : List ℕ) → By t at rest 48 x → (drop end t ≡ rest) × Performs rel (policy_program k x) s m m₁ w w₁ z
  unfolding policy_program
  zero_part end E P x rest (by_zero h) = (E.rest ∙ h, P)

  one_part : {z : RunState} (end : ℕ) → Past t at end → Performs rel (one_at_depth rel k) s m m₁ w w₁ z
      → (x : Policy) (rest : List ℕ) → By t at rest 49 x → (drop end t ≡ rest) × Performs rel (policy_program k x) s m m₁ w w₁ z
  unfolding policy_program
  one_part end E P x rest (by_one h) = (E.rest ∙ h, P)

  full_part : {z : RunState} (end : ℕ) → Past t at end → Performs rel (top_at_depth k) s m m₁ w w₁ z
      → (x : Policy) (rest : List ℕ) → By t at rest 84 x → (drop end t ≡ rest) × Performs rel (policy_program k x) s m m₁ w w₁ z
  unfolding policy_program
  full_part end E P x rest (by_full h) = (E.rest ∙ h, P)

  module _ {c end : ℕ} (r : Option ℕ) (E : Past t at end) where
    pub zero_builds : get_or t at 0 ≡ 48 → Performs rel (zero_at_depth rel k) s m m₁ w w₁ (ended c r)
        → Builds (Atom x_forms) after_atom k t at s m m₁ w w₁ c (placed r end)
    zero_builds f P = placed_builds r E.from E.within (by_byte k _ _ f (zero_part end E P))

    pub one_builds : get_or t at 0 ≡ 49 → Performs rel (one_at_depth rel k) s m m₁ w w₁ (ended c r)
        → Builds (Atom x_forms) after_atom k t at s m m₁ w w₁ c (placed r end)
    one_builds f P = placed_builds r E.from E.within (by_byte k _ _ f (one_part end E P))

    pub full_builds : get_or t at 0 ≡ 84 → Performs rel (top_at_depth k) s m m₁ w w₁ (ended c r)
        → Builds (Atom x_forms) after_atom k t at s m m₁ w w₁ c (placed r end)
    full_builds f P = placed_builds r E.from E.within (by_byte k _ _ f (full_part end E P))

-- none of the other bytes: a test or an assignment
name_part : {k : ℕ} {t : List ℕ} {at b end c : ℕ} {s : RunState} {m m₁ w w₁ : List ℕ} {r : Option Built} → ¬ (b ≡ 33) → ¬ (b ≡ 40) → ¬ (b ≡ 48)
    → ¬ (b ≡ 49) → ¬ (b ≡ 84) → Past t at end → Builds Named after_atom k t end s m m₁ w w₁ c r → (x : Policy) (rest : List ℕ) → By t at rest b x
    → BuildsPart k t x rest s m m₁ w w₁ c r
name_part n₁ n₂ n₃ n₄ n₅ E B x rest (by_zero h) = absurd (n₃ refl)
name_part n₁ n₂ n₃ n₄ n₅ E B x rest (by_one h) = absurd (n₄ refl)
name_part n₁ n₂ n₃ n₄ n₅ E B x rest (by_full h) = absurd (n₅ refl)
name_part n₁ n₂ n₃ n₄ n₅ E B x rest (by_neg d u A h) = absurd (n₁ refl)
name_part n₁ n₂ n₃ n₄ n₅ E B x rest (by_paren d u A h) = absurd (n₂ refl)
name_part n₁ n₂ n₃ n₄ n₅ E B x rest (by_name d u A h) = B.part d u x rest A (E.rest ∙ h) tt

-- what ends after a later offset ends after this one
later : {at end : ℕ} (r : Option Built) → at ≤ end → IfSome r (λ b. end ≤ b.end) → IfSome r (λ b. at ≤ b.end)
later (Some b) l i = omega arith
later None l i = tt

pub name_builds : {k : ℕ} {t : List ℕ} {at b end c : ℕ} {s : RunState} {m m₁ w w₁ : List ℕ} {r : Option Built} → get_or t at 0 ≡ b → ¬ (b ≡ 33)
    → ¬ (b ≡ 40) → ¬ (b ≡ 48) → ¬ (b ≡ 49) → ¬ (b ≡ 84) → Past t at end → Builds Named after_atom k t end s m m₁ w w₁ c r
    → Builds (Atom x_forms) after_atom k t at s m m₁ w w₁ c r
name_builds {t = t} {at} {b} {r = r} f n₁ n₂ n₃ n₄ n₅ E B = record {
  from = later r E.from B.from;
  within = B.within;
  part = λ d u p rest A h x. name_part n₁ n₂ n₃ n₄ n₅ E B p rest (by_first t at rest b f A h);
}
