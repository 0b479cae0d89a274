-- In a text that follows the grammar each byte that may begin a spelling begins one or is inside one, each spelling is that of a test or
-- an assignment, and each `!` has an atom after it; by induction on derivations.
use mathlib.Core.Path.{◌≡◌, sym, subst}
use Prim.Native.Nat.{ℕ, zero, suc, ◌<◌}
use native.Mathlib.Omega.{arith}
use mathlib.Core.List.{List, [], ◌∷◌, ◌++◌, append_assoc, append-nil}
use mathlib.Core.Bool.{Bool, true, false}
use lib.ListN.{length, drop}
use Rattle.model.specs.Policies.{Policy}
use Rattle.policy_text.specs.Lexicon.{Lexicon, Lawful, Letter}
use Rattle.policy_text.specs.Grammar.{Bit, b_zero, b_one}
use Rattle.policy_text.specs.Grammar.{Atom, a_zero, a_one, a_full, a_test, a_assign, a_neg, a_paren, s_atom, s_star}
use Rattle.policy_text.specs.Grammar.{p_one, p_seq, t_one, t_mix, Sum, u_one, u_plus}
use Rattle.policy_text.specs.Answers.{Names, names_test, names_assign, Negates, negated}
use Rattle.policy_text.proofs.MixSigns.{sign_other}
use Rattle.policy_text.proofs.Spellings.{whole_begins, prefix, no_letter}

module _ {X : Lexicon} (laws : Lawful X) where
  -- how what is left of a text begins
  pub data Begins : List ℕ → Type 0 where
    other : {b : ℕ} {s : List ℕ} → X.does_begin (b ∷ []) ≡ false → (b ≡ 33 → ⊥) → Begins (b ∷ s)
    inner : {b : ℕ} {s : List ℕ} (a : ℕ) (w : List ℕ) → X.does_begin (a ∷ (w ++ (b ∷ []))) ≡ true → Begins (b ∷ s)
    name : {n : ℕ} {s : List ℕ} → Names X n s → Begins s
    bang : {p : Policy} {s : List ℕ} → Negates X p s → Begins s

  -- at each byte of s, with r after s
  unfoldable Every : List ℕ → List ℕ → Type 0
  Every [] r = Unit {0}
  Every (b ∷ s) r = Begins (b ∷ (s ++ r)) × Every s r

  every_append : (s t r : List ℕ) → Every s (t ++ r) → Every t r → Every (s ++ t) r
  unfolding Every
  every_append [] t r x y = y
  every_append (b ∷ s) t r x y = (subst (λ (w : List ℕ). Begins (b ∷ w)) (sym (append_assoc s t r)) x.0, every_append s t r x.1 y)

  every_other : (b : ℕ) (s r : List ℕ) → (Letter b → ⊥) → (b ≡ 33 → ⊥) → Every s r → Every (b ∷ s) r
  unfolding Every
  every_other b s r h k x = (other (no_letter laws b h) k, x)

  every_none : (r : List ℕ) → Every [] r
  unfolding Every
  every_none r = tt

  -- the bytes of a spelling after its first
  every_inner : (a : ℕ) (s w x r : List ℕ) → X.does_begin (a ∷ (s ++ w)) ≡ true → Every x r → Every (w ++ x) r
  unfolding Every
  every_inner a s [] x r h e = e
  every_inner a s (b ∷ w) x r h e =
      let k : X.does_begin (a ∷ ((s ++ (b ∷ [])) ++ w)) ≡ true = rw append_assoc h in
      (inner a s (prefix laws (a ∷ (s ++ (b ∷ []))) w k), every_inner a (s ++ (b ∷ [])) w x r k e)

  every_spelt : (s x r : List ℕ) (n : ℕ) → X.Spells s n → Names X n (s ++ (x ++ r)) → Every x r → Every (s ++ x) r
  unfolding Every
  every_spelt [] x r n g m e = absurd (laws.some n g)
  every_spelt (b ∷ s) x r n g m e = (
    name (subst (λ (w : List ℕ). Names X n (b ∷ w)) (sym (append_assoc s x r)) m),
    every_inner b [] s x r (whole_begins laws (b ∷ s) n g) e,
  )

  -- `=` and b
  every_bit : {c : ℕ} {v : Bool} (r : List ℕ) → Bit c v → Every (61 ∷ c ∷ []) r
  every_bit r b_zero =
      every_other 61 (48 ∷ []) r (λ e. omega (arith, e.0)) (λ e. omega arith)
      (every_other 48 [] r (λ e. omega (arith, e.0)) (λ e. omega arith) (every_none r))
  every_bit r b_one =
      every_other 61 (49 ∷ []) r (λ e. omega (arith, e.0)) (λ e. omega arith)
      (every_other 49 [] r (λ e. omega (arith, e.0)) (λ e. omega arith) (every_none r))

  case_test : {n c : ℕ} {s : List ℕ} {v : Bool} → X.Spells s n → Bit c v → (r : List ℕ) → Every (s ++ (61 ∷ c ∷ [])) r
  case_test {n = n} {c = c} {s = s} g b r = every_spelt s (61 ∷ c ∷ []) r n g (names_test (c ∷ r) g) (every_bit r b)

  case_assign : {n c : ℕ} {s : List ℕ} {v : Bool} → X.Spells s n → Bit c v → (r : List ℕ) → Every (s ++ (58 ∷ 61 ∷ c ∷ [])) r
  case_assign {n = n} {c = c} {s = s} g b r = every_spelt s (58 ∷ 61 ∷ c ∷ []) r n g (names_assign (61 ∷ c ∷ r) g)
      (every_other 58 (61 ∷ c ∷ []) r (λ e. omega (arith, e.0)) (λ e. omega arith) (every_bit r b))

  case_neg : {d : ℕ} {s : List ℕ} {p : Policy} → Atom X d s p → ((r : List ℕ) → Every s r) → (r : List ℕ) → Every (33 ∷ s) r
  unfolding Every
  case_neg x h r = (bang (negated r x), h r)

  -- two parts, and a byte between them
  case_join : (b : ℕ) (s t r : List ℕ) → (Letter b → ⊥) → (b ≡ 33 → ⊥) → Every s (b ∷ (t ++ r)) → Every t r → Every (s ++ (b ∷ t)) r
  case_join b s t r h k x y = every_append s (b ∷ t) r x (every_other b t r h k y)

  every : {d : ℕ} {s : List ℕ} {p : Policy} → Sum X d s p → (r : List ℕ) → Every s r
  every a = elim a as (λ d s p x. (r : List ℕ) → Every s r) (λ d s p x. (r : List ℕ) → Every s r)
      (λ d s p x. (r : List ℕ) → Every s r) (λ d s p x. (r : List ℕ) → Every s r) (λ d s p x. (r : List ℕ) → Every s r) [
        | a_zero ↦ (λ r. every_other 48 [] r (λ e. omega (arith, e.0)) (λ e. omega arith) (every_none r))
        | a_one ↦ (λ r. every_other 49 [] r (λ e. omega (arith, e.0)) (λ e. omega arith) (every_none r))
        | a_full ↦ (λ r. every_other 84 [] r (λ e. omega (arith, e.0)) (λ e. omega arith) (every_none r))
        | a_test f b ↦ case_test f b
        | a_assign f b ↦ case_assign f b
        | a_neg l (x → h) ↦ case_neg x h
        | a_paren {s = s} l (x → h) ↦ (λ r. every_other 40 (s ++ (41 ∷ [])) r (λ e. omega (arith, e.0)) (λ e. omega arith)
            (case_join 41 s [] r (λ e. omega (arith, e.0)) (λ e. omega arith) (h (41 ∷ r)) (every_none r)))
        | s_atom (x → h) ↦ h
        | s_star {s = s} (x → h) ↦ (λ r. case_join 42 s [] r (λ e. omega (arith, e.0)) (λ e. omega arith) (h (42 ∷ r)) (every_none r))
        | p_one (x → h) ↦ h
        | p_seq {s = s} {t = t} (x → h) (y → k) ↦ (λ r. case_join 59 s t r (λ e. omega (arith, e.0)) (λ e. omega arith) (h (59 ∷ (t ++ r))) (k r))
        | t_one (x → h) ↦ h
        | t_mix {c = c} {s = s} {t = t} g (x → h) (y → k) ↦ (λ r. case_join c s t r (sign_other g).0 (sign_other g).1 (h (c ∷ (t ++ r))) (k r))
        | u_one (x → h) ↦ h
        | u_plus {s = s} {t = t} (x → h) (y → k) ↦ (λ r. case_join 43 s t r (λ e. omega (arith, e.0)) (λ e. omega arith) (h (43 ∷ (t ++ r))) (k r))
      ]

  every_at : (s r : List ℕ) (j : ℕ) → j < length s → Every s r → Begins (drop j s ++ r)
  unfolding Every
  every_at [] r j h x = absurd (omega arith)
  every_at (b ∷ s) r zero h x = x.0
  every_at (b ∷ s) r (suc j) h x = every_at s r j (omega arith) x.1

  pub begins : {d : ℕ} {t : List ℕ} {p : Policy} → Sum X d t p → (j : ℕ) → j < length t → Begins (drop j t)
  begins {t = t} a j h = subst Begins (append-nil (drop j t)) (every_at t [] j h (every a []))
