-- The operand of a `!` has no `:`, `*` or `T` exactly when its policy is a predicate; by induction on derivations.
use mathlib.Core.Path.{◌≡◌, refl, sym, ap, ◌∙◌}
use Prim.Native.Nat.{ℕ, suc, ◌≤◌, ◌<◌}
use native.Mathlib.Numerals.{add-one}
use native.Mathlib.Omega.{arith}
use mathlib.Core.List.{List, [], ◌∷◌, ◌++◌, append_assoc}
use mathlib.Core.Bool.{Bool, true, false, cond, ◌&&◌, and-true, and-false, and_assoc}
use mathlib.Core.Logic.{◌⊎◌, inl, inr}
use lib.Dec.{eqb}
use borrow.Author.Tests.{ne_eqb}
use Rattle.model.specs.Policies.{Mix, Policy, is_predicate}
use Rattle.policy_text.specs.Lexicon.{Lexicon, Lawful, Letter}
use Rattle.policy_text.specs.Grammar.{Bit, b_zero, b_one, MixSign, m_both, m_minus, m_either}
use Rattle.policy_text.specs.Grammar.{Atom, a_zero, a_one, a_full, a_test, a_assign, a_neg, a_paren, s_atom, s_star}
use Rattle.policy_text.specs.Grammar.{p_one, p_seq, t_one, t_mix, u_one, u_plus}
use Rattle.policy_text.specs.Reading.{is_test, open_after, is_clean_inside, is_clean}
use Rattle.policy_text.proofs.Spellings.{word_above, word_not, word_no_full, whole_begins, prefix}
use Rattle.policy_text.proofs.Passes.{inside_closed}

-- one byte inside a parenthesis
inside_byte : (b : ℕ) (s : List ℕ) (n : ℕ)
    → is_clean_inside (b ∷ s) (suc n) ≡ cond (eqb b 58) false (cond (eqb b 42) false (cond (eqb b 84) false (is_clean_inside s (open_after b (suc n)))))
unfolding is_clean_inside
inside_byte b s n = simp (ne_eqb (suc n) 0 (λ e. omega arith))

-- a byte that is no `:`, `*`, `T`, `(` or `)`
abbrev Plain : ℕ → Type 0
Plain b = (b < 40 ⊎ 42 < b) × (b ≡ 58 → ⊥) × (b ≡ 84 → ⊥)

apart : {b c : ℕ} → 40 ≤ c → c ≤ 42 → b < 40 ⊎ 42 < b → b ≡ c → ⊥
apart h k (inl l) e = omega arith
apart h k (inr l) e = omega arith

inside_plain : (b : ℕ) (s : List ℕ) (n : ℕ) → Plain b → is_clean_inside (b ∷ s) (suc n) ≡ is_clean_inside s (suc n)
unfolding open_after
inside_plain b s n (h, k, l) =
    inside_byte b s n
    ∙ simp (
      ne_eqb b 58 k,
      ne_eqb b 84 l,
      ne_eqb b 42 (apart (omega arith) (omega arith) h),
      ne_eqb b 40 (apart (omega arith) (omega arith) h),
      ne_eqb b 41 (apart (omega arith) (omega arith) h),
    )

inside_open : (s : List ℕ) (n : ℕ) → is_clean_inside (40 ∷ s) (suc n) ≡ is_clean_inside s (suc (suc n))
unfolding open_after
inside_open s n = inside_byte 40 s n ∙ ap (is_clean_inside s) (add-one (suc n))

inside_close : (s : List ℕ) (n : ℕ) → is_clean_inside (41 ∷ s) (suc n) ≡ is_clean_inside s n
unfolding open_after
inside_close s n = inside_byte 41 s n ∙ ap (is_clean_inside s) (omega arith)

inside_bit : {c : ℕ} {v : Bool} (s : List ℕ) (n : ℕ) → Bit c v → is_clean_inside (c ∷ s) (suc n) ≡ is_clean_inside s (suc n)
inside_bit s n b_zero = inside_plain 48 s n (inr (omega arith), (λ e. omega arith), λ e. omega arith)
inside_bit s n b_one = inside_plain 49 s n (inr (omega arith), (λ e. omega arith), λ e. omega arith)

module _ {X : Lexicon} (laws : Lawful X) where
  -- the bytes of a spelling s, of which r are left
  inside_spelt : (s r x : List ℕ) (n : ℕ) → X.does_begin (s ++ r) ≡ true → is_clean_inside (r ++ x) (suc n) ≡ is_clean_inside x (suc n)
  inside_spelt s [] x n h = refl
  inside_spelt s (b ∷ r) x n h =
      let k : X.does_begin ((s ++ (b ∷ [])) ++ r) ≡ true = rw append_assoc h in
      let w = laws.word s b (prefix laws (s ++ (b ∷ [])) r k) in
      inside_plain b (r ++ x) n (inr (word_above w), (λ e. word_not w (inr e)), word_no_full w) ∙ inside_spelt (s ++ (b ∷ [])) r x n k

  test_word : (b : ℕ) (s : List ℕ) → (b ≡ 58 → ⊥) → (b ≡ 61 → ⊥) → is_test (b ∷ s) ≡ is_test s
  unfolding is_test
  test_word b s h k = simp (ne_eqb b 58 h, ne_eqb b 61 k)

  clean_first : (b : ℕ) (s : List ℕ) → (b ≡ 40 → ⊥) → X.does_start b ≡ true → is_clean X (b ∷ s) ≡ is_test s
  unfolding is_clean
  clean_first b s h i = simp (ne_eqb b 40 h, i)

  test_spelt : (s r x : List ℕ) → X.does_begin (s ++ r) ≡ true → is_test (r ++ x) ≡ is_test x
  test_spelt s [] x h = refl
  test_spelt s (b ∷ r) x h =
      let k : X.does_begin ((s ++ (b ∷ [])) ++ r) ≡ true = rw append_assoc h in
      let w = laws.word s b (prefix laws (s ++ (b ∷ [])) r k) in
      test_word b (r ++ x) (λ e. word_not w (inr e)) (λ e. word_not w (inl e)) ∙ test_spelt (s ++ (b ∷ [])) r x k

  -- a spelling as the start of an operand
  clean_spelt : (s x : List ℕ) (m : ℕ) → X.Spells s m → is_clean X (s ++ x) ≡ is_test x
  clean_spelt [] x m g = absurd (laws.some m g)
  clean_spelt (b ∷ s) x m g =
      let l = laws.starts_letter b (laws.starts b s m g) in
      clean_first b (s ++ x) (λ e. omega (arith, l.0)) (laws.starts b s m g) ∙ test_spelt (b ∷ []) s x (whole_begins laws (b ∷ s) m g)

  -- inside a parenthesis, and as an operand
  record Inside (s : List ℕ) (p : Policy) : Type 0 where
    pub inside : (r : List ℕ) (n : ℕ) → is_clean_inside (s ++ r) (suc n) ≡ is_predicate p && is_clean_inside r (suc n)

  record Operand (s : List ℕ) (p : Policy) : Type 0 where
    pub inside : (r : List ℕ) (n : ℕ) → is_clean_inside (s ++ r) (suc n) ≡ is_predicate p && is_clean_inside r (suc n)
    pub alone : (r : List ℕ) → is_clean X (s ++ r) ≡ is_predicate p

  -- a byte that is no letter is not taken for the first of one
  no_start : (b : ℕ) → (Letter b → ⊥) → X.does_start b ≡ false
  no_start b h = by (X.does_start b) refl
    where
      by : (x : Bool) → X.does_start b ≡ x → x ≡ false
      by true e = absurd (h (laws.starts_letter b e))
      by false e = refl

  case_digit : (b : ℕ) (p : Policy) → 48 ≤ b → b ≤ 57 → is_predicate p ≡ true → Operand (b ∷ []) p
  unfolding is_clean
  case_digit b p h k e = record {
    inside = λ r n. inside_plain b r n (inr (omega arith), (λ z. omega arith), λ z. omega arith) ∙ simp e;
    alone = λ r. simp (
      ne_eqb b 40 (λ z. omega arith),
      no_start b (λ z. omega (arith, z.0)),
      ne_eqb b 33 (λ z. omega arith),
      ne_eqb b 84 (λ z. omega arith),
    ) (sym e);
  }

  case_full : Operand (84 ∷ []) Policy.full
  unfolding is_clean is_predicate
  case_full = record { inside = λ r n. inside_byte 84 r n; alone = λ r. simp (no_start 84 (λ z. omega (arith, z.0))) refl }

  case_test : {m c : ℕ} {s : List ℕ} {v : Bool} → X.Spells s m → Bit c v → Operand (s ++ (61 ∷ c ∷ [])) (Policy.tests m v)
  unfolding is_predicate is_test
  case_test {m = m} {c = c} {s = s} g b = record {
    inside = λ r n.
        ap (λ (w : List ℕ). is_clean_inside w (suc n)) (append_assoc s (61 ∷ c ∷ []) r)
        ∙ inside_spelt [] s (61 ∷ c ∷ r) n (whole_begins laws s m g)
        ∙ inside_plain 61 (c ∷ r) n (inr (omega arith), (λ e. omega arith), λ e. omega arith)
        ∙ inside_bit r n b;
    alone = λ r. ap (is_clean X) (append_assoc s (61 ∷ c ∷ []) r) ∙ clean_spelt s (61 ∷ c ∷ r) m g;
  }

  case_assign : {m c : ℕ} {s : List ℕ} {v : Bool} → X.Spells s m → Bit c v → Operand (s ++ (58 ∷ 61 ∷ c ∷ [])) (Policy.assigns m v)
  unfolding is_predicate is_test
  case_assign {m = m} {c = c} {s = s} g b = record {
    inside = λ r n.
        ap (λ (w : List ℕ). is_clean_inside w (suc n)) (append_assoc s (58 ∷ 61 ∷ c ∷ []) r)
        ∙ inside_spelt [] s (58 ∷ 61 ∷ c ∷ r) n (whole_begins laws s m g)
        ∙ inside_byte 58 (61 ∷ c ∷ r) n;
    alone = λ r. ap (is_clean X) (append_assoc s (58 ∷ 61 ∷ c ∷ []) r) ∙ clean_spelt s (58 ∷ 61 ∷ c ∷ r) m g;
  }

  case_neg : {s : List ℕ} {p : Policy} → Operand s p → Operand (33 ∷ s) (Policy.negates p)
  unfolding is_clean is_predicate open_after
  case_neg {s = s} a = record {
    inside = λ r n. inside_byte 33 (s ++ r) n ∙ a.inside r n;
    alone = λ r. simp (no_start 33 (λ z. omega (arith, z.0)))
        (a.alone r);
  }

  case_paren : {s : List ℕ} {p : Policy} → Inside s p → Operand (40 ∷ (s ++ (41 ∷ []))) p
  unfolding is_clean
  case_paren {s = s} {p = p} a = record {
    inside = λ r n.
        inside_open ((s ++ (41 ∷ [])) ++ r) n
        ∙ ap (λ (w : List ℕ). is_clean_inside w (suc (suc n))) (append_assoc s (41 ∷ []) r)
        ∙ a.inside (41 ∷ r) (suc n)
        ∙ ap (λ (b : Bool). is_predicate p && b) (inside_close r (suc n));
    alone = λ r.
        ap (λ (w : List ℕ). is_clean_inside w 1) (append_assoc s (41 ∷ []) r)
        ∙ a.inside (41 ∷ r) 0
        ∙ ap (λ (b : Bool). is_predicate p && b) (inside_close r 0 ∙ inside_closed r 0 (omega arith))
        ∙ and-true (is_predicate p);
  }

  case_star : {s : List ℕ} {p : Policy} → Inside s p → Inside (s ++ (42 ∷ [])) (Policy.stars p)
  unfolding is_predicate
  case_star {s = s} {p = p} a = record {
    inside = λ r n.
        ap (λ (w : List ℕ). is_clean_inside w (suc n)) (append_assoc s (42 ∷ []) r)
        ∙ a.inside (42 ∷ r) n
        ∙ ap (λ (b : Bool). is_predicate p && b) (inside_byte 42 r n)
        ∙ and-false (is_predicate p);
  }

  -- two parts and the byte that joins them
  case_join : {s t : List ℕ} {p q : Policy} (b : ℕ) → Plain b → Inside s p → Inside t q → (r : List ℕ) (n : ℕ)
      → is_clean_inside ((s ++ (b ∷ t)) ++ r) (suc n) ≡ (is_predicate p && is_predicate q) && is_clean_inside r (suc n)
  case_join {s = s} {t = t} {p = p} {q = q} b h x y r n =
      ap (λ (w : List ℕ). is_clean_inside w (suc n)) (append_assoc s (b ∷ t) r)
      ∙ x.inside (b ∷ (t ++ r)) n
      ∙ ap (λ (c : Bool). is_predicate p && c) (inside_plain b (t ++ r) n h ∙ y.inside r n)
      ∙ sym (and_assoc (is_predicate p) (is_predicate q) (is_clean_inside r (suc n)))

  case_seq : {s t : List ℕ} {p q : Policy} → Inside s p → Inside t q → Inside (s ++ (59 ∷ t)) (Policy.seq p q)
  unfolding is_predicate
  case_seq x y = record { inside = λ r n. case_join 59 (inr (omega arith), (λ e. omega arith), λ e. omega arith) x y r n }

  sign_plain : {c : ℕ} {m : Mix} → MixSign c m → Plain c
  sign_plain m_both = (inl (omega arith), (λ e. omega arith), λ e. omega arith)
  sign_plain m_minus = (inr (omega arith), (λ e. omega arith), λ e. omega arith)
  sign_plain m_either = (inr (omega arith), (λ e. omega arith), λ e. omega arith)

  case_mix : {c : ℕ} {s t : List ℕ} {m : Mix} {p q : Policy} → MixSign c m → Inside s p → Inside t q → Inside (s ++ (c ∷ t)) (Policy.mixes m p q)
  unfolding is_predicate
  case_mix {c = c} g x y = record { inside = λ r n. case_join c (sign_plain g) x y r n }

  case_plus : {s t : List ℕ} {p q : Policy} → Inside s p → Inside t q → Inside (s ++ (43 ∷ t)) (Policy.plus p q)
  unfolding is_predicate
  case_plus x y = record { inside = λ r n. case_join 43 (inr (omega arith), (λ e. omega arith), λ e. omega arith) x y r n }

  operand : {d : ℕ} {s : List ℕ} {p : Policy} → Atom X d s p → Operand s p
  unfolding is_predicate
  operand a = elim a as (λ d s p x. Operand s p) (λ d s p x. Inside s p) (λ d s p x. Inside s p) (λ d s p x. Inside s p) (λ d s p x. Inside s p) [
    | a_zero ↦ case_digit 48 Policy.fail (omega arith) (omega arith) refl
    | a_one ↦ case_digit 49 Policy.skip (omega arith) (omega arith) refl
    | a_full ↦ case_full
    | a_test f b ↦ case_test f b
    | a_assign f b ↦ case_assign f b
    | a_neg l (x → h) ↦ case_neg h
    | a_paren l (x → h) ↦ case_paren h
    | s_atom (x → h) ↦ record { inside = h.inside }
    | s_star (x → h) ↦ case_star h
    | p_one (x → h) ↦ h
    | p_seq (x → h) (y → k) ↦ case_seq h k
    | t_one (x → h) ↦ h
    | t_mix g (x → h) (y → k) ↦ case_mix g h k
    | u_one (x → h) ↦ h
    | u_plus (x → h) (y → k) ↦ case_plus h k
  ]

  pub clean_atom : {d : ℕ} {s : List ℕ} {p : Policy} → Atom X d s p → (r : List ℕ) → is_clean X (s ++ r) ≡ is_predicate p
  clean_atom a r = (operand a).alone r
