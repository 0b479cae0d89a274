-- A rule holds of a policy exactly when no byte of its text breaks it: once for every rule that a test on the text decides, from the
-- test's answers at `x` and at `!`, by induction on derivations. Then the rules on fields and on negations.
use mathlib.Core.Path.{◌≡◌, refl, sym, ap, ◌∙◌}
use Prim.Native.Nat.{ℕ}
use native.Mathlib.Omega.{arith}
use mathlib.Core.List.{List, [], ◌∷◌, ◌++◌, append_assoc}
use mathlib.Core.Bool.{Bool, true, false, not, ◌&&◌, and-true, and_assoc, not-not}
use mathlib.Core.Logic.{inl, inr}
use lib.Dec.{leb, ltb}
use borrow.Author.Tests.{ne_eqb, leb-true, leb-false, lt-ltb, le-ltb}
use Rattle.model.specs.Policies.{Mix, Policy, is_predicate, only_negates_predicates, has_fields_below}
use Rattle.policy_text.specs.Lexicon.{Lexicon, Lawful, Letter, Bounds}
use Rattle.policy_text.specs.Grammar.{Bit, b_zero, b_one}
use Rattle.policy_text.specs.Grammar.{Atom, a_zero, a_one, a_full, a_test, a_assign, a_neg, a_paren, s_atom, s_star}
use Rattle.policy_text.specs.Grammar.{p_one, p_seq, t_one, t_mix, Sum, u_one, u_plus}
use Rattle.policy_text.specs.Reading.{is_clean, does_offend}
use Rattle.policy_text.proofs.Clean.{clean_atom}
use Rattle.policy_text.proofs.MixSigns.{sign_other}
use Rattle.policy_text.proofs.Spellings.{word_above, whole_begins, prefix, no_letter}

-- no byte of s, with r after s, passes the test
unfoldable pub none : (List ℕ → Bool) → List ℕ → List ℕ → Bool
none P [] r = true
none P (b ∷ s) r = not (P (b ∷ (s ++ r))) && none P s r

none_append : (P : List ℕ → Bool) (s t r : List ℕ) → none P (s ++ t) r ≡ none P s (t ++ r) && none P t r
unfolding none
none_append P [] t r = refl
none_append P (b ∷ s) t r =
    ap (λ (w : List ℕ). not (P (b ∷ w)) && none P (s ++ t) r) (append_assoc s t r)
    ∙ ap (λ (x : Bool). not (P (b ∷ (s ++ (t ++ r)))) && x) (none_append P s t r)
    ∙ sym (and_assoc (not (P (b ∷ (s ++ (t ++ r))))) (none P s (t ++ r)) (none P t r))

below : (n k : ℕ) → ltb n k ≡ not (leb k n)
below n k = by (leb k n) refl
  where
    by : (x : Bool) → leb k n ≡ x → ltb n k ≡ not x
    by true e = le-ltb n k (leb-true k n e)
    by false e = lt-ltb n k (leb-false k n e)

module _ {X : Lexicon} (laws : Lawful X) where
  -- the test finds what breaks the rule, and only where a spelling begins or at `!`
  pub record FindsFaults (R : Policy → Bool) (P : List ℕ → Bool) : Type 0 where
    other : (b : ℕ) (s : List ℕ) → X.does_begin (b ∷ []) ≡ false → (b ≡ 33 → ⊥) → P (b ∷ s) ≡ false
    inner : (a : ℕ) (s : List ℕ) (b : ℕ) (r : List ℕ) → X.does_begin (a ∷ (s ++ (b ∷ []))) ≡ true → P (b ∷ r) ≡ false
    fail : R Policy.fail ≡ true
    skip : R Policy.skip ≡ true
    full : R Policy.full ≡ true
    tests : {n : ℕ} {f : List ℕ} (v : Bool) (s : List ℕ) → X.Spells f n → R (Policy.tests n v) ≡ not (P (f ++ (61 ∷ s)))
    assigns : {n : ℕ} {f : List ℕ} (v : Bool) (s : List ℕ) → X.Spells f n → R (Policy.assigns n v) ≡ not (P (f ++ (58 ∷ s)))
    negates : {d : ℕ} {s : List ℕ} {p : Policy} (r : List ℕ) → Atom X d s p → R (Policy.negates p) ≡ not (P (33 ∷ (s ++ r))) && R p
    plus : (p q : Policy) → R (Policy.plus p q) ≡ R p && R q
    mixes : (m : Mix) (p q : Policy) → R (Policy.mixes m p q) ≡ R p && R q
    seq : (p q : Policy) → R (Policy.seq p q) ≡ R p && R q
    stars : (p : Policy) → R (Policy.stars p) ≡ R p

  module _ (R : Policy → Bool) (P : List ℕ → Bool) (F : FindsFaults R P) where
    none_other : (b : ℕ) (s r : List ℕ) → (Letter b → ⊥) → (b ≡ 33 → ⊥) → none P (b ∷ s) r ≡ none P s r
    unfolding none
    none_other b s r h k = ap (λ (x : Bool). not x && none P s r) (F.other b (s ++ r) (no_letter laws b h) k)

    -- the bytes of a spelling after its first
    none_inner : (a : ℕ) (s w x r : List ℕ) → X.does_begin (a ∷ (s ++ w)) ≡ true → none P (w ++ x) r ≡ none P x r
    unfolding none
    none_inner a s [] x r h = refl
    none_inner a s (b ∷ w) x r h =
        let k : X.does_begin (a ∷ ((s ++ (b ∷ [])) ++ w)) ≡ true = rw append_assoc h in
        ap (λ (z : Bool). not z && none P (w ++ x) r) (F.inner a s b ((w ++ x) ++ r) (prefix laws (a ∷ (s ++ (b ∷ []))) w k))
        ∙ none_inner a (s ++ (b ∷ [])) w x r k

    none_spelt : (s x r : List ℕ) (n : ℕ) → X.Spells s n → none P (s ++ x) r ≡ not (P (s ++ (x ++ r))) && none P x r
    unfolding none
    none_spelt [] x r n g = absurd (laws.some n g)
    none_spelt (b ∷ s) x r n g =
        ap (λ (w : List ℕ). not (P (b ∷ w)) && none P (s ++ x) r) (append_assoc s x r)
        ∙ ap (λ (z : Bool). not (P (b ∷ (s ++ (x ++ r)))) && z) (none_inner b [] s x r (whole_begins laws (b ∷ s) n g))

    none_bit : {c : ℕ} {v : Bool} (r : List ℕ) → Bit c v → none P (c ∷ []) r ≡ true
    unfolding none
    none_bit r b_zero = none_other 48 [] r (λ e. omega (arith, e.0)) (λ e. omega arith)
    none_bit r b_one = none_other 49 [] r (λ e. omega (arith, e.0)) (λ e. omega arith)

    case_test : {n c : ℕ} {s : List ℕ} {v : Bool} → X.Spells s n → Bit c v → (r : List ℕ)
        → R (Policy.tests n v) ≡ none P (s ++ (61 ∷ c ∷ [])) r
    case_test {n = n} {c = c} {s = s} {v = v} g b r =
        F.tests v (c ∷ r) g
        ∙ sym (none_spelt s (61 ∷ c ∷ []) r n g
        ∙ ap (λ (x : Bool). not (P (s ++ (61 ∷ c ∷ r))) && x)
        (none_other 61 (c ∷ []) r (λ e. omega (arith, e.0)) (λ e. omega arith) ∙ none_bit r b)
        ∙ and-true (not (P (s ++ (61 ∷ c ∷ r)))))

    case_assign : {n c : ℕ} {s : List ℕ} {v : Bool} → X.Spells s n → Bit c v → (r : List ℕ)
        → R (Policy.assigns n v) ≡ none P (s ++ (58 ∷ 61 ∷ c ∷ [])) r
    case_assign {n = n} {c = c} {s = s} {v = v} g b r =
        F.assigns v (61 ∷ c ∷ r) g
        ∙ sym (none_spelt s (58 ∷ 61 ∷ c ∷ []) r n g
        ∙ ap (λ (x : Bool). not (P (s ++ (58 ∷ 61 ∷ c ∷ r))) && x)
        (none_other 58 (61 ∷ c ∷ []) r (λ e. omega (arith, e.0)) (λ e. omega arith)
        ∙ none_other 61 (c ∷ []) r (λ e. omega (arith, e.0)) (λ e. omega arith)
        ∙ none_bit r b)
        ∙ and-true (not (P (s ++ (58 ∷ 61 ∷ c ∷ r)))))

    case_neg : {d : ℕ} {s : List ℕ} {p : Policy} → Atom X d s p → ((r : List ℕ) → R p ≡ none P s r) → (r : List ℕ)
        → R (Policy.negates p) ≡ none P (33 ∷ s) r
    unfolding none
    case_neg {s = s} x h r = F.negates r x ∙ ap (λ (y : Bool). not (P (33 ∷ (s ++ r))) && y) (h r)

    -- one more byte at the end
    case_last : (s : List ℕ) (p : Policy) (b : ℕ) → (Letter b → ⊥) → (b ≡ 33 → ⊥) → ((r : List ℕ) → R p ≡ none P s r) → (r : List ℕ)
        → R p ≡ none P (s ++ (b ∷ [])) r
    unfolding none
    case_last s p b i j h r =
        h (b ∷ r)
        ∙ sym (none_append P s (b ∷ []) r ∙ ap (λ (x : Bool). none P s (b ∷ r) && x) (none_other b [] r i j) ∙ and-true (none P s (b ∷ r)))

    -- two parts and the byte that joins them
    case_join : (s t : List ℕ) (p q : Policy) (b : ℕ) → (Letter b → ⊥) → (b ≡ 33 → ⊥) → ((r : List ℕ) → R p ≡ none P s r)
        → ((r : List ℕ) → R q ≡ none P t r) → (r : List ℕ) → R p && R q ≡ none P (s ++ (b ∷ t)) r
    case_join s t p q b i j h k r =
        ap (λ (x : Bool). x && R q) (h (b ∷ (t ++ r)))
        ∙ ap (λ (x : Bool). none P s (b ∷ (t ++ r)) && x) (k r ∙ sym (none_other b t r i j))
        ∙ sym (none_append P s (b ∷ t) r)

    pub finds : {d : ℕ} {s : List ℕ} {p : Policy} → Sum X d s p → (r : List ℕ) → R p ≡ none P s r
    unfolding none
    finds a = elim a as (λ d s p x. (r : List ℕ) → R p ≡ none P s r) (λ d s p x. (r : List ℕ) → R p ≡ none P s r)
        (λ d s p x. (r : List ℕ) → R p ≡ none P s r) (λ d s p x. (r : List ℕ) → R p ≡ none P s r) (λ d s p x. (r : List ℕ) → R p ≡ none P s r) [
          | a_zero ↦ (λ r. F.fail ∙ sym (none_other 48 [] r (λ e. omega (arith, e.0)) (λ e. omega arith)))
          | a_one ↦ (λ r. F.skip ∙ sym (none_other 49 [] r (λ e. omega (arith, e.0)) (λ e. omega arith)))
          | a_full ↦ (λ r. F.full ∙ sym (none_other 84 [] r (λ e. omega (arith, e.0)) (λ e. omega arith)))
          | a_test f b ↦ case_test f b
          | a_assign f b ↦ case_assign f b
          | a_neg l (x → h) ↦ case_neg x h
          | a_paren {s = s} {p = p} l (x → h) ↦ (λ r. case_last s p 41 (λ e. omega (arith, e.0)) (λ e. omega arith) h r
              ∙ sym (none_other 40 (s ++ (41 ∷ [])) r (λ e. omega (arith, e.0)) (λ e. omega arith)))
          | s_atom (x → h) ↦ h
          | s_star {s = s} {p = p} (x → h) ↦ (λ r. F.stars p ∙ case_last s p 42 (λ e. omega (arith, e.0)) (λ e. omega arith) h r)
          | p_one (x → h) ↦ h
          | p_seq {s = s} {t = t} {p = p} {q = q} (x → h) (y → k) ↦ (λ r. F.seq p q ∙ case_join s t p q 59 (λ e. omega (arith, e.0)) (λ e. omega arith) h k r)
          | t_one (x → h) ↦ h
          | t_mix {c = c} {s = s} {t = t} {m = m} {p = p} {q = q} g (x → h) (y → k) ↦
              (λ r. F.mixes m p q ∙ case_join s t p q c (sign_other g).0 (sign_other g).1 h k r)
          | u_one (x → h) ↦ h
          | u_plus {s = s} {t = t} {p = p} {q = q} (x → h) (y → k) ↦
              (λ r. F.plus p q ∙ case_join s t p q 43 (λ e. omega (arith, e.0)) (λ e. omega arith) h k r)
        ]

  pub fields_found : (k : ℕ) → Bounds X k → FindsFaults (has_fields_below k) (X.is_outside k)
  unfolding has_fields_below
  fields_found k B = record {
    other = λ b s h j. B.elsewhere b s h;
    inner = λ a s b r h. B.inner a s b r h;
    fail = refl;
    skip = refl;
    full = refl;
    tests = λ {n} {f} v s g. below n k ∙ ap not (sym (B.here f n 61 s g (inl refl)));
    assigns = λ {n} {f} v s g. below n k ∙ ap not (sym (B.here f n 58 s g (inr refl)));
    negates = λ {d} {s} {p} r a. ap (λ (x : Bool). not x && has_fields_below k p)
        (sym (B.elsewhere 33 (s ++ r) (no_letter laws 33 (λ e. omega (arith, e.0)))));
    plus = λ p q. refl;
    mixes = λ m p q. refl;
    seq = λ p q. refl;
    stars = λ p. refl;
  }

  -- a spelling begins with no `!`
  pub spelt_offends : (s x : List ℕ) (n : ℕ) → X.Spells s n → does_offend X (s ++ x) ≡ false
  unfolding does_offend
  spelt_offends [] x n g = absurd (laws.some n g)
  spelt_offends (b ∷ s) x n g =
      let l = laws.letter b (laws.begins (b ∷ []) s n g) in
      ap (λ (z : Bool). z && not (is_clean X (s ++ x))) (ne_eqb b 33 (λ e. omega (arith, l.0)))

  pub negations_found : FindsFaults only_negates_predicates (does_offend X)
  unfolding only_negates_predicates does_offend
  negations_found = record {
    other = λ b s h j. ap (λ (x : Bool). x && not (is_clean X s)) (ne_eqb b 33 j);
    inner = λ a s b r h. let w = word_above (laws.word (a ∷ s) b h) in ap (λ (x : Bool). x && not (is_clean X r)) (ne_eqb b 33 (λ e. omega (arith, w)));
    fail = refl;
    skip = refl;
    full = refl;
    tests = λ {n} {f} v s g. ap not (sym (spelt_offends f (61 ∷ s) n g));
    assigns = λ {n} {f} v s g. ap not (sym (spelt_offends f (58 ∷ s) n g));
    negates = λ {d} {s} {p} r a.
        ap (λ (x : Bool). x && only_negates_predicates p) (sym (not-not (is_predicate p)) ∙ ap (λ (x : Bool). not (not x)) (sym (clean_atom laws a r)));
    plus = λ p q. refl;
    mixes = λ m p q. refl;
    seq = λ p q. refl;
    stars = λ p. refl;
  }
