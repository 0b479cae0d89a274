-- Whatever follows the grammar is accepted, with its policy, and a text has one policy.
use mathlib.Core.Path.{◌≡◌, refl, sym, ap, ◌∙◌}
use Prim.Native.Nat.{ℕ, suc, ◌+◌, ◌≤◌, ◌<◌}
use native.Mathlib.Omega.{arith}
use mathlib.Core.List.{List, [], ◌∷◌, ◌++◌, append_assoc, append-nil}
use mathlib.Core.Bool.{Bool, true, false}
use borrow.Author.Tests.{ne_eqb, lt-ltb}
use Rattle.model.specs.Policies.{Mix, Policy}
use mathlib.Core.Logic.{inl, inr}
use Rattle.policy_text.specs.Lexicon.{Lexicon, Lawful}
use Rattle.policy_text.specs.Grammar.{Bit, b_zero, b_one, MixSign, m_both, m_minus, m_either, a_zero, a_one, a_full, a_test, a_assign, a_neg, a_paren}
use Rattle.policy_text.specs.Grammar.{s_atom, s_star, p_one, p_seq, t_one, t_mix, Sum, u_one, u_plus}
use Rattle.policy_text.specs.Machine.{Acc, nothing, sofar, Left, opening, joining, sum_before, join_mix, join_term, mix_of}
use Rattle.policy_text.specs.Machine.{Frame, paren, spelt, colon, bit, State, need, inside, post}
use Rattle.policy_text.specs.Machine.{ByteStep, go, accept, negs, join_seq, join_plus, nesting, leaf, after_name}
use Rattle.policy_text.specs.Machine.{mid_step, mid_go, close, byte_step, final, onward, scan, start, reads}
use Rattle.policy_text.proofs.Sound.{accept_same}
use Rattle.policy_text.proofs.Spellings.{prefix, whole_begins, not_before}

module _ {X : Lexicon} (laws : Lawful X) where
  pub scan_cons : (L : ℕ) (q q' : State) (at b : ℕ) (r : List ℕ) → byte_step X L q b ≡ go q' → scan X L q at (b ∷ r) ≡ scan X L q' (at + 1) r
  unfolding scan onward
  scan_cons L q q' at b r e = ap (λ (k : ByteStep). onward k (λ z. scan X L z (at + 1) r) at) e

  record AdvAtom (d : ℕ) (s : List ℕ) (p : Policy) : Type 0 where
    adv : (L : ℕ) (sa : Left) (pa : Acc) (n : ℕ) (σ : List Frame) (at : ℕ) (r : List ℕ) → n + nesting σ + d ≤ L
        → (e : ℕ) × (scan X L (need sa pa n σ) at (s ++ r) ≡ scan X L (post (negs n p) sa pa σ) e r)

  record AdvStarred (d : ℕ) (s : List ℕ) (p : Policy) : Type 0 where
    adv : (L : ℕ) (sa : Left) (pa : Acc) (σ : List Frame) (at : ℕ) (r : List ℕ) → nesting σ + d ≤ L
        → (e : ℕ) × (scan X L (need sa pa 0 σ) at (s ++ r) ≡ scan X L (post p sa pa σ) e r)

  record AdvProduct (d : ℕ) (s : List ℕ) (p : Policy) : Type 0 where
    adv : (L : ℕ) (sa : Left) (σ : List Frame) (at : ℕ) (r : List ℕ) → nesting σ + d ≤ L
        → (pa : Acc) × (v : Policy) × (e : ℕ) × (join_seq pa v ≡ p) × (scan X L (need sa nothing 0 σ) at (s ++ r) ≡ scan X L (post v sa pa σ) e r)

  record AdvTerm (d : ℕ) (s : List ℕ) (p : Policy) : Type 0 where
    adv : (L : ℕ) (sa : Acc) (σ : List Frame) (at : ℕ) (r : List ℕ) → nesting σ + d ≤ L
        → (sb : Left) × (pa : Acc) × (v : Policy) × (e : ℕ) × (sum_before sb ≡ sa) × (join_mix sb (join_seq pa v) ≡ p)
        × (scan X L (need (opening sa) nothing 0 σ) at (s ++ r) ≡ scan X L (post v sb pa σ) e r)

  record AdvSum (d : ℕ) (s : List ℕ) (p : Policy) : Type 0 where
    adv : (L : ℕ) (σ : List Frame) (at : ℕ) (r : List ℕ) → nesting σ + d ≤ L
        → (sa : Left) × (pa : Acc) × (v : Policy) × (e : ℕ) × (join_term sa (join_seq pa v) ≡ p)
        × (scan X L (need (opening nothing) nothing 0 σ) at (s ++ r) ≡ scan X L (post v sa pa σ) e r)

  module _ (L : ℕ) (sa : Left) (pa : Acc) (n : ℕ) (σ : List Frame) where
    -- the rest of a spelling
    pub adv_spelt : (s w : List ℕ) (at : ℕ) (r : List ℕ) → X.does_begin (s ++ w) ≡ true
        → (e : ℕ) × (scan X L (inside (spelt s) sa pa n σ) at (w ++ r) ≡ scan X L (inside (spelt (s ++ w)) sa pa n σ) e r)
    unfolding byte_step mid_step mid_go
    adv_spelt s [] at r h = (at, ap (λ (z : List ℕ). scan X L (inside (spelt z) sa pa n σ) at r) (sym (append-nil s)))
    adv_spelt s (b ∷ w) at r h =
        let k : X.does_begin ((s ++ (b ∷ [])) ++ w) ≡ true = rw append_assoc h in
        let u = adv_spelt (s ++ (b ∷ [])) w (at + 1) r k in (
          u.0,
          scan_cons L (inside (spelt s) sa pa n σ) (inside (spelt (s ++ (b ∷ []))) sa pa n σ) at b (w ++ r) (simp (prefix laws (s ++ (b ∷ [])) w k))
              ∙ u.1 ∙ ap (λ (z : List ℕ). scan X L (inside (spelt z) sa pa n σ) u.0 r) (append_assoc s (b ∷ []) w),
        )

    -- a spelling from its first byte
    adv_name : (s : List ℕ) (k at : ℕ) (r : List ℕ) → X.Spells s k
        → (e : ℕ) × (scan X L (need sa pa n σ) at (s ++ r) ≡ scan X L (inside (spelt s) sa pa n σ) e r)
    unfolding byte_step
    adv_name [] k at r g = absurd (laws.some k g)
    adv_name (b ∷ s) k at r g =
        let i : X.does_begin (b ∷ []) ≡ true = laws.begins (b ∷ []) s k g in
        let l = laws.letter b i in
        let u = adv_spelt (b ∷ []) s (at + 1) r (whole_begins laws (b ∷ s) k g) in (
          u.0,
          scan_cons L (need sa pa n σ) (inside (spelt (b ∷ [])) sa pa n σ) at b (s ++ r)
              (simp (
                ne_eqb b 48 (λ e. omega (arith, l.0)),
                ne_eqb b 49 (λ e. omega (arith, l.0)),
                ne_eqb b 84 (λ e. omega (arith, l.0)),
                ne_eqb b 33 (λ e. omega (arith, l.0)),
                ne_eqb b 40 (λ e. omega (arith, l.0)),
                i,
              ))
              ∙ u.1,
        )

    adv_bit : {c : ℕ} {v : Bool} (k : Bool) (m at : ℕ) (r : List ℕ) → Bit c v
        → scan X L (inside (bit k m) sa pa n σ) at (c ∷ r) ≡ scan X L (post (negs n (leaf k m v)) sa pa σ) (at + 1) r
    unfolding byte_step mid_step mid_go
    adv_bit k m at r b_zero = scan_cons L (inside (bit k m) sa pa n σ) (post (negs n (leaf k m false)) sa pa σ) at 48 r refl
    adv_bit k m at r b_one = scan_cons L (inside (bit k m) sa pa n σ) (post (negs n (leaf k m true)) sa pa σ) at 49 r refl

  case_test : {d k c : ℕ} {s : List ℕ} {v : Bool} → X.Spells s k → Bit c v → AdvAtom d (s ++ (61 ∷ c ∷ [])) (Policy.tests k v)
  unfolding byte_step mid_step mid_go after_name leaf
  case_test {k = k} {c = c} {s = s} {v = v} g b = record {
    adv = λ L sa pa n σ at r h.
        let u = adv_name L sa pa n σ s k at (61 ∷ c ∷ r) g in (
          u.0 + 1 + 1,
          ap (λ (w : List ℕ). scan X L (need sa pa n σ) at w) (append_assoc s (61 ∷ c ∷ []) r)
              ∙ u.1
              ∙ scan_cons L (inside (spelt s) sa pa n σ) (inside (bit false k) sa pa n σ) u.0 61 (c ∷ r)
              (simp (not_before laws s 61 (inl refl), laws.whole s k g))
              ∙ adv_bit L sa pa n σ false k (u.0 + 1) r b,
        );
  }

  case_assign : {d k c : ℕ} {s : List ℕ} {v : Bool} → X.Spells s k → Bit c v → AdvAtom d (s ++ (58 ∷ 61 ∷ c ∷ [])) (Policy.assigns k v)
  unfolding byte_step mid_step mid_go after_name leaf
  case_assign {k = k} {c = c} {s = s} {v = v} g b = record {
    adv = λ L sa pa n σ at r h.
        let u = adv_name L sa pa n σ s k at (58 ∷ 61 ∷ c ∷ r) g in (
          u.0 + 1 + 1 + 1,
          ap (λ (w : List ℕ). scan X L (need sa pa n σ) at w) (append_assoc s (58 ∷ 61 ∷ c ∷ []) r)
              ∙ u.1
              ∙ scan_cons L (inside (spelt s) sa pa n σ) (inside (colon k) sa pa n σ) u.0 58 (61 ∷ c ∷ r)
              (simp (not_before laws s 58 (inr refl), laws.whole s k g))
              ∙ scan_cons L (inside (colon k) sa pa n σ) (inside (bit true k) sa pa n σ) (u.0 + 1) 61 (c ∷ r) refl
              ∙ adv_bit L sa pa n σ true k (u.0 + 1 + 1) r b,
        );
  }

  case_zero : {d : ℕ} → AdvAtom d (48 ∷ []) Policy.fail
  unfolding byte_step
  case_zero = record { adv = λ L sa pa n σ at r h. (at + 1, scan_cons L (need sa pa n σ) (post (negs n Policy.fail) sa pa σ) at 48 r refl) }

  case_one : {d : ℕ} → AdvAtom d (49 ∷ []) Policy.skip
  unfolding byte_step
  case_one = record { adv = λ L sa pa n σ at r h. (at + 1, scan_cons L (need sa pa n σ) (post (negs n Policy.skip) sa pa σ) at 49 r refl) }

  case_full : {d : ℕ} → AdvAtom d (84 ∷ []) Policy.full
  unfolding byte_step
  case_full = record { adv = λ L sa pa n σ at r h. (at + 1, scan_cons L (need sa pa n σ) (post (negs n Policy.full) sa pa σ) at 84 r refl) }

  case_neg : {d e : ℕ} {s : List ℕ} {p : Policy} → e < d → AdvAtom e s p → AdvAtom d (33 ∷ s) (Policy.negates p)
  unfolding byte_step negs
  case_neg {s = s} l a = record {
    adv = λ L sa pa n σ at r h.
        let u = a.adv L sa pa (suc n) σ (at + 1) r (omega arith) in
        (u.0, scan_cons L (need sa pa n σ) (need sa pa (suc n) σ) at 33 (s ++ r) (simp (lt-ltb (n + nesting σ) L (omega arith))) ∙ u.1);
  }

  case_paren : {d e : ℕ} {s : List ℕ} {p : Policy} → e < d → AdvSum e s p → AdvAtom d (40 ∷ (s ++ (41 ∷ []))) p
  unfolding byte_step close nesting
  case_paren {s = s} {p = p} l a = record {
    adv = λ L sa pa n σ at r h.
        let u = a.adv L (paren sa pa n ∷ σ) (at + 1) (41 ∷ r) (omega arith) in (
          u.3 + 1,
          scan_cons L (need sa pa n σ) (need (opening nothing) nothing 0 (paren sa pa n ∷ σ)) at 40 ((s ++ (41 ∷ [])) ++ r)
              (simp (lt-ltb (n + nesting σ) L (omega arith)))
              ∙ ap (λ (w : List ℕ). scan X L (need (opening nothing) nothing 0 (paren sa pa n ∷ σ)) (at + 1) w) (append_assoc s (41 ∷ []) r)
              ∙ u.5
              ∙ scan_cons L (post u.2 u.0 u.1 (paren sa pa n ∷ σ)) (post (negs n p) sa pa σ) u.3 41 r
              (ap (λ (k : Policy). go (post (negs n k) sa pa σ)) u.4),
        );
  }

  case_atom : {d : ℕ} {s : List ℕ} {p : Policy} → AdvAtom d s p → AdvStarred d s p
  unfolding negs
  case_atom a = record { adv = λ L sa pa σ at r h. a.adv L sa pa 0 σ at r (omega arith) }

  case_star : {d : ℕ} {s : List ℕ} {p : Policy} → AdvStarred d s p → AdvStarred d (s ++ (42 ∷ [])) (Policy.stars p)
  unfolding byte_step
  case_star {s = s} {p = p} a = record {
    adv = λ L sa pa σ at r h.
        let u = a.adv L sa pa σ at (42 ∷ r) h in (
          u.0 + 1,
          ap (λ (w : List ℕ). scan X L (need sa pa 0 σ) at w) (append_assoc s (42 ∷ []) r)
              ∙ u.1 ∙ scan_cons L (post p sa pa σ) (post (Policy.stars p) sa pa σ) u.0 42 r refl,
        );
  }

  case_single : {d : ℕ} {s : List ℕ} {p : Policy} → AdvStarred d s p → AdvProduct d s p
  unfolding join_seq
  case_single {p = p} a = record { adv = λ L sa σ at r h. let u = a.adv L sa nothing σ at r h in (nothing, p, u.0, refl, u.1) }

  case_seq : {d : ℕ} {s t : List ℕ} {p q : Policy} → AdvProduct d s p → AdvStarred d t q → AdvProduct d (s ++ (59 ∷ t)) (Policy.seq p q)
  unfolding byte_step join_seq
  case_seq {s = s} {t = t} {p = p} {q = q} a b = record {
    adv = λ L sa σ at r h.
        let u = a.adv L sa σ at (59 ∷ (t ++ r)) h in
        let w = b.adv L sa (sofar p) σ (u.2 + 1) r h in (
          sofar p,
          q,
          w.0,
          refl,
          ap (λ (x : List ℕ). scan X L (need sa nothing 0 σ) at x) (append_assoc s (59 ∷ t) r)
              ∙ u.4 ∙ scan_cons L (post u.1 sa u.0 σ) (need sa (sofar p) 0 σ) u.2 59 (t ++ r) (ap (λ (k : Policy). go (need sa (sofar k) 0 σ)) u.3)
              ∙ w.1,
        );
  }

  case_product : {d : ℕ} {s : List ℕ} {p : Policy} → AdvProduct d s p → AdvTerm d s p
  unfolding sum_before join_mix
  case_product a = record { adv = λ L sa σ at r h. let u = a.adv L (opening sa) σ at r h in (opening sa, u.0, u.1, u.2, refl, u.3, u.4) }

  -- a sign after a term
  step_mix : {c : ℕ} {m : Mix} (L : ℕ) (v : Policy) (sa : Left) (pa : Acc) (σ : List Frame) → MixSign c m
      → byte_step X L (post v sa pa σ) c ≡ go (need (joining (sum_before sa) m (join_mix sa (join_seq pa v))) nothing 0 σ)
  unfolding byte_step mix_of
  step_mix L v sa pa σ m_both = refl
  step_mix L v sa pa σ m_minus = refl
  step_mix L v sa pa σ m_either = refl

  case_mix : {d c : ℕ} {s t : List ℕ} {m : Mix} {p q : Policy} → MixSign c m → AdvTerm d s p → AdvProduct d t q → AdvTerm d (s ++ (c ∷ t)) (Policy.mixes m p q)
  unfolding sum_before join_mix
  case_mix {c = c} {s = s} {t = t} {m = m} {p = p} {q = q} g a b = record {
    adv = λ L sa σ at r h.
        let u = a.adv L sa σ at (c ∷ (t ++ r)) h in
        let w = b.adv L (joining sa m p) σ (u.3 + 1) r h in (
          joining sa m p,
          w.0,
          w.1,
          w.2,
          refl,
          ap (λ (k : Policy). Policy.mixes m p k) w.3,
          ap (λ (x : List ℕ). scan X L (need (opening sa) nothing 0 σ) at x) (append_assoc s (c ∷ t) r)
              ∙ u.6 ∙ scan_cons L (post u.2 u.0 u.1 σ) (need (joining sa m p) nothing 0 σ) u.3 c (t ++ r)
              (step_mix L u.2 u.0 u.1 σ g
              ∙ ap (λ (k : Acc). go (need (joining k m (join_mix u.0 (join_seq u.1 u.2))) nothing 0 σ)) u.4
              ∙ ap (λ (k : Policy). go (need (joining sa m k) nothing 0 σ)) u.5)
              ∙ w.4,
        );
  }

  case_term : {d : ℕ} {s : List ℕ} {p : Policy} → AdvTerm d s p → AdvSum d s p
  unfolding join_plus join_term
  case_term a = record {
    adv = λ L σ at r h.
        let u = a.adv L nothing σ at r h in (
          u.0,
          u.1,
          u.2,
          u.3,
          ap (λ (k : Acc). join_plus k (join_mix u.0 (join_seq u.1 u.2))) u.4 ∙ u.5,
          u.6,
        );
  }

  case_plus : {d : ℕ} {s t : List ℕ} {p q : Policy} → AdvSum d s p → AdvTerm d t q → AdvSum d (s ++ (43 ∷ t)) (Policy.plus p q)
  unfolding byte_step join_plus join_term
  case_plus {s = s} {t = t} {p = p} {q = q} a b = record {
    adv = λ L σ at r h.
        let u = a.adv L σ at (43 ∷ (t ++ r)) h in
        let w = b.adv L (sofar p) σ (u.3 + 1) r h in (
          w.0,
          w.1,
          w.2,
          w.3,
          ap (λ (k : Acc). join_plus k (join_mix w.0 (join_seq w.1 w.2))) w.4 ∙ ap (λ (k : Policy). Policy.plus p k) w.5,
          ap (λ (x : List ℕ). scan X L (need (opening nothing) nothing 0 σ) at x) (append_assoc s (43 ∷ t) r)
              ∙ u.5 ∙ scan_cons L (post u.2 u.0 u.1 σ) (need (opening (sofar p)) nothing 0 σ) u.3 43 (t ++ r)
              (ap (λ (k : Policy). go (need (opening (sofar k)) nothing 0 σ)) u.4)
              ∙ w.6,
        );
  }

  adv_sum : {d : ℕ} {s : List ℕ} {p : Policy} → Sum X d s p → AdvSum d s p
  adv_sum a = elim a as (λ d s p x. AdvAtom d s p) (λ d s p x. AdvStarred d s p) (λ d s p x. AdvProduct d s p) (λ d s p x. AdvTerm d s p)
      (λ d s p x. AdvSum d s p) [
        | a_zero ↦ case_zero
        | a_one ↦ case_one
        | a_full ↦ case_full
        | a_test f b ↦ case_test f b
        | a_assign f b ↦ case_assign f b
        | a_neg l (x → h) ↦ case_neg l h
        | a_paren l (x → h) ↦ case_paren l h
        | s_atom (x → h) ↦ case_atom h
        | s_star (x → h) ↦ case_star h
        | p_one (x → h) ↦ case_single h
        | p_seq (x → h) (y → k) ↦ case_seq h k
        | t_one (x → h) ↦ case_product h
        | t_mix g (x → h) (y → k) ↦ case_mix g h k
        | u_one (x → h) ↦ case_term h
        | u_plus (x → h) (y → k) ↦ case_plus h k
      ]

  -- at any limit that is no lower than the nesting
  pub complete_at : {d : ℕ} {t : List ℕ} {p : Policy} (L : ℕ) → d ≤ L → Sum X d t p → scan X L start 0 t ≡ accept p
  unfolding scan final nesting
  complete_at {t = t} L h a =
      let u = (adv_sum a).adv L [] 0 [] (omega arith) in
      ap (λ (w : List ℕ). scan X L start 0 w) (sym (append-nil t)) ∙ u.5 ∙ ap accept u.4

  -- whatever follows the grammar, nested at most 32 deep, is accepted with its policy
  pub complete : (t : List ℕ) (p : Policy) → Sum X 32 t p → reads X t ≡ accept p
  unfolding reads
  complete t p a = complete_at 32 (omega arith) a

  -- a text has one policy, at whatever depth it is read
  pub unambiguous : {d e : ℕ} {t : List ℕ} {p q : Policy} → Sum X d t p → Sum X e t q → p ≡ q
  unambiguous {d = d} {e = e} a b = accept_same (sym (complete_at (d + e) (omega arith) a) ∙ complete_at (d + e) (omega arith) b)
