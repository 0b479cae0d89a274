-- How the signs bind, on the tree of a text: `!` and `*` first, then `;`, then `&`, `-` and `^` on one level, then `+`, each level from the
-- left (02, M-104). For all starred items a, b and c, however they are written: from the grammar, by which a text has one tree.
use mathlib.Core.Path.{◌≡◌, subst}
use Prim.Native.Nat.{ℕ, ◌<◌}
use mathlib.Core.List.{List, ◌∷◌, ◌++◌, append_assoc}
use Rattle.model.specs.Policies.{Mix, Policy}
use Rattle.policy_text.specs.Lexicon.{Lexicon, Lawful}
use Rattle.policy_text.specs.Grammar.{MixSign, m_both, m_minus, m_either, Atom, a_neg, Starred, s_atom, p_one, p_seq, t_one, t_mix, Sum, u_one, u_plus}
use Rattle.policy_text.specs.Answers.{tree}
use Rattle.policy_text.proofs.Says.{tree_is}

module _ {X : Lexicon} (laws : Lawful X) where
  -- the tree of a text that is two joins, the left one within the right one
  left_first : {p : Policy} (s t u : List ℕ) (e f : ℕ) → Sum X 32 ((s ++ (e ∷ t)) ++ (f ∷ u)) p → tree X (s ++ (e ∷ (t ++ (f ∷ u)))) ≡ p
  left_first {p = p} s t u e f g = tree_is laws _ p (subst (λ (w : List ℕ). Sum X 32 w p) (append_assoc s (e ∷ t) (f ∷ u)) g)

  module _ {s t u : List ℕ} {a b c : Policy} (A : Starred X 32 s a) (B : Starred X 32 t b) (C : Starred X 32 u c) where
    module _ {e : ℕ} {m : Mix} (E : MixSign e m) where
      plus_mix : tree X (s ++ (43 ∷ (t ++ (e ∷ u)))) ≡ Policy.plus a (Policy.mixes m b c)
      plus_mix = tree_is laws _ _ (u_plus (u_one (t_one (p_one A))) (t_mix E (t_one (p_one B)) (p_one C)))

      mix_plus : tree X (s ++ (e ∷ (t ++ (43 ∷ u)))) ≡ Policy.plus (Policy.mixes m a b) c
      mix_plus = left_first s t u e 43 (u_plus (u_one (t_mix E (t_one (p_one A)) (p_one B))) (t_one (p_one C)))

      seq_mix : tree X (s ++ (59 ∷ (t ++ (e ∷ u)))) ≡ Policy.mixes m (Policy.seq a b) c
      seq_mix = left_first s t u 59 e (u_one (t_mix E (t_one (p_seq (p_one A) B)) (p_one C)))

      mix_seq : tree X (s ++ (e ∷ (t ++ (59 ∷ u)))) ≡ Policy.mixes m a (Policy.seq b c)
      mix_seq = tree_is laws _ _ (u_one (t_mix E (t_one (p_one A)) (p_seq (p_one B) C)))

      mix_mix : {f : ℕ} {n : Mix} → MixSign f n → tree X (s ++ (e ∷ (t ++ (f ∷ u)))) ≡ Policy.mixes n (Policy.mixes m a b) c
      mix_mix {f = f} F = left_first s t u e f (u_one (t_mix F (t_mix E (t_one (p_one A)) (p_one B)) (p_one C)))

    -- `a+b&c`, `a&b+c`
    pub plus_both : tree X (s ++ (43 ∷ (t ++ (38 ∷ u)))) ≡ Policy.plus a (Policy.mixes Mix.both b c)
    plus_both = plus_mix m_both

    pub both_plus : tree X (s ++ (38 ∷ (t ++ (43 ∷ u)))) ≡ Policy.plus (Policy.mixes Mix.both a b) c
    both_plus = mix_plus m_both

    -- `a;b-c`, `a-b;c`
    pub seq_minus : tree X (s ++ (59 ∷ (t ++ (45 ∷ u)))) ≡ Policy.mixes Mix.minus (Policy.seq a b) c
    seq_minus = seq_mix m_minus

    pub minus_seq : tree X (s ++ (45 ∷ (t ++ (59 ∷ u)))) ≡ Policy.mixes Mix.minus a (Policy.seq b c)
    minus_seq = mix_seq m_minus

    -- `a-b-c`, `a^b^c`, `a-b&c`
    pub minus_minus : tree X (s ++ (45 ∷ (t ++ (45 ∷ u)))) ≡ Policy.mixes Mix.minus (Policy.mixes Mix.minus a b) c
    minus_minus = mix_mix m_minus m_minus

    pub either_either : tree X (s ++ (94 ∷ (t ++ (94 ∷ u)))) ≡ Policy.mixes Mix.either (Policy.mixes Mix.either a b) c
    either_either = mix_mix m_either m_either

    pub minus_both : tree X (s ++ (45 ∷ (t ++ (38 ∷ u)))) ≡ Policy.mixes Mix.both (Policy.mixes Mix.minus a b) c
    minus_both = mix_mix m_minus m_both

  -- `!a&b`, with an atom a
  pub negates_both : {d : ℕ} {s t : List ℕ} {a b : Policy} → d < 32 → Atom X d s a → Starred X 32 t b
      → tree X (33 ∷ (s ++ (38 ∷ t))) ≡ Policy.mixes Mix.both (Policy.negates a) b
  negates_both h A B = tree_is laws _ _ (u_one (t_mix m_both (t_one (p_one (s_atom (a_neg h A)))) (p_one B)))
