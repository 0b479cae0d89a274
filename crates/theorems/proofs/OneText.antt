-- A policy call by itself, on any memories whatever: the handle of an accepted text relates exactly the text's pairs. From what
-- the text's program builds.
use mathlib.Core.Path.{◌≡◌, refl, sym, ap, ◌∙◌, subst}
use mathlib.Core.List.{List}
use Prim.Native.Nat.{ℕ}
use lib.Dec.{T}
use Rattle.model.specs.Meaning.{Relates, Same}
use Rattle.model.specs.Policies.{Policy, meaning}
use Rattle.model.specs.Programs.{Prog, Ran, run}
use Rattle.model.specs.Store.{Store as Nodes}
use Rattle.model.specs.WellFormed.{WellFormed}
use Rattle.model.proofs.Bools.{by_test}
use Rattle.model.proofs.Pairs.{relates_iff}
use Rattle.model.proofs.Policies.{policy_does}
use Rattle.model.proofs.Rules.{Does}
use Rattle.store_check.specs.Memory.{Memories, fields, decode, encode}
use Rattle.store_check.specs.Valid.{IsStore, is_store}
use Rattle.store_check.proofs.Decide.{store_says}
use Rattle.call_rules.specs.OnMemories.{set_places, rel_places}
use Rattle.call_rules.proofs.Encoding.{decode_encode}
use Rattle.policy_text.specs.Grammar.{Sum}
use Rattle.policy_text.specs.XForms.{x_forms}
use Rattle.policy_text.proofs.XLaws.{x_lawful}
use Rattle.policy_text.proofs.Says.{tree_is}
use Rattle.theorems.specs.AllCalls.{policy_of, text_relates}
use Rattle.theorems.specs.OneText.{TextRight}
use Rattle.policies.specs.Outcome.{refused, text_verdict, policy_step}
use Rattle.policies.specs.Answers.{PolicyAnswer}
use Rattle.std.specs.Prelude.{Ok}
use Rattle.call_rules.proofs.Outcomes.{ended, store_outcome}
use Rattle.policies.specs.Declining.{policy_no_store}
use Rattle.theorems.proofs.KeptTexts.{not_handle, accepted_ran, text_none, KeptText, builds_kept}

-- a text has one policy, so what it relates is what that policy means
pub tree_relates : (k : ℕ) (t : List ℕ) (x : Policy) → Sum x_forms 32 t x → Same k (meaning k x) (text_relates k t)
tree_relates k t x s p q P Q = (λ r. (x, s, r), λ r. subst (λ y. meaning k y p q) (sym (tree_is x_lawful t r.0 r.1) ∙ tree_is x_lawful t x s) r.2)

-- what the program of a text that keeps the rules leaves
pub kept_does : {k : ℕ} {t : List ℕ} {S : Nodes} {p : Prog} {f : Ran → PolicyAnswer} → WellFormed k S → (K : KeptText k t S p f)
    → Does k S p (Relates k (meaning k (policy_of K.keeps)))
kept_does {k} {S = S} F K =
    subst (λ p. Does k S p (Relates k (meaning k (policy_of K.keeps)))) K.program (policy_does (policy_of K.keeps) K.keeps.rules.below F)

-- only a store accepts a text
accepted_store : (t : List ℕ) (M : Memories) (h : ℕ) → (policy_step t M).answer ≡ Ok h → IsStore M
accepted_store t M h e = by_test (λ b. is_store M ≡ b → IsStore M) (is_store M)
    (λ _ s. (store_says M).iff.0 (subst T (sym s) tt))
    (λ _ s. absurd (not_handle (ap (λ u. u.answer) (policy_no_store t M s) ∙ e))) refl

handles : {g h : ℕ} → ◌≡◌ {A = PolicyAnswer} (Ok g) (Ok h) → g ≡ h
handles e = cc e

-- THE THEOREM
pub text_right : (t : List ℕ) (M : Memories) (h : ℕ) → (policy_step t M).answer ≡ Ok h → TextRight t M h
unfolding policy_step
text_right t M h e =
    let k = fields M in
    let s = accepted_store t M h e in
    let v = text_verdict t k (decode M) in
    let j : policy_step t M ≡ ended refused M v = store_outcome refused (text_verdict t) M s v refl in
    let R = accepted_ran (set_places M) (rel_places M) (decode M) M (λ S. encode k S M) h v (text_none k t (decode M)) (ap (λ u. u.answer) (sym j) ∙ e) in
    let K = builds_kept k t (decode M) R.program R.made R.verdict in
    let g : (run R.program (decode M)).value ≡ h = handles (sym (K.made (run R.program (decode M))) ∙ R.answer) in
    let A = (kept_does s.formed K).after in
    let at : decode (policy_step t M).state ≡ (run R.program (decode M)).store
    = ap (λ u. decode u.state) j ∙ ap decode R.state ∙ decode_encode M k A.formed in record {
      store = s;
      keeps = K.keeps;
      relates = subst (λ S. Relates k (text_relates k t) S h) (sym at) (subst (Relates k (text_relates k t) (run R.program (decode M)).store) g
          (relates_iff (tree_relates k t (policy_of K.keeps) K.keeps.rules.follows) A.post));
    }
