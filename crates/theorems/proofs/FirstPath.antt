-- `first_path` gives none exactly where `has_path` on the same operands and memories says no, and declines what it declines: from what both mean.
use mathlib.Core.Path.{◌≡◌, refl, sym, ap, ◌∙◌, subst}
use mathlib.Core.Logic.Iff
use mathlib.Core.Logic.{◌↔◌}
use mathlib.Core.List.{List}
use mathlib.Core.Option.{Option, none, some}
use mathlib.Core.Bool.{Bool, true, false}
use Prim.Native.Nat.{ℕ}
use native.Mathlib.Omega.{arith}
use lib.Dec.{T}
use Rattle.model.specs.FirstPair.{first_path, passes_through, Through}
use Rattle.model.specs.Meaning.{Rel, Some}
use Rattle.model.specs.Store.{set}
use Rattle.model.proofs.Bools.{by_test, no_true, one_iff}
use Rattle.model.proofs.FirstPair.{PairFinds, pair_finds, through_iff}
use Rattle.model.proofs.Pairs.{relates_own}
use Rattle.model.proofs.Rules.{own}
use Rattle.model.proofs.YesNo.{has_path_does}
use Rattle.store_check.specs.Memory.{Memories, fields, decode}
use Rattle.store_check.specs.Valid.{is_store, IsStore}
use Rattle.store_check.proofs.Decide.{store_says}
use Rattle.call_rules.specs.Outcome.{gives, of_path, unless_declined, finishes}
use Rattle.call_rules.specs.declared.Answer.{Answer}
use Rattle.std.specs.Prelude.{Result, Ok, Err}
use Rattle.call_rules.specs.declared.Answer.TheVariants.{Truth}
use Rattle.call_rules.specs.Outcome.{Check}
use Rattle.call_rules.specs.declared.Refusal.{Refusal}
use Rattle.call_rules.specs.declared.Refusal.TheVariants.{NotStore}
use Rattle.call_rules.proofs.Declining.{path_passed}
use Rattle.call_rules.proofs.Outcomes.{ended, not_store, store_outcome}
use Rattle.store.specs.Calls.{path_read, step}
use Rattle.store.specs.ImageCalls.{as_pair, path_answer, path_verdict}
use Rattle.store.specs.declared.path_reads.PathRead.{PathRead}
use Rattle.store.specs.declared.path_reads.PathRead.TheVariants.{HasPath, FirstPath}
use Rattle.store.proofs.ImageSteps.{path_steps}
use Rattle.theorems.specs.FirstPath.{AnswersAlike, AsHasPath}

-- two answers of one shape or of none
differ : {a b c d : Result Answer Refusal} → ¬ (a ≡ c) → ¬ (b ≡ d) → (a ≡ c) ↔ (b ≡ d)
differ m n = (λ e. absurd (m e), λ e. absurd (n e))

both_refused : (r : Refusal) → AnswersAlike (Err r) (Err r)
both_refused r = record {
  none = differ (λ e. let z : ◌≡◌ {A = ℕ} 0 1 = cc in let y : ⊥ = omega arith in y) (λ e. let z : ◌≡◌ {A = ℕ} 0 1 = cc in let y : ⊥ = omega arith in y);
  refused = λ q. (λ e. e, λ e. e);
}

-- a pair is found where the answer is yes
found_alike : (l : ℕ) (R : Rel) (o : Option (List ℕ)) (b : Bool) → PairFinds l R o → (b ≡ true) ↔ Some l (λ x. Some l (λ y. R x y))
    → AnswersAlike (Ok (as_pair l o)) (Ok (Truth b))
found_alike l R none true n e = absurd (n (e.0 refl))
found_alike l R none false n e = record {
  none = (λ _. refl, λ _. refl);
  refused = λ r.
      differ (λ e. let z : ◌≡◌ {A = ℕ} 0 1 = cc in let y : ⊥ = omega arith in y) (λ e. let z : ◌≡◌ {A = ℕ} 0 1 = cc in let y : ⊥ = omega arith in y);
}
found_alike l R (some z) true A e = record {
  none = differ (λ e. let z : ◌≡◌ {A = ℕ} 0 1 = cc in let y : ⊥ = omega arith in y) (λ e. let z : ◌≡◌ {A = ℕ} 0 1 = cc in let y : ⊥ = omega arith in y);
  refused = λ r.
      differ (λ e. let z : ◌≡◌ {A = ℕ} 0 1 = cc in let y : ⊥ = omega arith in y) (λ e. let z : ◌≡◌ {A = ℕ} 0 1 = cc in let y : ⊥ = omega arith in y);
}
found_alike l R (some z) false A e = absurd (no_true refl (e.1 (_, A.input, (_, A.output, A.related))))

module _ (p a q : ℕ) (M : Memories) where
  -- both are declined where the memories are no store
  no_store : is_store M ≡ false → (c : PathRead) → Err NotStore ≡ (step (path_read c) M).answer
  no_store e c = ap (λ t. t.answer) (not_store Err (path_verdict c) M e ∙ sym (path_steps c M))

  module _ (s : IsStore M) where
    on_store_alike : (c : Check) → of_path (fields M) (decode M) p a q ≡ c
        → AnswersAlike (ended Err M (unless_declined Err c (λ l. gives (Ok (path_answer (decode M) l (FirstPath p a q)))))).answer
        (ended Err M (unless_declined Err c (λ l. gives (Ok (path_answer (decode M) l (HasPath p a q)))))).answer
    unfolding finishes
    on_store_alike (Err r) e = both_refused r
    on_store_alike (Ok l) e =
        let S = decode M in
        let F = s.formed in
        let t = path_passed F p a q e in
        found_alike l (Through S p a q) (first_path l S p a q) _
        (pair_finds l (Through S p a q) (passes_through S p a q) (λ x y X Y. through_iff S p a q x y))
        (Iff.trans (one_iff _) (has_path_does l p a q F t.1.low (own set S l p t.0.held) (relates_own S l a t.1.held)
        (own set S l q t.2.held)).after.post.means)

    has_verdict : (c : PathRead) → (ended Err M (path_verdict c (fields M) (decode M))).answer ≡ (step (path_read c) M).answer
    has_verdict c = ap (λ t. t.answer) (sym (store_outcome Err (path_verdict c) M s _ refl) ∙ sym (path_steps c M))

    on_store : AsHasPath M p a q
    on_store = subst (λ x. AnswersAlike x (step (path_read (HasPath p a q)) M).answer) (has_verdict (FirstPath p a q))
        (subst (AnswersAlike (ended Err M (path_verdict (FirstPath p a q) (fields M) (decode M))).answer) (has_verdict (HasPath p a q))
        (on_store_alike (of_path (fields M) (decode M) p a q) refl))

  pub as_has_path : AsHasPath M p a q
  as_has_path = by_test (λ b. is_store M ≡ b → AsHasPath M p a q) (is_store M)
      (λ _ e. on_store ((store_says M).iff.0 (subst T (sym e) tt)))
      (λ _ e. subst (λ x. AnswersAlike x (step (path_read (HasPath p a q)) M).answer) (no_store e (FirstPath p a q))
      (subst (AnswersAlike (Err NotStore)) (no_store e (HasPath p a q)) (both_refused NotStore)))
      refl
