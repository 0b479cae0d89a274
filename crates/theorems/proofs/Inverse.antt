-- `bwd` after `ibwd` gives the set again: from what the two calls mean, and canonicity. The other way round it need not.
use mathlib.Core.Path.{◌≡◌, refl, sym, ap, ◌∙◌, subst}
use mathlib.Core.Bool.{true}
use mathlib.Core.Logic.Iff
use Prim.Native.Nat.{ℕ, ◌≤◌}
use Rattle.model.specs.Meaning.{Den, Relates, Domain}
use Rattle.model.specs.Packets.{contains, relates}
use Rattle.model.specs.Store.{set, rel, Store}
use Rattle.model.specs.WellFormed.{Held, WellFormed, Extends, is_held, level_of}
use Rattle.model.proofs.Bools.{by_test}
use Rattle.model.proofs.Canonical.{canonical↔}
use Rattle.model.proofs.Extends.{ext_trans, ext_held, ext_walk}
use Rattle.model.proofs.Levels.{level_is}
use Rattle.store.specs.Calls.{image_call, filter_call, step}
use Rattle.store.specs.ImageCalls.{filter_program, filter_verdict}
use Rattle.store.specs.ImageMeanings.{image_meaning, filter_meaning}
use Rattle.store_check.specs.Memory.{Memories, fields, decode}
use Rattle.store_check.specs.Valid.{IsStore}
use Rattle.call_rules.specs.declared.Answer.TheVariants.{Handle}
use Rattle.std.specs.Prelude.{Ok, Err}
use Rattle.call_rules.specs.declared.Refusal.TheVariants.{NotHeld}
use Rattle.store.specs.declared.image_calls.ImageCall.TheVariants.{Bwd}
use Rattle.store.specs.declared.filter_calls.FilterCall.TheVariants.{Ibwd}
use Rattle.theorems.specs.AllCalls.{effect}
use Rattle.theorems.proofs.AnyStore.{step_store, step_fields, step_extends}
use Rattle.call_rules.proofs.Handles.{held_here, one_none}
use Rattle.theorems.proofs.ImageMeans.{image_call_means, filter_call_means}
use Rattle.store.proofs.ImageSteps.{filter_steps}
use Rattle.theorems.proofs.OneCall.{not_handle}
use Rattle.call_rules.specs.Outcome.{runs, unless_declined, as_handle}
use Rattle.call_rules.proofs.Outcomes.{given}

-- the domain of what leads from a set to everything is the set
domain_of : {l : ℕ} {S S₁ S₂ : Store} {p r h : ℕ} {k : ℕ} → WellFormed k S₂ → Extends S S₂ → Held set S l p → Relates l (λ x y. contains S p x) S₁ r
    → Den set l (Domain l (relates S₁ r)) S₂ h → h ≡ p
domain_of {l} {S} {S₁} {S₂} {p} {r} {h} F E P A B = canonical↔ set l h p F B.held (ext_held E set l p P) (λ x X. Iff.trans (B.means x X) (
  λ d. ext_walk E p P X ∙ (A.means x d.0 X d.1).0 d.2,
  λ c. (x, X, (A.means x x X X).1 (sym (ext_walk E p P X) ∙ c)),
))

module _ (M : Memories) (p r : ℕ) (s : IsStore M) (e : (step (filter_call (Ibwd p)) M).answer ≡ Ok (Handle r)) where
  abbrev M₁ : Memories
  M₁ = (step (filter_call (Ibwd p)) M).state

  held_operand : is_held set (decode M) p ≡ true
  held_operand = by_test (λ b. is_held set (decode M) p ≡ b → is_held set (decode M) p ≡ true) (is_held set (decode M) p) (λ _ t. t)
      (λ _ f. absurd (not_handle (ap (λ t. t.answer) (given Err (filter_verdict (Ibwd p)) M s (Err NotHeld)
      (ap (λ c. unless_declined Err c (λ l. runs (filter_program l (Ibwd p)) as_handle)) (one_none set s.formed p f))
      ∙ sym (filter_steps (Ibwd p) M)) ∙ e))) refl

  pub bwd_after_ibwd : (h : ℕ) → (step (image_call (Bwd r)) M₁).answer ≡ Ok (Handle h) → h ≡ p
  unfolding image_meaning filter_meaning effect
  bwd_after_ibwd h f =
      let t = held_here set s.formed p held_operand in
      let l = level_of (fields M) set (decode M) p in
      let s₁ = step_store s (filter_call (Ibwd p)) in
      let A : Relates l (λ x y. contains (decode M) p x) (decode M₁) r = filter_call_means (Ibwd p) M r s e in
      let q : level_of (fields M₁) rel (decode M₁) r ≡ l
      = level_is rel (decode M₁) (fields M₁) l r (subst (λ k. l ≤ k) (sym (step_fields s (filter_call (Ibwd p)) refl)) t.0) A.held in
      domain_of (step_store s₁ (image_call (Bwd r))).formed
      (ext_trans (step_extends s (filter_call (Ibwd p)) refl) (step_extends s₁ (image_call (Bwd r)) refl))
      t.1 A (subst (λ l. Den set l (Domain l (relates (decode M₁) r)) (decode (step (image_call (Bwd r)) M₁).state) h) q
      (image_call_means (Bwd r) M₁ h s₁ f))
