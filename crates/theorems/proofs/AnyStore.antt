-- One call on any store whatever leaves a store with as many fields, and its nodes are only added to: from the law for one call.
use mathlib.Core.Path.{◌≡◌, refl, sym, ap, ◌∙◌, subst}
use Prim.Native.Nat.{ℕ}
use native.Mathlib.Omega.{arith}
use Rattle.model.specs.Store.{set, rel}
use Rattle.model.specs.WellFormed.{Extends}
use Rattle.store.specs.Calls.{Call, step}
use Rattle.theorems.specs.AllCalls.{call, begins, adds, effect}
use Rattle.theorems.specs.Lists.{NewRefused, Matches}
use Rattle.theorems.specs.PlainStore.{plain_store}
use Rattle.store_check.specs.Memory.{Memories, memories, fields, decode, encode}
use Rattle.store_check.specs.Valid.{IsStore}
use Rattle.theorems.proofs.OneCall.{call_right, call_grown}
use Rattle.call_rules.proofs.Outcomes.{same_memory}

-- a store matches the plain store that it holds
pub matches_own : {M : Memories} → IsStore M → Matches M M (plain_store (fields M) (decode M))
unfolding encode decode
matches_own {M} s = record {
  store = s;
  long = λ K. refl;
  places = λ K. refl;
  width = refl;
  lists = refl;
  written = sym (λ i. memories (same_memory rel M.relations (s.room rel) i) (same_memory set M.sets (s.room set) i));
}

module _ {M : Memories} (s : IsStore M) (c : Call) where
  pub step_store : IsStore (step c M).state
  step_store = (call_right (matches_own s) c).alike.matches.store

  module _ (a : effect (call c) ≡ adds) where
    r : NewRefused c M
    unfolding effect
    r k e = absurd (not_begins (sym a ∙ ap (λ x. effect (call x)) e))
      where
        not_begins : ¬ (adds ≡ begins)
        not_begins z = let y : ◌≡◌ {A = ℕ} 0 1 = cc z in omega arith

    pub step_fields : fields (step c M).state ≡ fields M
    step_fields = (call_right (matches_own s) c).alike.matches.width ∙ (call_grown (matches_own s) c r).width

    pub step_extends : Extends (decode M) (decode (step c M).state)
    step_extends = subst (Extends (decode M)) (sym (call_right (matches_own s) c).alike.matches.lists) (call_grown (matches_own s) c r).lists
