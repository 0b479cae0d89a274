-- The theorem about a list of calls, from the law for one call: document 01, "A list of calls, and its count".
use mathlib.Core.Path.{◌≡◌, refl, sym, ◌∙◌, subst, subst₂}
use mathlib.Core.List.{List}
use Prim.Native.Nat.{ℕ}
use Rattle.model.proofs.Extends.{lasts_same, lasts_then}
use Rattle.store.specs.Calls.{Call, new_store, step}
use Rattle.call_rules.specs.OnMemories.{set_places, rel_places}
use Rattle.theorems.specs.Lists.{Listed, Calling, answer_of, left_by, steps, plain_steps, AllContinue, Matches}
use Rattle.theorems.specs.Lists.{HandlesLast, ContinuesTo, CallRight, ListRight, store_calls}
use Rattle.theorems.specs.PlainStore.{Plain}
use Rattle.store_check.specs.Memory.{Memories, decode}
use Rattle.call_rules.specs.Outcome.{Outcome}
use Rattle.call_rules.specs.declared.Answer.TheVariants.{Handle}
use Rattle.std.specs.Prelude.{Ok}
use Rattle.theorems.proofs.InTurn.{turn_parted, each_later, turn_answers, turn_kept, turn_continues}
use Rattle.theorems.proofs.NewMatches.{new_matches}
use Rattle.theorems.proofs.OneCall.{call_right}

-- handles that last, from plain store to plain store
continues_none : (P : Plain) → ContinuesTo P P
continues_none P = record { width = refl; handles = λ K l h A. lasts_same A }

continues_then : (P Q R : Plain) → ContinuesTo P Q → ContinuesTo Q R → ContinuesTo P R
continues_then P Q R f g = record { width = g.width ∙ f.width; handles = λ K l h A. let u = f.handles K l h A in lasts_then u (g.handles K l h u.held) }

-- calls for which the law for one call holds
module _ {C A : Type 0} (Z : Calling C A) (right : (M₀ M : Memories) (P : Plain) → Matches M₀ M P → (c : C) → CallRight Z M₀ M P c) where
  -- a list on memories M that match a plain store P
  module _ (M₀ : Memories) where
    abbrev on : C → Memories → Outcome A Memories
    on = Z.on_memories

    abbrev plainly : C → Plain → Outcome A Plain
    plainly = Z.on_plain (set_places M₀) (rel_places M₀)

    kept : (c : C) (M : Memories) (P : Plain) → Matches M₀ M P
        → (answer_of on c M ≡ answer_of plainly c P) × Matches M₀ (left_by on c M) (left_by plainly c P)
    kept c M P m = let t = (right M₀ M P m c).alike in (t.answer, t.matches)

    module _ (cs : List C) {M : Memories} {P : Plain} (m : Matches M₀ M P) where
      abbrev ended : Listed A Plain
      ended = plain_steps Z (set_places M₀) (rel_places M₀) cs P

      list_answers : (steps Z cs M).answers ≡ ended.answers
      list_answers = turn_answers (answer_of on) (left_by on) (answer_of plainly) (left_by plainly) (Matches M₀) kept cs M P m

      list_matches : Matches M₀ (steps Z cs M).state ended.state
      list_matches = turn_kept (answer_of on) (left_by on) (answer_of plainly) (left_by plainly) (Matches M₀) kept cs M P m

      list_continues : AllContinue Z cs M → ContinuesTo P ended.state
      list_continues r = turn_continues (answer_of on) (left_by on) (answer_of plainly) (left_by plainly) (Matches M₀) kept Z.Continues ContinuesTo
          continues_none continues_then
          (λ c M P m. (right M₀ M P m c).continues) cs M P m r

      list_lasts : AllContinue Z cs M → HandlesLast (decode M) (decode (steps Z cs M).state)
      list_lasts r = subst₂ HandlesLast (sym m.lists) (sym list_matches.lists) (list_continues r).handles

  -- THE THEOREM: after an accepted `new`, whatever the memories were before it and whatever the calls
  pub lists_right : (k : ℕ) (M₀ : Memories) (h : ℕ) → (step (new_store k) M₀).answer ≡ Ok (Handle h) → (cs : List C) → ListRight Z k M₀ cs
  lists_right k M₀ h e cs =
      let t = new_matches k M₀ h e in
      let m = t.1 in
      let M = (step (new_store k) M₀).state in record {
        new_answer = t.0;
        answers = list_answers M₀ cs m;
        matches = list_matches M₀ cs m;
        width = λ r. (list_matches M₀ cs m).width ∙ (list_continues M₀ cs m r).width;
        lasts = λ r before later q. let S = decode (steps Z before M).state in
            subst (λ cs. HandlesLast S (decode (steps Z cs M).state)) (sym q)
            (subst (λ X. HandlesLast S (decode X)) (sym (turn_parted (answer_of Z.on_memories) (left_by Z.on_memories) before later M))
            (list_lasts M₀ later (list_matches M₀ before m)
            (each_later (answer_of Z.on_memories) (left_by Z.on_memories) Z.Continues before later M (subst (λ cs. AllContinue Z cs M) q r))));
      }

-- for the calls of `store`
pub list_right : (k : ℕ) (M₀ : Memories) (h : ℕ) → (step (new_store k) M₀).answer ≡ Ok (Handle h) → (cs : List Call) → ListRight store_calls k M₀ cs
list_right = lists_right store_calls (λ M₀ M P m c. call_right m c)
