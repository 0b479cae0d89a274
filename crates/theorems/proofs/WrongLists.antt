-- Two wrong versions of the claim about lists, refuted: a plain store that keeps the nodes of a call that gets 6, and handles that last
-- though a `new` is accepted.
use mathlib.Core.Path.{◌≡◌, refl, sym, ap, ◌∙◌}
use mathlib.Core.List.{List, [], ◌∷◌, ◌++◌}
use Prim.Native.Nat.{ℕ, ◌+◌, ◌*◌, ◌<◌}
use native.Mathlib.Omega.{arith}
use lib.Dec.{T}
use lib.ListN.{replicate}
use Rattle.model.specs.Images.{new}
use Rattle.model.specs.Operations.{constant, identity_at_depth, raise, test}
use Rattle.model.specs.Places.{fits_places}
use Rattle.model.specs.Programs.{Prog, run}
use Rattle.model.specs.Store.{set, rel, arity, Store, child, pick, get, place, having, mk_store, mk_handle}
use Rattle.model.specs.WellFormed.{Held}
use Rattle.model.proofs.Bools.{by_test, on-bits}
use Rattle.model.proofs.Bounded.{fits_places_iff}
use Rattle.store.specs.Calls.{Call, new_store, set_call, step}
use Rattle.call_rules.specs.OnMemories.{set_places, rel_places, new_step}
use Rattle.theorems.specs.Lists.{in_turn, plain_steps, Matches, HandlesLast, store_calls, after_new}
use Rattle.theorems.specs.PlainStore.{Plain, plain_store, asked, on_lists, plain_step, begun}
use Rattle.store_check.specs.Memory.{Memories, memories, head, decode}
use Rattle.call_rules.specs.Outcome.{Verdict, runs, as_handle, guard, outcome, finishes}
use Rattle.call_rules.specs.declared.Answer.{Answer}
use Rattle.std.specs.Prelude.{Result, Ok, Err}
use Rattle.call_rules.specs.declared.Refusal.{Refusal}
use Rattle.call_rules.specs.declared.Answer.TheVariants.{Handle}
use Rattle.call_rules.specs.declared.Refusal.TheVariants.{UsedUp}
use Rattle.store.specs.declared.set_calls.SetCall.TheVariants.{Test}
use Rattle.theorems.proofs.Lists.{list_right}
use Rattle.theorems.proofs.Matching.{matches_space}
use Rattle.theorems.proofs.OneCall.{not_handle}

-- 01, "Plausible and wrong": "Keeping nodes of a call that ended in 6". The lists with that call's nodes match no memories
pub kept_nodes : {M₀ M : Memories} (P : Plain) (v : ℕ → Store → Verdict (Result Answer Refusal)) (p : Prog) → v P.width P.lists ≡ runs p as_handle
    → (on_lists Err (set_places M₀) (rel_places M₀) v P).answer ≡ Err UsedUp → ¬ Matches M₀ M (plain_store P.width (run p P.lists).store)
unfolding on_lists finishes
kept_nodes {M₀} {M} P v p e q A =
    let m = set_places M₀ in
    let n = rel_places M₀ in
    let S = (run p P.lists).store in
    let t : T (fits_places m n S) = (fits_places_iff m n S).1 ((matches_space A).within set, (matches_space A).within rel) in
    by_test (λ b. T b → (pick b (outcome (Ok (Handle (run p P.lists).value)) (plain_store P.width S)) (outcome (Err UsedUp) P)).answer ≡ Err
    UsedUp → ⊥)
    (fits_places m n S) (λ _ _ q. not_handle (sym q)) (λ _ t q. t) t
    (ap (λ u. (finishes (Err UsedUp) m n u P.lists P (plain_store P.width)).answer) (sym e) ∙ q)

-- LASTING HANDLES. In a store of one field, a test of it and then another `new`: the test's handle 4 is held, and then not;
-- three places for relations and two for sets suffice
abbrev lent : Memories
lent = memories (replicate (head rel + arity rel * 3) 0) (replicate (head set + arity set * 2) 0)

abbrev tested : List Call
tested = set_call (Test 0 1) ∷ []

abbrev renewed : List Call
renewed = new_store 1 ∷ []

accepted : (step (new_store 1) lent).answer ≡ Ok (Handle 4)
unfolding step new_step finishes guard run new constant identity_at_depth get place having mk_store mk_handle
accepted = refl

sets_tested : (plain_steps store_calls 2 3 tested (begun 1)).state.lists.sets ≡ (0 ∷ 0 ∷ []) ∷ (0 ∷ 1 ∷ []) ∷ []
unfolding in_turn plain_step asked on_lists finishes guard run new constant identity_at_depth raise test get place having mk_store mk_handle
sets_tested = refl

sets_renewed : (plain_steps store_calls 2 3 (tested ++ renewed) (begun 1)).state.lists.sets ≡ (0 ∷ 0 ∷ []) ∷ []
unfolding in_turn plain_step asked on_lists finishes guard run new constant identity_at_depth raise test get place having mk_store mk_handle
sets_renewed = refl

held_then : (S : Store) → S.sets ≡ (0 ∷ 0 ∷ []) ∷ (0 ∷ 1 ∷ []) ∷ [] → Held set S 1 4
unfolding get
held_then S e = record {
  big = omega arith;
  there = rw e (omega arith);
  below = on-bits (λ d. child set S 4 d < 2) (rw e (omega arith)) (rw e (omega arith));
}

held_no_more : (S : Store) → S.sets ≡ (0 ∷ 0 ∷ []) ∷ [] → ¬ Held set S 1 4
held_no_more S e A = let h = rw e at A.there in omega arith

pub renewed_forgets : ¬ HandlesLast (decode (after_new store_calls 1 lent tested).state) (decode (after_new store_calls 1 lent (tested ++ renewed)).state)
renewed_forgets L =
    let right = list_right 1 lent 4 accepted in
    held_no_more _ (ap (λ S. S.sets) (right (tested ++ renewed)).matches.lists ∙ sets_renewed)
    (L set 1 4 (held_then _ (ap (λ S. S.sets) (right tested).matches.lists ∙ sets_tested))).held
