-- An accepted `new` leaves memories that match the plain store as `new` begins it: from what it declines, and its counts.
use mathlib.Core.Path.{◌≡◌, refl, sym, subst}
use mathlib.Core.Bool.{Bool, true, false}
use Prim.Native.Nat.{ℕ, ◌≤◌}
use lib.ListN.{length}
use lib.Dec.{leb, T, leb→le}
use Rattle.model.specs.Images.{blank, new}
use Rattle.model.specs.Places.{fits_places}
use Rattle.model.specs.Programs.{Ran, run}
use Rattle.model.specs.Store.{Kind, set, rel, pick}
use Rattle.model.proofs.Bools.{and_T, by_test}
use Rattle.model.proofs.New.{new_does}
use Rattle.store.specs.Calls.{new_store, step}
use Rattle.call_rules.specs.OnMemories.{set_places, rel_places, are_heads, new_step}
use Rattle.theorems.specs.Lists.{Matches}
use Rattle.theorems.specs.PlainStore.{begun}
use Rattle.store_check.specs.Memory.{Memories, memory, head, encode}
use Rattle.call_rules.specs.Outcome.{runs, unless_declined, as_handle, guard, Outcome, outcome, finishes}
use Rattle.std.specs.Prelude.{Result, Ok, Err}
use Rattle.call_rules.specs.declared.Answer.{Answer}
use Rattle.call_rules.specs.declared.Refusal.{Refusal}
use Rattle.call_rules.specs.declared.Answer.TheVariants.{Handle}
use Rattle.call_rules.specs.declared.Refusal.TheVariants.{NotStore, OutOfRange, UsedUp}
use Rattle.theorems.proofs.Matching.{matches_written}
use Rattle.theorems.proofs.OneCall.{not_handle, fits_space}

heads_there : (M : Memories) → are_heads M ≡ true → (K : Kind) → head K ≤ length (memory K M)
heads_there M e =
    let u = and_T (leb (head rel) (length M.relations)) (leb (head set) (length M.sets)) (subst T (sym e) tt) in
    elim [ set ↦ leb→le (head set) (length M.sets) u.1 | rel ↦ leb→le (head rel) (length M.relations) u.0 ]

module _ (k : ℕ) (M : Memories) (h : ℕ) where
  abbrev made : Ran
  made = run (new k) blank

  abbrev Begins : Outcome (Result Answer Refusal) Memories → Type 0
  Begins t = t.answer ≡ Ok (Handle h) → (t.answer ≡ Ok (Handle made.value)) × Matches M t.state (begun k)

  accepted : (b c : Bool) → leb k 32 ≡ b → are_heads M ≡ c
      → Begins (finishes (Err UsedUp) (set_places M) (rel_places M)
      (unless_declined Err (guard OutOfRange b (guard NotStore c (Ok k))) (λ k. runs (new k) as_handle)) blank M (λ S. encode k S M))
  unfolding finishes guard
  accepted false c few there = λ e. absurd (not_handle e)
  accepted true false few there = λ e. absurd (not_handle e)
  accepted true true few there = by_test (λ b. Begins (pick b (outcome (Ok (Handle made.value)) (encode k made.store M)) (outcome (Err UsedUp) M)))
      (fits_places (set_places M) (rel_places M) made.store)
      (λ t e. (refl, matches_written (new_does k).after.formed (fits_space (heads_there M there) t) (leb→le k 32 (subst T (sym few) tt))))
      (λ t e. absurd (not_handle e))

  pub new_matches : Begins (step (new_store k) M)
  unfolding step new_step
  new_matches = accepted (leb k 32) (are_heads M) refl refl
