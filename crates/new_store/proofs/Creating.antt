-- What `new` declines, and the outcome of a `new` that is not declined.
use mathlib.Core.Path.{◌≡◌, refl, sym, ap, ◌∙◌, subst}
use mathlib.Core.List.{List}
use mathlib.Core.Bool.{true, false, ◌&&◌}
use Prim.Native.Nat.{ℕ, ◌*◌, ◌<◌, ◌≤◌}
use native.Mathlib.Omega.{arith}
use lib.ListN.{length}
use lib.Dec.{leb}
use borrow.Author.Tests.{le-leb, lt-leb}
use Rattle.model.specs.Store.{set, rel, Store, pick}
use Rattle.model.specs.Programs.{run}
use Rattle.model.specs.Places.{fits_places}
use Rattle.model.specs.Images.{blank, new}
use Rattle.model.specs.NewNodes.{level_handle, new_sets, new_relations}
use Rattle.model.proofs.New.{new_is, new_counts}
use Rattle.store_check.specs.Memory.{Memories, memories, head_of, head, write, encode}
use Rattle.call_rules.specs.OnMemories.{set_places, rel_places, are_heads, new_declines, new_step}
use Rattle.call_rules.specs.Outcome.{Check, runs, unless_declined, as_handle, guard, outcome, finishes}
use Rattle.std.specs.Prelude.{Ok, Err}
use Rattle.call_rules.specs.declared.Answer.TheVariants.{Handle}
use Rattle.call_rules.specs.declared.Refusal.TheVariants.{NotStore, OutOfRange, UsedUp}
use Rattle.call_rules.proofs.Handles.{guard_yes, guard_no}
use Rattle.call_rules.proofs.Outcomes.{and_false}
use Rattle.new_store.specs.Creating.{places_for, NewChecked}
use Rattle.new_store.proofs.Writing.{places_by}

-- WHAT IT DECLINES
module _ (k : ℕ) (M : Memories) where
  abbrev made : Store
  made = (run (new k) blank).store

  by_check : (c : Check) → new_declines k M ≡ c
      → new_step k M ≡ finishes (Err UsedUp) (set_places M) (rel_places M) (unless_declined Err c (λ k. runs (new k) as_handle)) blank M
      (λ S. encode k S M)
  unfolding new_step
  by_check c e = ap (λ c. finishes (Err UsedUp) (set_places M) (rel_places M) (unless_declined Err c (λ k. runs (new k) as_handle)) blank M
      (λ S. encode k S M)) e

  pub new_range : 32 < k → outcome (Err OutOfRange) M ≡ new_step k M
  unfolding finishes
  new_range h = sym (by_check _ (guard_no _ _ _ (lt-leb k 32 h)))

  module _ (few : k ≤ 32) where
    enough : new_declines k M ≡ guard NotStore (are_heads M) (Ok k)
    enough = guard_yes _ _ _ (le-leb k 32 few)

    pub new_short : are_heads M ≡ false → outcome (Err NotStore) M ≡ new_step k M
    unfolding finishes
    new_short h = sym (by_check _ (enough ∙ guard_no _ _ _ h))

    module _ (h : are_heads M ≡ true) where
      runs_new : new_step k M
          ≡ pick (fits_places (set_places M) (rel_places M) made) (outcome (Ok (Handle (run (new k) blank).value)) (encode k made M)) (outcome (Err UsedUp) M)
      unfolding finishes
      runs_new = by_check _ (enough ∙ guard_yes _ _ _ h)

      fits_is : fits_places (set_places M) (rel_places M) made ≡ (leb k (set_places M) && leb (3 * k) (rel_places M))
      fits_is = let c = new_counts k in (λ i. leb (c.1 i) (set_places M) && leb (c.0 i) (rel_places M))

      pub new_full : (leb k (set_places M) && leb (3 * k) (rel_places M)) ≡ false → outcome (Err UsedUp) M ≡ new_step k M
      new_full f = sym (runs_new ∙ ap (λ b. pick b (outcome (Ok (Handle (run (new k) blank).value)) (encode k made M)) (outcome (Err UsedUp) M)) (fits_is ∙ f))

      pub new_fits : (leb k (set_places M) && leb (3 * k) (rel_places M)) ≡ true
          → outcome (Ok (Handle (run (new k) blank).value)) (encode k made M) ≡ new_step k M
      new_fits f = sym (runs_new ∙ ap (λ b. pick b (outcome (Ok (Handle (run (new k) blank).value)) (encode k made M)) (outcome (Err UsedUp) M)) (fits_is ∙ f))

-- the same by the lengths a and b of the memories, p places for relations and q for sets
module _ (k a b : ℕ) (M : Memories) (ea : length M.relations ≡ a) (eb : length M.sets ≡ b) (few : k ≤ 32) where
  pub short_relations : a < head rel → outcome (Err NotStore) M ≡ new_step k M
  short_relations h = new_short k M few (rw (lt-leb (head rel) (length M.relations) (subst (λ n. n < head rel) (sym ea) h)))

  pub short_sets : b < head set → outcome (Err NotStore) M ≡ new_step k M
  short_sets h = new_short k M few (and_false (leb (head rel) (length M.relations)) _
      (lt-leb (head set) (length M.sets) (subst (λ n. n < head set) (sym eb) h)))

  module _ (h : head rel ≤ a) (g : head set ≤ b) where
    headed : are_heads M ≡ true
    headed = rw (
      le-leb (head rel) (length M.relations) (subst (λ n. head rel ≤ n) (sym ea) h),
      le-leb (head set) (length M.sets) (subst (λ n. head set ≤ n) (sym eb) g),
    )

    places_relations : (p : ℕ) → p ≡ places_for rel a → p ≡ rel_places M
    places_relations p e = e ∙ ap (places_for rel) (sym ea) ∙ places_by rel M.relations

    places_sets : (q : ℕ) → q ≡ places_for set b → q ≡ set_places M
    places_sets q e = e ∙ ap (places_for set) (sym eb) ∙ places_by set M.sets

    pub full_relations : (p n : ℕ) → n ≡ k → p ≡ places_for rel a → p < 3 * n → outcome (Err UsedUp) M ≡ new_step k M
    full_relations p n en e l =
        let q = places_relations p e in
        new_full k M few headed (and_false (leb k (set_places M)) _ (lt-leb (3 * k) (rel_places M) (omega (arith, q, en))))

    pub full_sets : (q n : ℕ) → n ≡ k → q ≡ places_for set b → q < n → outcome (Err UsedUp) M ≡ new_step k M
    full_sets q n en e l = let p = places_sets q e in let u = lt-leb k (set_places M) (omega (arith, p, en)) in new_full k M few headed (rw u)

    pub fits_new : 3 * k ≤ places_for rel a → k ≤ places_for set b
        → outcome (Ok (Handle (run (new k) blank).value)) (encode k (run (new k) blank).store M) ≡ new_step k M
    fits_new l m =
        let p = places_relations _ refl in
        let q = places_sets _ refl in
        let u = le-leb k (set_places M) (omega (arith, q)) in
        let v = le-leb (3 * k) (rel_places M) (omega (arith, p)) in
        new_fits k M few headed (rw (u, v))

-- `new` that is not declined: its memories and its answer are those of the nodes of `specs/NewNodes`
pub new_accepted : (k l : ℕ) (M : Memories) (r s : List ℕ) (h : ℕ) → NewChecked (length M.relations) (length M.sets) k (Ok l)
    → r ≡ write rel (head_of rel l (3 * l)) (new_relations l) M.relations → s ≡ write set (head_of set l l) (new_sets l) M.sets
    → h ≡ level_handle rel (2 * l) 1 l → outcome (Ok (Handle h)) (memories r s) ≡ new_step k M
unfolding encode
new_accepted k l M r s h (e, F, G) er es eh =
    let n = new_is k in
    let c = new_counts k in
    let relations : r ≡ (encode k (run (new k) blank).store M).relations
    = er ∙ ap (λ l. write rel (head_of rel l (3 * l)) (new_relations l) M.relations) e
    ∙ sym (λ i. write rel (head_of rel k (c.0 i)) (n i).store.rels M.relations) in
    let sets : s ≡ (encode k (run (new k) blank).store M).sets
    = es ∙ ap (λ l. write set (head_of set l l) (new_sets l) M.sets) e ∙ sym (λ i. write set (head_of set k (c.1 i)) (n i).store.sets M.sets) in
    let value = eh ∙ ap (λ l. level_handle rel (2 * l) 1 l) e ∙ sym (ap (λ R. R.value) n) in
    (λ i. outcome (Ok (Handle (value i))) (memories (relations i) (sets i)))
    ∙ fits_new k (length M.relations) (length M.sets) M refl refl F.few F.headed G.headed F.within G.within
