-- 02, M-101, of `mk` in both stores on any memories: accepted, it appends exactly where no equal node was held. From the nodes that `mk` leaves in the
-- plain store.
use mathlib.Core.Path.{◌≡◌, refl, sym, ap, ◌∙◌}
use mathlib.Core.Logic.{◌⊎◌, inl, inr}
use mathlib.Core.List.{List, [], ◌∷◌, ◌++◌}
use Prim.Native.Nat.{ℕ, ◌-◌, ◌<◌}
use native.Mathlib.Omega.{arith}
use lib.ListN.{length, get_or, length-append}
use Rattle.model.specs.Places.{fits_places}
use Rattle.model.specs.Programs.{mk, run}
use Rattle.model.specs.Store.{Kind, set, rel, Nodes, Store, nodes, with_nodes, pick, having, place, stored, mk_store}
use Rattle.model.proofs.Bools.{by_test}
use Rattle.model.proofs.Mk.{had, mk_nodes}
use Rattle.store_check.specs.Memory.{Memories, memory, count, fields, nodes_in, decode, encode}
use Rattle.store_check.specs.Valid.{is_store}
use Rattle.call_rules.specs.Added.{of_kind, held_in, less}
use Rattle.call_rules.specs.OnMemories.{set_places, rel_places, on_store}
use Rattle.call_rules.specs.Outcome.{runs, unless_declined, as_handle, guard, Outcome, outcome, finishes}
use Rattle.call_rules.specs.declared.Answer.{Answer}
use Rattle.std.specs.Prelude.{Result, Ok, Err}
use Rattle.call_rules.specs.declared.Refusal.{Refusal}
use Rattle.call_rules.specs.declared.Answer.TheVariants.{Handle}
use Rattle.call_rules.specs.Outcome.{Check}
use Rattle.call_rules.specs.declared.Refusal.TheVariants.{NotStore, UsedUp}
use Rattle.call_rules.specs.declared.added.NodeCounts.{NodeCounts}
use Rattle.call_rules.proofs.Encoding.{encode_count}
use Rattle.call_rules.proofs.Outcomes.{ended, nodes_count}
use Rattle.store.specs.Calls.{set_call, relation_call, step}
use Rattle.store.specs.RelationCalls.{relation_declines}
use Rattle.store.specs.SetCalls.{set_declines}
use Rattle.store.specs.declared.relation_calls.RelationCall.TheVariants as R
use Rattle.store.specs.declared.set_calls.SetCall.TheVariants as T
use Rattle.theorems.specs.Added.{its_added, NodeHeld, MkAdded}
use Rattle.theorems.specs.AllCalls.{call, any_step, effect}
use Rattle.theorems.proofs.OneCall.{not_handle}

-- `MK` of the children x, where M' are the memories with the plain store that it leaves
module _ (K : Kind) (x : List ℕ) (M : Memories) where
  abbrev N : Nodes
  N = nodes K (decode M)

  in_memory : (J : Kind) → nodes_in J (memory J M) ≡ nodes J (decode M)
  unfolding decode
  in_memory = elim [ set ↦ refl | rel ↦ refl ]

  nodes_counted : (J : Kind) → length (nodes J (decode M)) ≡ count J (memory J M)
  nodes_counted J = ap length (sym (in_memory J)) ∙ nodes_count J (memory J M)

  abbrev M' : Memories
  M' = encode (fields M) (mk_store K x (decode M)) M

  others_stay : (J : Kind) → ¬ (J ≡ K) → count J (memory J M') ≡ count J (memory J M)
  unfolding mk_store
  others_stay J ne = encode_count (fields M) (mk_store K x (decode M)) M J ∙ ap length (same K J ne) ∙ nodes_counted J
    where
      same : (K J : Kind) → ¬ (J ≡ K) → nodes J (with_nodes K (having (stored K x) (nodes K (decode M))) (decode M)) ≡ nodes J (decode M)
      same set set ne = absurd (ne refl)
      same set rel ne = refl
      same rel set ne = refl
      same rel rel ne = absurd (ne refl)

  own_after : count K (memory K M') ≡ length (having (stored K x) N)
  own_after = encode_count (fields M) (mk_store K x (decode M)) M K ∙ ap length (mk_nodes K x (decode M))

  added_own : (J : Kind) → of_kind J (less (held_in M') (held_in M)) ≡ count J (memory J M') - count J (memory J M)
  added_own = elim [ set ↦ refl | rel ↦ refl ]

  -- the node is held, and nothing is added; or it is not, and it is added
  held_before : having (stored K x) N ≡ N → NodeHeld K x M
  held_before e = let h = had (stored K x) N in record {
    place = place (stored K x) N;
    inside = omega (arith, h.inside, ap length e, nodes_counted K);
    is = ap (λ L. get_or L (place (stored K x) N) []) (in_memory K ∙ sym e) ∙ h.found;
  }

  not_before : ((i : ℕ) → i < length N → ¬ (get_or N i [] ≡ stored K x)) → ¬ NodeHeld K x M
  not_before absent A = absent A.place (omega (arith, A.inside, nodes_counted K)) (ap (λ L. get_or L A.place []) (sym (in_memory K)) ∙ A.is)

  abbrev n : NodeCounts
  n = less (held_in M') (held_in M)

  mk_added : MkAdded K x M n
  mk_added = by_had (had (stored K x) N).new
    where
      no_other : (J : Kind) → ¬ (J ≡ K) → of_kind J n ≡ 0
      no_other J ne = omega (arith, added_own J, others_stay J ne)

      by_had : (having (stored K x) N ≡ N)
          ⊎ ((having (stored K x) N ≡ N ++ (stored K x ∷ [])) × (place (stored K x) N ≡ length N) × ((i : ℕ) → i < length N → ¬ (get_or N i [] ≡ stored K x)))
          → MkAdded K x M n
      by_had (inl e) =
          let z : of_kind K n ≡ 0 = omega (arith, added_own K, own_after, ap length e, nodes_counted K) in
          let A = held_before e in record {
            appended = (λ o. absurd (let y : ⊥ = omega (arith, z, o) in y), λ absent. absurd (absent A));
            not_appended = (λ _. A, λ _. z);
            no_other = no_other;
          }
      by_had (inr e) =
          let o : of_kind K n ≡ 1 = omega (arith, added_own K, own_after, ap length e.0, length-append N (stored K x ∷ []), nodes_counted K) in
          let absent = not_before e.2 in record {
            appended = (λ _. absent, λ _. o);
            not_appended = (λ z. absurd (let y : ⊥ = omega (arith, z, o) in y), λ A. absurd (absent A));
            no_other = no_other;
          }

  -- from the verdict of `mk`, whatever it declines
  abbrev Adds : ℕ → Outcome (Result Answer Refusal) Memories → Type 0
  Adds h t = t.answer ≡ Ok (Handle h) → MkAdded K x M (less (held_in t.state) (held_in M))

  mk_verdict : (h : ℕ) (c : Check) → Adds h (ended Err M (unless_declined Err c (λ l. runs (mk K x) as_handle)))
  unfolding finishes run
  mk_verdict h (Err r) = λ e. absurd (not_handle e)
  mk_verdict h (Ok l) = by_test (λ b. Adds h (pick b (outcome (Ok (Handle (run (mk K x) (decode M)).value)) M') (outcome (Err UsedUp) M)))
      (fits_places (set_places M) (rel_places M) (mk_store K x (decode M))) (λ _ _. mk_added) (λ _ e. absurd (not_handle e))

  mk_call : (h : ℕ) (check : ℕ → Store → Check)
      → Adds h (on_store Err (λ k S. unless_declined Err (check k S) (λ l. runs (mk K x) as_handle)) M)
  unfolding on_store guard finishes
  mk_call h check = by_test (λ b. Adds h (ended Err M (unless_declined Err (guard NotStore b (Ok (fields M)))
      (λ k. unless_declined Err (check k (decode M)) (λ l. runs (mk K x) as_handle)))))
      (is_store M) (λ _. mk_verdict h (check (fields M) (decode M))) (λ _ e. absurd (not_handle e))

pub set_mk_added : (x0 x1 : ℕ) (M : Memories) (h : ℕ) → (step (set_call (T.Mk x0 x1)) M).answer ≡ Ok (Handle h)
    → MkAdded set (x0 ∷ x1 ∷ []) M (its_added (call (set_call (T.Mk x0 x1))) M)
unfolding any_step effect step
set_mk_added x0 x1 M h e = mk_call set (x0 ∷ x1 ∷ []) M h (λ k S. set_declines k (T.Mk x0 x1) S) e

pub relation_mk_added : (x00 x01 x10 x11 : ℕ) (M : Memories) (h : ℕ) → (step (relation_call (R.Mk x00 x01 x10 x11)) M).answer ≡ Ok (Handle h)
    → MkAdded rel (x00 ∷ x01 ∷ x10 ∷ x11 ∷ []) M (its_added (call (relation_call (R.Mk x00 x01 x10 x11))) M)
unfolding any_step effect step
relation_mk_added x00 x01 x10 x11 M h e = mk_call rel (x00 ∷ x01 ∷ x10 ∷ x11 ∷ []) M h (λ k S. relation_declines k (R.Mk x00 x01 x10 x11) S) e
