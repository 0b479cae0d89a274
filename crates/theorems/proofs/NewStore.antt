-- What an accepted `new` leaves: from the lists that it matches, in which every part of `new` is settled.
use mathlib.Core.Path.{◌≡◌, refl, sym, ap, ◌∙◌, subst}
use mathlib.Core.Bool.{true}
use Prim.Native.Nat.{ℕ}
use borrow.Author.Tests.{le-leb}
use Rattle.model.specs.Images.{blank, new}
use Rattle.model.specs.Meaning.{Den, Relates}
use Rattle.model.specs.Operations.{zero_at_depth, one_at_depth, top_at_depth}
use Rattle.model.specs.Places.{fits_places}
use Rattle.model.specs.Programs.{Prog, bind, ◌>>=◌, Ran, run}
use Rattle.model.specs.Safety.{Safe, Settled}
use Rattle.model.specs.Store.{set, rel, Store, pick}
use Rattle.model.proofs.Extends.{ext_refl}
use Rattle.model.proofs.New.{new_does, new_counts}
use Rattle.model.proofs.Settle.{run_ext, settled, settled_later}
use Rattle.store_check.specs.Memory.{Memories, fields, decode, encode}
use Rattle.call_rules.specs.OnMemories.{set_places, rel_places}
use Rattle.call_rules.specs.Outcome.{runs, as_handle, outcome, finishes}
use Rattle.call_rules.specs.declared.Answer.{Answer}
use Rattle.call_rules.specs.declared.Answer.TheVariants.{Handle}
use Rattle.call_rules.specs.declared.Refusal.{Refusal}
use Rattle.std.specs.Prelude.{Result, Ok, Err}
use Rattle.call_rules.specs.declared.Refusal.TheVariants.{UsedUp}
use Rattle.store.specs.Calls.{Call, new_store, set_call, relation_call, step}
use Rattle.store.specs.Meanings.{set_meaning, relation_meaning}
use Rattle.store.specs.declared.relation_calls.RelationCall.TheVariants as R
use Rattle.store.specs.declared.set_calls.SetCall.TheVariants as T
use Rattle.theorems.specs.Lists.{Matches}
use Rattle.theorems.specs.NewStore.{There, NewRight}
use Rattle.theorems.specs.PlainStore.{Plain, plain_store, asked, on_lists, plain_step, begun}
use Rattle.theorems.proofs.CallMeans.{set_call_means, relation_call_means}
use Rattle.theorems.proofs.Matching.{matches_count, matches_space}
use Rattle.theorems.proofs.NewMatches.{new_matches}
use Rattle.theorems.proofs.OneCall.{call_right}

-- SETTLED. The first part of a program is settled where the whole ends
first_settled : (p : Prog) (f : ℕ → Prog) (S : Store) → Safe (bind p f) S → Settled p (run (bind p f) S).store (run p S).value
unfolding run Safe
first_settled p f S s = settled_later (run_ext (f (run p S).value) (run p S).store) (settled p S s.0)

-- a call that runs a settled program leaves the memories as they are
module _ {M₀ M : Memories} {P : Plain} (A : Matches M₀ M P) (c : Call) (p : Prog) (r : ℕ) (s : Settled p P.lists r)
    (e : plain_step (set_places M₀) (rel_places M₀) c P
    ≡ finishes (Err UsedUp) (set_places M₀) (rel_places M₀) (runs p as_handle) P.lists P (plain_store P.width)) where
  fits : fits_places (set_places M₀) (rel_places M₀) P.lists ≡ true
  fits = rw (le-leb _ _ ((matches_space A).within set), le-leb _ _ ((matches_space A).within rel))

  plain_there : plain_step (set_places M₀) (rel_places M₀) c P ≡ outcome (Ok (Handle r)) P
  unfolding finishes
  plain_there = e
      ∙ ap (λ R. pick (fits_places (set_places M₀) (rel_places M₀) R.store) (outcome (Ok (Handle R.value)) (plain_store P.width R.store))
      (outcome (Err UsedUp) P)) (s.again P.lists ext_refl)
      ∙ ap (λ b. pick b (outcome (Ok (Handle r)) P) (outcome (Err UsedUp) P)) fits

  call_there : step c M ≡ outcome (Ok (Handle r)) M
  call_there =
      let a = (call_right A c).alike in
      let x = a.answer ∙ ap (λ u. u.answer) plain_there in
      let y = a.matches.written ∙ ap (λ u. encode u.state.width u.state.lists M₀) plain_there ∙ sym A.written in
      λ i. outcome (x i) (y i)

-- THE PARTS of `new`, in its order: the sets' zero and one, then zero, one and top of the relations. Each is settled in what `new` makes
module _ (k : ℕ) where
  abbrev made : Ran
  made = run (new k) blank

  abbrev from_one : Prog
  from_one = one_at_depth rel k >>= λ o. top_at_depth k

  abbrev from_zero : Prog
  from_zero = zero_at_depth rel k >>= λ z. from_one

  abbrev from_set_one : Prog
  from_set_one = one_at_depth set k >>= λ o. from_zero

  record Part (p : Prog) : Type 0 where
    value : ℕ
    there : Settled p made.store value

  record Parts : Type 0 where
    set_zero : Part (zero_at_depth set k)
    set_one : Part (one_at_depth set k)
    zero : Part (zero_at_depth rel k)
    one : Part (one_at_depth rel k)
    top : Settled (top_at_depth k) made.store made.value

  parts : Parts
  unfolding new run Safe
  parts =
      let s = (new_does k).safe in
      let S₁ = (run (zero_at_depth set k) blank).store in
      let S₂ = (run (one_at_depth set k) S₁).store in
      let S₃ = (run (zero_at_depth rel k) S₂).store in
      let S₄ = (run (one_at_depth rel k) S₃).store in record {
        set_zero = record { value = _; there = first_settled (zero_at_depth set k) (λ z. from_set_one) blank s };
        set_one = record { value = _; there = first_settled (one_at_depth set k) (λ o. from_zero) S₁ s.1 };
        zero = record { value = _; there = first_settled (zero_at_depth rel k) (λ z. from_one) S₂ s.1.1 };
        one = record { value = _; there = first_settled (one_at_depth rel k) (λ o. top_at_depth k) S₃ s.1.1.1 };
        top = settled (top_at_depth k) S₄ s.1.1.1.1;
      }

module _ (k : ℕ) (M : Memories) (h : ℕ) (e : (step (new_store k) M).answer ≡ Ok (Handle h)) where
  abbrev M' : Memories
  M' = (step (new_store k) M).state

  abbrev S : Store
  S = (run (new k) blank).store

  A : Matches M M' (begun k)
  A = (new_matches k M h e).1

  answered : (run (new k) blank).value ≡ h
  answered = handles (sym (new_matches k M h e).0 ∙ e)
    where
      handles : {g h : ℕ} → ◌≡◌ {A = Result Answer Refusal} (Ok (Handle g)) (Ok (Handle h)) → g ≡ h
      handles e = cc e

  -- a call that runs a part of `new`; Q is what its handle means in a store of as many fields
  there : (c : Call) (Q : ℕ → Store → ℕ → Type 0) (p : Prog) (r : ℕ) → Settled p S r
      → plain_step (set_places M) (rel_places M) c (begun k)
      ≡ finishes (Err UsedUp) (set_places M) (rel_places M) (runs p as_handle) S (begun k) (plain_store k)
      → ((step c M').answer ≡ Ok (Handle r) → Q (fields M') (decode (step c M').state) r) → There M' c (Q k (decode M'))
  there c Q p r s q means = let is = call_there A c p r s q in record {
    handle = r;
    is = is;
    means = subst (λ X. Q k (decode X) r) (ap (λ u. u.state) is)
        (subst (λ j. Q j (decode (step c M').state) r) A.width (means (ap (λ u. u.answer) is)));
  }

  -- THE THEOREM
  pub new_right : NewRight k M M' h
  unfolding plain_step asked on_lists relation_meaning set_meaning
  new_right = let t = parts k in record {
    store = A.store;
    width = A.width;
    relations = matches_count A rel ∙ (new_counts k).0;
    sets = matches_count A set ∙ (new_counts k).1;
    written = A.written ∙ ap (λ T. encode k T M) (sym A.lists);
    full = subst (λ T. Relates k (λ p q. Unit {0}) T h) (sym A.lists) (subst (Relates k (λ p q. Unit {0}) S) answered (new_does k).after.post);
    top = call_there A (relation_call R.Top) (top_at_depth k) _ t.top refl ∙ ap (λ h. outcome (Ok (Handle h)) M') answered;
    zero = there (relation_call R.Zero) (λ j. Relates j (λ p q. ⊥)) _ _ t.zero.there refl (relation_call_means R.Zero M' _ A.store);
    one = there (relation_call R.One) (λ j. Relates j (λ p q. p ≡ q)) _ _ t.one.there refl (relation_call_means R.One M' _ A.store);
    set_zero = there (set_call T.Zero) (λ j. Den set j (λ p. ⊥)) _ _ t.set_zero.there refl (set_call_means T.Zero M' _ A.store);
    set_one = there (set_call T.One) (λ j. Den set j (λ p. Unit {0})) _ _ t.set_one.there refl (set_call_means T.One M' _ A.store);
  }
