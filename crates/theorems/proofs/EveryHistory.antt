-- DEMAND 3: the theorem about every history, from the theorem about one text and the theorem about lists of steps.
use mathlib.Core.Path.{◌≡◌, refl, sym, ap, ◌∙◌, subst, subst₂}
use mathlib.Core.List.{List, [], ◌∷◌, ◌++◌, append_assoc, map-append}
use Prim.Native.Nat.{ℕ}
use Rattle.model.specs.Meaning.{Relates}
use Rattle.model.specs.Places.{fits_places}
use Rattle.model.specs.Policies.{policy_program}
use Rattle.model.specs.Programs.{run}
use Rattle.model.specs.Store.{Store as Nodes, pick}
use Rattle.model.specs.WellFormed.{WellFormed}
use Rattle.model.proofs.Bools.{by_test}
use Rattle.model.proofs.Pairs.{relates_lasts}
use Rattle.model.proofs.Policies.{one-handle↔}
use Rattle.store_check.specs.Memory.{Memories, fields, decode}
use Rattle.store.specs.Calls.{new_store, step}
use Rattle.call_rules.specs.OnMemories.{set_places, rel_places}
use Rattle.call_rules.specs.Outcome.{outcome, map_answer}
use Rattle.call_rules.specs.declared.Answer.TheVariants as store
use Rattle.call_rules.specs.declared.Refusal.TheVariants.{UsedUp}
use Rattle.policies.specs.Outcome.{policy_step}
use Rattle.std.specs.Prelude.{Ok, Err}
use Rattle.policies.specs.declared.PolicyRefusal.TheVariants.{Store}
use Rattle.theorems.specs.AllCalls.{AnyCall, policy, answered, read, any_step, all_calls, text_relates, WithinRules, policy_of}
use Rattle.theorems.specs.EveryHistory.{arguments, replies, AcceptedIn, lent, memories_after, as_steps, plain_after, plain_run, HistoryRight}
use Rattle.theorems.specs.Histories.{Made, LentInTurn, left_after, NoneRenews, History}
use Rattle.theorems.specs.OneText.{TextRight}
use Rattle.theorems.specs.Lists.{steps, AllContinue, ListRight, Matches, HandlesLast, after_new}
use Rattle.theorems.specs.PlainStore.{Plain, plain_store, plain_policy_step}
use Rattle.theorems.proofs.AllCalls.{policy_alike, any_right}
use Rattle.theorems.proofs.Histories.{is_any_step, made_replies, made_end, made_continues, left_parted, lent_before, lent_later, none_before}
use Rattle.theorems.proofs.Lists.{lists_right}
use Rattle.theorems.proofs.OneText.{text_right}
use Rattle.theorems.proofs.PlainText.{plain_text}

-- what the plain store P answers to a text that keeps the rules
kept_answer : (m n k : ℕ) (t : List ℕ) (P : Plain) → P.width ≡ k → (r : WithinRules k t) → (let R = run (policy_program k (policy_of r)) P.lists in
    (plain_policy_step m n t P).answer ≡ pick (fits_places m n R.store) (Ok R.value) (Err (Store UsedUp)))
kept_answer m n k t P w =
    subst (λ j. (r : WithinRules j t) → (let R = run (policy_program j (policy_of r)) P.lists in
    (plain_policy_step m n t P).answer ≡ pick (fits_places m n R.store) (Ok R.value) (Err (Store UsedUp)))) w
    (λ r. let R = run (policy_program P.width (policy_of r)) P.lists in
    ap (λ o. o.answer) ((plain_text m n t P).kept r)
    ∙ by_test (λ b. (pick b (outcome (Ok R.value) (plain_store P.width R.store)) (outcome (Err (Store UsedUp)) P)).answer
    ≡ pick b (Ok R.value) (Err (Store UsedUp))) (fits_places m n R.store) (λ _. refl) (λ _. refl))

module _ (H : History) where
  abbrev k : ℕ
  k = H.width

  abbrev M₀ : Memories
  M₀ = H.new.before

  abbrev M : Memories
  M = H.new.after

  -- `new` as a step
  new_comes : outcome (answered (Ok (store.Handle H.top))) M ≡ map_answer answered (step (new_store k) M₀)
  unfolding any_step
  new_comes = (λ i. outcome (sym H.accepted i) M) ∙ is_any_step H.new.promised ∙ ap (λ x. any_step x M₀) H.is_new

  pub new_answer : (step (new_store k) M₀).answer ≡ Ok (store.Handle H.top)
  new_answer = let e = ap (λ t. t.answer) new_comes in sym (cc e)

  new_state : (step (new_store k) M₀).state ≡ M
  new_state = sym (ap (λ t. t.state) new_comes)

  right : (cs : List AnyCall) → ListRight all_calls k M₀ cs
  right = lists_right all_calls (λ M₀ M P A c. any_right A c) k M₀ H.top new_answer

  -- THE FIRST CALLS of the history
  module _ (cs : List Made) (h : LentInTurn M cs) where
    replies_stepped : replies cs ≡ (as_steps H cs).answers
    replies_stepped = made_replies cs M h ∙ ap (λ X. (steps all_calls (arguments cs) X).answers) (sym new_state)

    end_stepped : memories_after H cs ≡ (as_steps H cs).state
    end_stepped = made_end cs M h ∙ ap (λ X. (steps all_calls (arguments cs) X).state) (sym new_state)

    module _ (n : NoneRenews cs) where
      go : AllContinue all_calls (arguments cs) (step (new_store k) M₀).state
      go = subst (AllContinue all_calls (arguments cs)) (sym new_state) (made_continues cs M h n)

      width_after : fields (memories_after H cs) ≡ k
      width_after = ap fields end_stepped ∙ (right (arguments cs)).width go

  abbrev end : Nodes
  end = decode (memories_after H H.calls)

  -- IN TWO PARTS
  module _ (before later : List Made) (is : H.calls ≡ before ++ later) where
    lent_first : LentInTurn M before
    lent_first = lent_before before later M (subst (LentInTurn M) is H.in_turn)

    lent_rest : LentInTurn (memories_after H before) later
    lent_rest = lent_later before later M (subst (LentInTurn M) is H.in_turn)

    none_first : NoneRenews before
    none_first = none_before before later (subst NoneRenews is H.none_renews)

    lasts_parted : HandlesLast (decode (memories_after H before)) end
    lasts_parted = subst₂ (λ X Y. HandlesLast (decode X) (decode Y)) (sym (end_stepped before lent_first)) (sym (end_stepped H.calls H.in_turn))
        ((right (arguments H.calls)).lasts (go H.calls H.in_turn H.none_renews) (arguments before) (arguments later)
        (ap arguments is ∙ map-append (λ c. c.what) before later))

  -- A TEXT in the history
  module _ (t : List ℕ) (before later : List Made) (it : Made) (is : H.calls ≡ before ++ (it ∷ later)) (text : it.what ≡ policy t) where
    lent_it : it.before ≡ memories_after H before
    unfolding LentInTurn
    lent_it = (lent_rest before (it ∷ later) is).0

    it_comes : outcome it.answer it.after ≡ map_answer read (policy_step t it.before)
    unfolding any_step
    it_comes = is_any_step it.promised ∙ ap (λ x. any_step x it.before) text

    width_it : fields it.before ≡ k
    width_it = ap fields lent_it ∙ width_after before (lent_first before (it ∷ later) is) (none_first before (it ∷ later) is)

    -- what it leaves lasts to the end
    lasts_it : HandlesLast (decode it.after) end
    unfolding left_after
    lasts_it = subst (λ X. HandlesLast (decode X) end) (left_parted before (it ∷ []) M)
        (lasts_parted (before ++ (it ∷ [])) later (is ∙ sym (append_assoc before (it ∷ []) later)))

    right_it : (h : ℕ) → it.answer ≡ read (Ok h) → TextRight t it.before h
    right_it h e = let q = sym (ap (λ u. u.answer) it_comes) ∙ e in text_right t it.before h (cc q)

    relates_it : (h : ℕ) → it.answer ≡ read (Ok h) → Relates k (text_relates k t) end h
    relates_it h e =
        let R : Relates k (text_relates k t) (decode it.after) h
        = subst₂ (λ j X. Relates j (text_relates j t) (decode X) h) width_it (sym (ap (λ u. u.state) it_comes)) (right_it h e).relates in
        relates_lasts (lasts_it _ _ _ R.held) R

    answered_it : (r : WithinRules k t)
        → it.answer ≡ read (pick (fits_places (set_places M₀) (rel_places M₀) (plain_run H before (policy_of r)).store)
        (Ok (plain_run H before (policy_of r)).value) (Err (Store UsedUp)))
    answered_it r =
        let A = (right (arguments before)).matches in
        let first = lent_first before (it ∷ later) is in
        let there = end_stepped before first in
        let width = sym A.width ∙ ap fields (sym there) ∙ width_after before first (none_first before (it ∷ later) is) in
        ap (λ u. u.answer) it_comes ∙ ap (λ X. read (policy_step t X).answer) (lent_it ∙ there)
        ∙ ap read ((policy_alike A t).answer ∙ kept_answer (set_places M₀) (rel_places M₀) k t (plain_after H before).state width r)

  relates_end : (t : List ℕ) (h : ℕ) → AcceptedIn H.calls t h → Relates k (text_relates k t) end h
  relates_end t h A = relates_it t A.before A.later A.it A.is A.text h A.handle

  keeps_rules : (t : List ℕ) (h : ℕ) → AcceptedIn H.calls t h → WithinRules k t
  keeps_rules t h A = subst (λ j. WithinRules j t) (width_it t A.before A.later A.it A.is A.text)
      (right_it t A.before A.later A.it A.is A.text h A.handle).keeps

  formed : WellFormed k end
  formed = subst₂ (λ j X. WellFormed j (decode X)) ((right (arguments H.calls)).width (go H.calls H.in_turn H.none_renews))
      (sym (end_stepped H.calls H.in_turn)) (right (arguments H.calls)).matches.store.formed

  -- THE THEOREM
  pub every_history : HistoryRight H
  every_history = record {
    steps_replies = replies_stepped H.calls H.in_turn;
    steps_end = end_stepped H.calls H.in_turn;
    plain_replies = replies_stepped H.calls H.in_turn ∙ (right (arguments H.calls)).answers;
    matches = subst (λ X. Matches M₀ X (plain_after H H.calls).state) (sym (end_stepped H.calls H.in_turn)) (right (arguments H.calls)).matches;
    width = width_after H.calls H.in_turn H.none_renews;
    lasts = lasts_parted;
    relates = relates_end;
    keeps = keeps_rules;
    one_handle = λ t u g h A B. one-handle↔ g h formed (relates_end t g A) (relates_end u h B);
    refused = answered_it;
  }

-- so no answer, no number of nodes added and nothing in the memories depends on what the working memories held or how long they were:
-- 01's demand 1, over the whole history
pub by_arguments_alone : (H J : History) → H.width ≡ J.width → lent H ≡ lent J → arguments H.calls ≡ arguments J.calls
    → (replies H.calls ≡ replies J.calls) × (memories_after H H.calls ≡ memories_after J J.calls)
by_arguments_alone H J w m a =
    let e : after_new all_calls H.width (lent H) (arguments H.calls) ≡ after_new all_calls J.width (lent J) (arguments J.calls)
    = λ i. after_new all_calls (w i) (m i) (a i) in (
      (every_history H).steps_replies ∙ ap (λ l. l.answers) e ∙ sym (every_history J).steps_replies,
      (every_history H).steps_end ∙ ap (λ l. l.state) e ∙ sym (every_history J).steps_end,
    )
