-- DEMAND 2 over histories: leaving out the refused calls, and those that only read, changes no other answer, and an accepted call does what it
-- does without limit of places. From what each verdict runs and answers, and the theorem about every history.
use mathlib.Core.Path.{◌≡◌, refl, ap, ◌∙◌, subst}
use mathlib.Core.List.{List, [], ◌∷◌}
use mathlib.Core.Bool.{Bool, true, false, ◌&&◌, not}
use Prim.Native.Nat.{ℕ}
use lib.Dec.{eqb}
use borrow.Author.Tests.{not-false}
use Rattle.model.specs.Store.{pick}
use Rattle.model.proofs.Bools.{by_test, no_true}
use Rattle.call_rules.specs.OnMemories.{set_places, rel_places}
use Rattle.theorems.specs.AcceptedAlone.{unlimited_reply_step, is_accepted, does_read, is_adding, chosen, Alone, AcceptedAlone}
use Rattle.theorems.specs.AllCalls.{any_refusal, plain_any_step, effect, AnyReply, any_counted, plain_reply_step}
use Rattle.theorems.specs.EveryHistory.{arguments, replies}
use Rattle.theorems.specs.Histories.{Made, History}
use Rattle.theorems.specs.Lists.{Listed, in_turn, answer_of, left_by}
use Rattle.theorems.specs.PlainStore.{Plain, lengths, begun}
use Rattle.theorems.proofs.EveryHistory.{every_history}
use Rattle.theorems.proofs.Refusing.{any_parts, reads_stay}

module _ (m n : ℕ) where
  -- CALLS IN TURN: a test that passes only accepted calls and leaves out only calls that leave the lists
  abbrev plain_turns : List Made → Plain → Listed AnyReply Plain
  plain_turns cs P = in_turn (answer_of (plain_reply_step m n)) (left_by (plain_reply_step m n)) (arguments cs) P

  abbrev free_turns : List Made → Plain → Listed AnyReply Plain
  free_turns cs P = in_turn (answer_of unlimited_reply_step) (left_by unlimited_reply_step) (arguments cs) P

  -- the answer and the nodes added are the plain store's
  abbrev Agrees : Made → Plain → Type 0
  Agrees c P = (c.answer, c.added) ≡ (plain_reply_step m n c.what P).answer

  -- the calls cs with places, and ds of them without limit
  record Turned (cs ds : List Made) (P : Plain) : Type 0 where
    same : replies ds ≡ (free_turns ds P).answers
    ends : (plain_turns cs P).state ≡ (free_turns ds P).state

  module _ (test : Made → Bool) (passed : (c : Made) → test c ≡ true → is_accepted c ≡ true)
      (left_out : (c : Made) (P : Plain) → Agrees c P → test c ≡ false → (plain_any_step m n c.what P).state ≡ P) where
    turned : (cs : List Made) (P : Plain) → replies cs ≡ (plain_turns cs P).answers → Turned cs (chosen test cs) P
    unfolding chosen in_turn
    turned [] P e = record { same = refl; ends = refl }
    turned (c ∷ cs) P e =
        let here : Agrees c P = cc e in
        let next = (plain_any_step m n c.what P).state in
        let rest = turned cs next (cc e) in
        let ds = chosen test cs in
        by_test (λ b. Turned (c ∷ cs) (pick b (c ∷ ds) ds) P) (test c)
        (λ t. let v = (any_parts m n c.what P).yes (subst (λ r. eqb (any_refusal r.0) 0 ≡ true) here (passed c t)) in
        let u = ap (any_counted lengths c.what P) v in record {
          same = λ i. (here ∙ ap (λ o. o.answer) u) i ∷ (rest.same ∙ ap (λ o. (free_turns ds o.state).answers) u) i;
          ends = rest.ends ∙ ap (λ o. (free_turns ds o.state).state) u;
        })
        (λ f. let z = left_out c P here f in record {
          same = rest.same ∙ ap (λ X. (free_turns ds X).answers) z;
          ends = rest.ends ∙ ap (λ X. (free_turns ds X).state) z;
        })

  -- a refused call leaves the lists, and so does any that is not among those that add
  refused_out : (c : Made) (P : Plain) → Agrees c P → is_accepted c ≡ false → (plain_any_step m n c.what P).state ≡ P
  refused_out c P here f = (any_parts m n c.what P).no (subst (λ r. eqb (any_refusal r.0) 0 ≡ false) here f)

  adding_out : (c : Made) (P : Plain) → Agrees c P → is_adding c ≡ false → (plain_any_step m n c.what P).state ≡ P
  adding_out c P here f =
      by_test (λ a. is_accepted c ≡ a → (a && not (does_read (effect c.what))) ≡ false → (plain_any_step m n c.what P).state ≡ P) (is_accepted c)
      (λ _ _ g. reads_stay m n c.what P (not-false (does_read (effect c.what)) g))
      (λ _ e _. refused_out c P here e) refl f

adding_accepted : (c : Made) → is_adding c ≡ true → is_accepted c ≡ true
adding_accepted c e = by_test (λ a. (a && not (does_read (effect c.what))) ≡ true → a ≡ true) (is_accepted c) (λ _ _. refl) (λ _ z. absurd (no_true refl z)) e

-- THE THEOREM
module _ (H : History) where
  abbrev m : ℕ
  m = set_places H.new.before

  abbrev n : ℕ
  n = rel_places H.new.before

  alone : {ds : List Made} → Turned m n H.calls ds (begun H.width) → Alone H ds
  alone t = record { same_replies = t.same; same_lists = (every_history H).matches.lists ∙ ap (λ P. P.lists) t.ends }

  pub accepted_alone : AcceptedAlone H
  accepted_alone = let e = (every_history H).plain_replies in record {
    accepted = alone (turned m n is_accepted (λ c t. t) (refused_out m n) H.calls (begun H.width) e);
    adding = alone (turned m n is_adding adding_accepted (adding_out m n) H.calls (begun H.width) e);
  }
