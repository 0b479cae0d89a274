-- Calls of `next` in turn give each member that is to come exactly once, in field order, and then the end: from what one call answers wherever the set is held,
-- and from the law that what passes after the head of a list is its rest. Over a history the set is held at every later moment, with the same walks.
use mathlib.Core.Path.{◌≡◌, refl, sym, ap, ◌∙◌, subst}
use mathlib.Core.List.{List, [], ◌∷◌, ◌++◌, append_assoc}
use mathlib.Core.Logic.{◌↔◌}
use mathlib.Core.Option.{none}
use mathlib.Core.Bool.{Bool, true, false, ◌&&◌, ◌||◌, and-true}
use Prim.Native.Nat.{ℕ, zero, suc, ◌^◌}
use lib.Dec.{eqb}
use lib.ListN.{length, replicate, length-replicate}
use borrow.Author.Tests.{eq-eqb, ne_eqb, lt-ltb}
use Rattle.model.specs.FieldOrder.{is_before}
use Rattle.model.specs.FirstPair.{first_packet}
use Rattle.model.specs.Meaning.{Sem, Lasts}
use Rattle.model.specs.Members.{passing, is_member, InOrder}
use Rattle.model.specs.Packets.{Packet, packet, number, walk, contains}
use Rattle.model.specs.Store.{set, Store, pick}
use Rattle.model.specs.WellFormed.{Held}
use Rattle.model.proofs.Bools.{by_test, no_true, one_iff, and_iff, T_true}
use Rattle.model.proofs.Levels.{held_most, held_tested, level_is}
use Rattle.model.proofs.Members.{in_order, passing_alike, head, first_head, first_alike, rest_passes, head_passes, before_through}
use Rattle.model.proofs.Numbers.{packet_is, packet_number, number_below}
use Rattle.store_check.specs.Memory.{Memories, fields, decode}
use Rattle.store_check.specs.Valid.{IsStore}
use Rattle.call_rules.specs.Outcome.{gives, unless_declined, of_one}
use Rattle.call_rules.specs.declared.Answer.{Answer}
use Rattle.std.specs.Prelude.{Result, Ok, Err}
use Rattle.call_rules.specs.declared.Refusal.{Refusal}
use Rattle.call_rules.specs.declared.Answer.TheVariants.{Nothing, Member}
use Rattle.call_rules.specs.declared.Refusal.TheVariants.{OutOfRange}
use Rattle.call_rules.proofs.Handles.{one_is, also_no, also_yes}
use Rattle.call_rules.proofs.Outcomes.{given}
use Rattle.store.specs.Cursors.{does_last_fit, is_to_come, next_member, as_member, with_last, at_end, moved}
use Rattle.store.specs.SetCalls.{set_read_answer, set_read_verdict}
use Rattle.store.specs.declared.set_reads.Cursor.{Cursor}
use Rattle.store.specs.declared.set_reads.SetRead.TheVariants.{Next}
use Rattle.store.proofs.SetSteps.{set_read_steps}
use Rattle.theorems.specs.EveryHistory.{memories_after}
use Rattle.theorems.specs.Histories.{Made, LentInTurn, NoneRenews, History}
use Rattle.theorems.specs.Lists.{in_turn}
use Rattle.theorems.specs.MembersInTurn.{next_answer, nexts, to_come, given_in_turn, LastFits, MembersRight, MomentAfter, Each, NeverAltered}
use Rattle.theorems.proofs.EveryHistory.{every_history}
use Rattle.theorems.proofs.Histories.{lent_before, none_before}

-- ONE CALL, where M holds the set h of level l of S
record Holds (S : Store) (l h : ℕ) (M : Memories) : Type 0 where
  store : IsStore M
  lasts : Lasts set S (decode M) l h

module _ {S : Store} {l : ℕ} (c : Cursor) {M : Memories} (H : Holds S l c.handle M) where
  abbrev here : Store
  here = decode M

  -- the walks are those in S, and so is the next member
  same_next : next_member here l c ≡ next_member S l c
  same_next = ap (λ o. pick (eqb c.ended 0) o none) (first_alike l (is_to_come here l c) (is_to_come S l c)
      (λ p P. ap (λ n. eqb n 1 && (eqb c.given 0 || is_before (packet l c.last) p)) (H.lasts.walks p P)))

  held_one : of_one (fields M) set here c.handle ≡ Ok l
  held_one =
      let A = H.lasts.held in
      one_is set H.store.formed c.handle l (T_true _ (held_tested set here l c.handle A))
      (sym (level_is set here (fields M) l c.handle (held_most set l c.handle H.store.formed A) A))

  answered : (r : Result Answer Refusal) → set_read_verdict (Next c) (fields M) here ≡ gives r → next_answer M c ≡ r
  answered r e = ap (λ t. t.answer) (set_read_steps (Next c) M ∙ sym (given Err (set_read_verdict (Next c)) M H.store r e))

  next_is : does_last_fit l c ≡ true → next_answer M c ≡ Ok (as_member (next_member S l c))
  next_is e = answered (Ok (as_member (next_member here l c)))
      (ap (λ d. unless_declined Err d (λ l. gives (Ok (set_read_answer here l (Next c))))) (also_yes OutOfRange (λ l. does_last_fit l c) held_one l refl e))
      ∙ ap (λ o. Ok (as_member o)) same_next

  next_refused : does_last_fit l c ≡ false → next_answer M c ≡ Err OutOfRange
  next_refused e = answered (Err OutOfRange)
      (ap (λ d. unless_declined Err d (λ l. gives (Ok (set_read_answer here l (Next c))))) (also_no OutOfRange (λ l. does_last_fit l c) held_one l refl e))

-- so wherever the set is held there is one answer
one_answer : {S : Store} {l : ℕ} (c : Cursor) {M M' : Memories} → Holds S l c.handle M → Holds S l c.handle M' → next_answer M c ≡ next_answer M' c
one_answer {S} {l} c {M} {M'} A B = by_test (λ b. does_last_fit l c ≡ b → next_answer M c ≡ next_answer M' c) (does_last_fit l c)
    (λ _ e. next_is c A e ∙ sym (next_is c B e))
    (λ _ e. next_refused c A e ∙ sym (next_refused c B e))
    refl

-- TRUTH VALUES
and_second : (a b : Bool) → (a && b) ≡ true → b ≡ true
and_second true b e = e
and_second false b e = absurd (no_true refl e)

-- a test that follows from the last one adds nothing
and_drops : (a b c : Bool) → (c ≡ true → b ≡ true) → ((a && b) && c) ≡ (a && c)
and_drops false b c f = refl
and_drops true true c f = refl
and_drops true false true f = absurd (no_true refl (f refl))
and_drops true false false f = refl

-- THE RECORD MOVED ON. The end's mark is set
marked : (n : ℕ) → eqb (pick (eqb n 0) 1 n) 0 ≡ false
marked n = by_test (λ b. eqb n 0 ≡ b → eqb (pick b 1 n) 0 ≡ false) (eqb n 0) (λ _ _. refl) (λ _ e. e) refl

abbrev None : List (List ℕ) → Type 0
None [] = Unit {0}
None (p ∷ ps) = ⊥

nothing_met : {p : List ℕ} {ps : List (List ℕ)} → [] ≡ p ∷ ps → ⊥
nothing_met e = subst None e tt

module _ (S : Store) (l : ℕ) (c : Cursor) where
  -- what is to come decides the answer
  next_head : next_member S l c ≡ head (to_come S l c)
  next_head = by_test (λ b. pick b (first_packet l (is_to_come S l c)) none ≡ head (pick b (passing l (is_to_come S l c)) [])) (eqb c.ended 0)
      (λ _. first_head l (is_to_come S l c)) (λ _. refl)

  -- once the end was met nothing is to come
  none_at_end : to_come S l (at_end c) ≡ []
  none_at_end = ap (λ b. pick b (passing l (is_to_come S l (at_end c))) []) (marked c.ended)

  -- after a member the others are to come
  module _ (p : List ℕ) (ps : List (List ℕ)) (e : to_come S l c ≡ p ∷ ps) where
    unended : eqb c.ended 0 ≡ true
    unended = by_test (λ b. pick b (passing l (is_to_come S l c)) [] ≡ p ∷ ps → b ≡ true) (eqb c.ended 0)
        (λ _ _. refl) (λ _ g. absurd (nothing_met g)) e

    passes : passing l (is_to_come S l c) ≡ p ∷ ps
    passes = ap (λ b. pick b (passing l (is_to_come S l c)) []) (sym unended) ∙ e

    is_packet : Packet l p
    is_packet = (head_passes l (is_to_come S l c) passes).0

    last_fits : does_last_fit l (with_last c (number p)) ≡ true
    last_fits = lt-ltb (number p) (2 ^ l) (number_below is_packet)

    -- what is after p is after the last one before it
    still_after : (q : List ℕ) → Packet l q → is_before p q ≡ true → (eqb c.given 0 || is_before (packet l c.last) q) ≡ true
    still_after q Q f = by_test (λ b. (b || is_before (packet l c.last) p) ≡ true → (b || is_before (packet l c.last) q) ≡ true) (eqb c.given 0)
        (λ _ _. refl) (λ _ g. before_through (packet_is l c.last) is_packet Q g f)
        (and_second (is_member S c.handle p) _ (head_passes l (is_to_come S l c) passes).1)

    others : to_come S l (with_last c (number p)) ≡ ps
    others =
        ap (λ b. pick b (passing l (is_to_come S l (with_last c (number p)))) []) unended
        ∙ passing_alike l (is_to_come S l (with_last c (number p))) (λ q. is_to_come S l c q && is_before p q)
        (λ q Q. ap (λ r. is_member S c.handle q && is_before r q) (packet_number is_packet)
        ∙ sym (and_drops (is_member S c.handle q) _ (is_before p q) (still_after q Q)))
        ∙ rest_passes l (is_to_come S l c) passes

-- the end for ever
ended_on : (n : ℕ) (c : Cursor) → given_in_turn n [] (at_end c) ≡ record { answers = replicate n (Ok Nothing); state = at_end c }
unfolding given_in_turn
ended_on zero c = refl
ended_on (suc n) c = λ i. record {
  answers = replicate (suc n) (Ok Nothing);
  state = record { handle = c.handle; last = c.last; given = c.given; ended = pick (marked c.ended i) 1 (at_end c).ended };
}

-- IN TURN: one call, and those after it
turn : (M : Memories) (Ms : List Memories) (c : Cursor) (ps : List (List ℕ)) → next_answer M c ≡ Ok (as_member (head ps))
    → (ps ≡ [] → nexts Ms (at_end c) ≡ record { answers = replicate (length Ms) (Ok Nothing); state = at_end c })
    → ((p : List ℕ) (qs : List (List ℕ)) → ps ≡ p ∷ qs → nexts Ms (with_last c (number p)) ≡ given_in_turn (length Ms) qs (with_last c (number p)))
    → nexts (M ∷ Ms) c ≡ given_in_turn (suc (length Ms)) ps c
unfolding in_turn given_in_turn
turn M Ms c [] a f g = ap (λ x. record { answers = x ∷ (nexts Ms (moved x c)).answers; state = (nexts Ms (moved x c)).state }) a
    ∙ ap (λ r. record { answers = Ok Nothing ∷ r.answers; state = r.state }) (f refl)
turn M Ms c (p ∷ ps) a f g = ap (λ x. record { answers = x ∷ (nexts Ms (moved x c)).answers; state = (nexts Ms (moved x c)).state }) a
    ∙ ap (λ r. record { answers = Ok (Member (number p)) ∷ r.answers; state = r.state }) (g p ps refl)

module _ (S : Store) (l : ℕ) where
  taken : (Ms : List Memories) (c : Cursor) → Each (Holds S l c.handle) Ms → LastFits l c → nexts Ms c ≡ given_in_turn (length Ms) (to_come S l c) c
  unfolding in_turn given_in_turn
  taken [] c E f = refl
  taken (M ∷ Ms) c E f = turn M Ms c (to_come S l c) (next_is c E.0 f ∙ ap (λ o. Ok (as_member o)) (next_head S l c))
      (λ e. taken Ms (at_end c) E.1 f ∙ ap (λ ps. given_in_turn (length Ms) ps (at_end c)) (none_at_end S l c) ∙ ended_on (length Ms) c)
      (λ p qs e. taken Ms (with_last c (number p)) E.1 (last_fits S l c p qs e)
      ∙ ap (λ ps. given_in_turn (length Ms) ps (with_last c (number p))) (others S l c p qs e))

-- ON ONE STORE
order_iff : {l : ℕ} {P Q : Sem} {xs : List (List ℕ)} → ((p : List ℕ) → P p ↔ Q p) → InOrder l P xs → InOrder l Q xs
order_iff e A = record {
  each = λ p i. let d = A.each p i in (d.0, (e p).0 d.1);
  all = λ p P q. A.all p P ((e p).1 q);
  ordered = A.ordered;
}

each_replicate : (P : Memories → Type 0) (n : ℕ) (M : Memories) → P M → Each P (replicate n M)
each_replicate P zero M p = tt
each_replicate P (suc n) M p = (p, each_replicate P n M p)

module _ (M : Memories) (s : IsStore M) (l : ℕ) (c : Cursor) (A : Held set (decode M) l c.handle) (f : LastFits l c) where
  abbrev S₀ : Store
  S₀ = decode M

  its_own : Holds S₀ l c.handle M
  its_own = record { store = s; lasts = record { held = A; walks = λ ds D. refl } }

  unmet : c.ended ≡ 0 → to_come S₀ l c ≡ passing l (is_to_come S₀ l c)
  unmet e = ap (λ b. pick b (passing l (is_to_come S₀ l c)) []) (eq-eqb c.ended 0 e)

  pub members_right : MembersRight M l c
  members_right = record {
    in_turn = λ n. taken S₀ l (replicate n M) c (each_replicate (Holds S₀ l c.handle) n M its_own) f
        ∙ ap (λ m. given_in_turn m (to_come S₀ l c) c) (length-replicate n M);
    all = λ g e. unmet e ∙ passing_alike l (is_to_come S₀ l c) (is_member S₀ c.handle)
        (λ p P. ap (λ b. is_member S₀ c.handle p && (b || is_before (packet l c.last) p)) (eq-eqb c.given 0 g) ∙ and-true (is_member S₀ c.handle p));
    order = order_iff (λ p. one_iff (walk set S₀ c.handle p)) (in_order l (is_member S₀ c.handle));
    after = λ g e. subst (InOrder l (λ p. contains S₀ c.handle p × (is_before (packet l c.last) p ≡ true))) (sym (unmet e))
        (order_iff (λ p. and_iff (is_member S₀ c.handle p) _ (one_iff (walk set S₀ c.handle p))
        (subst (λ b. ((b || is_before (packet l c.last) p) ≡ true) ↔ (is_before (packet l c.last) p ≡ true)) (sym (ne_eqb c.given 0 g))
        (λ t. t, λ t. t))) (in_order l (is_to_come S₀ l c)));
  }

-- OVER A HISTORY: its first calls are one too
abbrev first_calls : (H : History) (cs later : List Made) → H.calls ≡ cs ++ later → History
first_calls H cs later is = record {
  width = H.width;
  new = H.new;
  is_new = H.is_new;
  top = H.top;
  accepted = H.accepted;
  calls = cs;
  in_turn = lent_before cs later H.new.after (subst (LentInTurn H.new.after) is H.in_turn);
  none_renews = none_before cs later (subst NoneRenews is H.none_renews);
}

module _ (H : History) (before : List Made) (l h : ℕ) (A : Held set (decode (memories_after H before)) l h) where
  holds_at : (M : Memories) → MomentAfter H before M → Holds (decode (memories_after H before)) l h M
  holds_at M m =
      let R = every_history (first_calls H (before ++ m.between) m.later (m.is ∙ sym (append_assoc before m.between m.later))) in
      subst (Holds (decode (memories_after H before)) l h) (sym m.there)
      (record { store = R.matches.store; lasts = R.lasts before m.between refl set l h A })

  each_holds : (Ms : List Memories) → Each (MomentAfter H before) Ms → Each (Holds (decode (memories_after H before)) l h) Ms
  each_holds [] E = tt
  each_holds (M ∷ Ms) E = (holds_at M E.0, each_holds Ms E.1)

pub never_altered : (H : History) → NeverAltered H
never_altered H = record {
  in_turn = λ before l c A f Ms E. taken (decode (memories_after H before)) l Ms c (each_holds H before l c.handle A Ms E) f;
  alike = λ before l c A M M' m m'. one_answer c (holds_at H before l c.handle A M m) (holds_at H before l c.handle A M' m');
}
