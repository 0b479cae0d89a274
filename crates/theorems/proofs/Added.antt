-- 02, M-101, of every call on any memories: the count after is the count before and the number added, unless `new` is accepted, and a refused call
-- adds nothing; what `new` adds; and what the calls of a history add together. From what a call leaves on any memories.
use mathlib.Core.Path.{◌≡◌, refl, sym, ap, ◌∙◌, subst}
use mathlib.Core.List.{List, [], ◌∷◌}
use mathlib.Core.Bool.{false}
use Prim.Native.Nat.{ℕ, ◌+◌, ◌≤◌}
use native.Mathlib.Omega.{arith}
use lib.Dec.{eqb}
use borrow.Author.Tests.{ne_eqb}
use Rattle.model.specs.Store.{Kind, set, rel, pick}
use Rattle.store_check.specs.Memory.{Memories, memory, count}
use Rattle.call_rules.specs.Added.{node_counts, of_kind, held_in, less, added_by_new}
use Rattle.call_rules.specs.Answers.{refusal}
use Rattle.call_rules.specs.Outcome.{outcome}
use Rattle.call_rules.specs.declared.Answer.TheVariants.{Handle}
use Rattle.std.specs.Prelude.{Ok}
use Rattle.call_rules.specs.declared.added.NodeCounts.{NodeCounts}
use Rattle.call_rules.proofs.Counting.{less_same, never_zero}
use Rattle.store.specs.Calls.{new_store, set_call, set_read, relation_call, relation_read, image_call, filter_call, path_read, step}
use Rattle.theorems.specs.Added.{its_added, its_memories, AddedRight, NewAdded, plus, together, AddedTogether}
use Rattle.theorems.specs.AllCalls.{AnyCall, call, policy, any_refusal, any_step, Effect, begins, adds, reads, effect}
use Rattle.theorems.specs.AllCalls.{nodes_added, reply_step, AnyContinues}
use Rattle.theorems.specs.Histories.{Made, LentInTurn, left_after, NoneRenews, History}
use Rattle.theorems.specs.Lists.{each_call, Refused}
use Rattle.theorems.proofs.AnyMemories.{refused_left, reading_left, never_fewer}
use Rattle.theorems.proofs.EveryHistory.{new_answer}
use Rattle.theorems.proofs.Histories.{is_reply_step, made_step, made_continues}
use Rattle.theorems.proofs.NewStore.{new_right}
use Rattle.theorems.proofs.Refusing.{fine_answer}

module _ (M : Memories) where
  -- the count after is the count before and the nodes added
  adds_up : (M' : Memories) → ((K : Kind) → count K (memory K M) ≤ count K (memory K M'))
      → (K : Kind) → count K (memory K M') ≡ count K (memory K M) + of_kind K (less (held_in M') (held_in M))
  adds_up M' h = elim [ set ↦ omega (arith, h set) | rel ↦ omega (arith, h rel) ]

  nothing_more : (M' : Memories) → M' ≡ M → (K : Kind) → count K (memory K M') ≡ count K (memory K M) + of_kind K (node_counts 0 0)
  nothing_more M' e = elim [ set ↦ omega (arith, ap (λ X. count set X.sets) e) | rel ↦ omega (arith, ap (λ X. count rel X.relations) e) ]

  -- THE CLAIM
  abbrev Grows : AnyCall → Type 0
  Grows c = (K : Kind) → count K (memory K (its_memories c M)) ≡ count K (memory K M) + of_kind K (its_added c M)

  new_grows : (k : ℕ) → Refused (step (new_store k) M).answer → Grows (call (new_store k))
  unfolding any_step effect
  new_grows k r = let f : fine_answer (step (new_store k) M).answer ≡ false = ap fine_answer r.is ∙ never_zero r.why in
      subst (λ b. (K : Kind) → count K (memory K (step (new_store k) M).state)
      ≡ count K (memory K M) + of_kind K (pick b (held_in (step (new_store k) M).state) (node_counts 0 0))) (sym f)
      (nothing_more _ (refused_left M (call (new_store k)) f))

  grows : (c : AnyCall) → AnyContinues c M → Grows c
  unfolding any_step effect
  grows (call (new_store k)) g = new_grows k (g k refl)
  grows (call (set_call c)) g = adds_up _ (never_fewer M (call (set_call c)) g)
  grows (call (set_read c)) g = nothing_more _ (reading_left M (call (set_read c)) refl)
  grows (call (relation_call c)) g = adds_up _ (never_fewer M (call (relation_call c)) g)
  grows (call (relation_read c)) g = nothing_more _ (reading_left M (call (relation_read c)) refl)
  grows (call (image_call c)) g = adds_up _ (never_fewer M (call (image_call c)) g)
  grows (call (filter_call c)) g = adds_up _ (never_fewer M (call (filter_call c)) g)
  grows (call (path_read c)) g = nothing_more _ (reading_left M (call (path_read c)) refl)
  grows (policy t) g = adds_up _ (never_fewer M (policy t) g)

  refused_none : (c : AnyCall) (f : Effect) → eqb (any_refusal (any_step c M).answer) 0 ≡ false
      → (let t = any_step c M in nodes_added f (any_refusal t.answer) (held_in M) (held_in t.state) ≡ node_counts 0 0)
  refused_none c begins r = ap (λ b. pick b (held_in (any_step c M).state) (node_counts 0 0)) r
  refused_none c adds r = ap (λ X. less (held_in X) (held_in M)) (refused_left M c r) ∙ less_same (held_in M)
  refused_none c reads r = refl

  pub added_right : (c : AnyCall) → AddedRight c M
  added_right c = record { grows = grows c; refused = λ r. refused_none c (effect c) (ne_eqb _ _ r) }

-- `NEW`
pub new_added : (k : ℕ) (M : Memories) (h : ℕ) → (step (new_store k) M).answer ≡ Ok (Handle h) → NewAdded k M
unfolding any_step effect
new_added k M h e =
    let r = new_right k M h e in
    let after = held_in (step (new_store k) M).state in
    let a : its_added (call (new_store k)) M ≡ after = ap (λ a. added_by_new (refusal a) after) e in
    record { after = a; counts = a ∙ (λ i. node_counts (r.relations i) (r.sets i)) }

-- OVER A HISTORY
of_plus : (K : Kind) (n m : NodeCounts) → of_kind K (plus n m) ≡ of_kind K n + of_kind K m
of_plus set n m = refl
of_plus rel n m = refl

-- calls in turn, the first lent M
in_turn_added : (K : Kind) (cs : List Made) (M : Memories) → LentInTurn M cs → NoneRenews cs
    → count K (memory K (left_after M cs)) ≡ count K (memory K M) + of_kind K (together cs)
unfolding LentInTurn left_after NoneRenews together each_call
in_turn_added set [] M h n = omega arith
in_turn_added rel [] M h n = omega arith
in_turn_added K (c ∷ cs) M h n =
    let here : count K (memory K c.after) ≡ count K (memory K M) + of_kind K c.added
    = subst (λ t. count K (memory K t.state) ≡ count K (memory K M) + of_kind K t.answer.1) (sym (made_step c M h.0))
    ((added_right M c.what).grows (made_continues (c ∷ cs) M h n).0 K) in
    omega (arith, here, in_turn_added K cs c.after h.1 n.1, of_plus K c.added (together cs))

module _ (H : History) where
  new_comes : outcome (H.new.answer, H.new.added) H.new.after ≡ reply_step (call (new_store H.width)) H.new.before
  new_comes = is_reply_step H.new.promised ∙ ap (λ x. reply_step x H.new.before) H.is_new

  new_holds : held_in H.new.after ≡ H.new.added
  new_holds = ap (λ t. held_in t.state) new_comes ∙ sym (new_added H.width H.new.before H.top (new_answer H)).after
      ∙ sym (ap (λ t. t.answer.1) new_comes)

  pub added_together : AddedTogether H
  added_together = record {
    held_at_end = λ K. in_turn_added K H.calls H.new.after H.in_turn H.none_renews
        ∙ ap (λ n. n + of_kind K (together H.calls)) (of_held K ∙ ap (of_kind K) new_holds);
  }
    where
      of_held : (K : Kind) → count K (memory K H.new.after) ≡ of_kind K (held_in H.new.after)
      of_held set = refl
      of_held rel = refl
