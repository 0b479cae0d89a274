-- A history is a list of steps: what its calls answered, added and left is `reply_step` of each on the memories before it. From the
-- promises alone; nothing is known of the working memories.
use mathlib.Core.Path.{◌≡◌, refl, sym, ap, ◌∙◌, subst}
use mathlib.Core.List.{List, [], ◌∷◌, ◌++◌}
use Prim.Native.Nat.{ℕ}
use lib.ListN.{length, replicate}
use Rattle.store_check.specs.Memory.{Memories}
use Rattle.store.specs.Calls.{Call, new_store, set_call, set_read, relation_call, relation_read, image_call, filter_call, path_read, step}
use Rattle.call_rules.specs.Added.{node_counts, held_in}
use Rattle.call_rules.specs.Outcome.{outcome, map_answer}
use Rattle.call_rules.specs.declared.Answer.{Answer}
use Rattle.std.specs.Prelude.{Result}
use Rattle.call_rules.specs.declared.Refusal.{Refusal}
use Rattle.call_rules.specs.declared.added.NodeCounts.{NodeCounts}
use Rattle.call_rules.proofs.Counting.{without_counts}
use Rattle.theorems.specs.AllCalls.{AnyCall, call, policy, AnyAnswer, answered, read, any_refusal, any_step, Effect, adds, reads, effect, nodes_added}
use Rattle.theorems.specs.AllCalls.{AnyReply, reply_step, AnyContinues, all_calls}
use Rattle.theorems.specs.EveryHistory.{arguments, replies}
use Rattle.theorems.specs.Histories.{Promised, of_new, of_adding, of_reading, of_policy, Made, LentInTurn, left_after, NoneRenews}
use Rattle.theorems.specs.Lists.{in_turn, each_call, steps, AllContinue, Refused}

-- ONE CALL: its promise, as a step
by_effect : (x : AnyCall) (M : Memories) (f : Effect) → effect x ≡ f
    → (let t = any_step x M in
    outcome (t.answer, nodes_added f (any_refusal t.answer) (held_in M) (held_in t.state)) t.state ≡ reply_step x M)
by_effect x M f e = let t = any_step x M in
    λ i. outcome (t.answer, nodes_added (sym e i) (any_refusal t.answer) (held_in M) (held_in t.state)) t.state

pub is_reply_step : {x : AnyCall} {M M' : Memories} {w w' : List ℕ} {r : AnyReply} → Promised x M M' w w' r → outcome r M' ≡ reply_step x M
unfolding any_step effect
is_reply_step (of_new p) = ap (map_answer (λ r. (answered r.0, r.1))) p.0
is_reply_step {x} {M} (of_adding e p) = ap (map_answer (λ r. (answered r.0, r.1))) p.0 ∙ by_effect x M adds e
is_reply_step {x} {M} (of_reading e p) = ap (map_answer (λ a. (answered a, node_counts 0 0))) p.0 ∙ by_effect x M reads e
is_reply_step (of_policy p) = ap (map_answer (λ r. (read r.0, r.1))) p.0

-- without the nodes that it added
pub is_any_step : {x : AnyCall} {M M' : Memories} {w w' : List ℕ} {a : AnyAnswer} {n : NodeCounts} → Promised x M M' w w' (a, n) → outcome a M' ≡ any_step x M
is_any_step p = without_counts (is_reply_step p)

-- a call that renews nothing continues the store that is there
continues : (x : AnyCall) {M M' : Memories} {w w' : List ℕ} {b : AnyAnswer} {n : NodeCounts} → Promised x M M' w w' (b, n)
    → ((k : ℕ) (a : Result Answer Refusal) → x ≡ call (new_store k) → b ≡ answered a → Refused a) → AnyContinues x M
unfolding any_step
continues (call c) p n = λ k e. n k _ (ap call e) (ap (λ t. t.answer) (is_any_step p))
continues (policy t) p n = tt

-- the step of a call that was made on M
pub made_step : (c : Made) (M : Memories) → c.before ≡ M → outcome (c.answer, c.added) c.after ≡ reply_step c.what M
made_step c M e = is_reply_step c.promised ∙ ap (reply_step c.what) e

-- every call can be one that was made, on any memories and with any working memory: of its answer, its memories and zeros
module _ (M : Memories) (w : List ℕ) where
  call_promised : (c : Call) → Promised (call c) M (step c M).state w (replicate (length w) 0) (reply_step (call c) M).answer
  unfolding any_step effect
  call_promised (new_store k) = of_new (refl, refl)
  call_promised (set_call c) = of_adding refl (refl, refl)
  call_promised (set_read c) = of_reading refl (refl, refl)
  call_promised (relation_call c) = of_adding refl (refl, refl)
  call_promised (relation_read c) = of_reading refl (refl, refl)
  call_promised (image_call c) = of_adding refl (refl, refl)
  call_promised (filter_call c) = of_adding refl (refl, refl)
  call_promised (path_read c) = of_reading refl (refl, refl)

  pub any_promised : (x : AnyCall) → Promised x M (any_step x M).state w (replicate (length w) 0) (reply_step x M).answer
  unfolding any_step effect
  any_promised (call c) = call_promised c
  any_promised (policy t) = of_policy (refl, refl)

abbrev pub made : AnyCall → Memories → List ℕ → Made
made x M w = record {
  what = x;
  before = M;
  after = (any_step x M).state;
  work = w;
  work' = replicate (length w) 0;
  answer = (any_step x M).answer;
  added = (reply_step x M).answer.1;
  promised = any_promised M w x;
}

-- CALLS IN TURN, the first lent M
pub made_replies : (cs : List Made) (M : Memories) → LentInTurn M cs → replies cs ≡ (steps all_calls (arguments cs) M).answers
unfolding LentInTurn in_turn
made_replies [] M h = refl
made_replies (c ∷ cs) M h = let e = made_step c M h.0 in
    λ i. (e i).answer ∷ (made_replies cs c.after h.1 ∙ ap (λ t. (steps all_calls (arguments cs) t.state).answers) e) i

pub made_end : (cs : List Made) (M : Memories) → LentInTurn M cs → left_after M cs ≡ (steps all_calls (arguments cs) M).state
unfolding LentInTurn left_after in_turn
made_end [] M h = refl
made_end (c ∷ cs) M h = made_end cs c.after h.1 ∙ ap (λ t. (steps all_calls (arguments cs) t.state).state) (made_step c M h.0)

pub made_continues : (cs : List Made) (M : Memories) → LentInTurn M cs → NoneRenews cs → AllContinue all_calls (arguments cs) M
unfolding LentInTurn NoneRenews each_call
made_continues [] M h n = tt
made_continues (c ∷ cs) M h n = (
  subst (AnyContinues c.what) h.0 (continues c.what c.promised n.0),
  subst (λ t. AllContinue all_calls (arguments cs) t.state) (made_step c M h.0) (made_continues cs c.after h.1 n.1),
)

-- IN TWO PARTS
pub left_parted : (before later : List Made) (M : Memories) → left_after M (before ++ later) ≡ left_after (left_after M before) later
unfolding left_after
left_parted [] later M = refl
left_parted (c ∷ before) later M = left_parted before later c.after

pub lent_before : (before later : List Made) (M : Memories) → LentInTurn M (before ++ later) → LentInTurn M before
unfolding LentInTurn
lent_before [] later M h = tt
lent_before (c ∷ before) later M h = (h.0, lent_before before later c.after h.1)

pub lent_later : (before later : List Made) (M : Memories) → LentInTurn M (before ++ later) → LentInTurn (left_after M before) later
unfolding LentInTurn left_after
lent_later [] later M h = h
lent_later (c ∷ before) later M h = lent_later before later c.after h.1

pub none_before : (before later : List Made) → NoneRenews (before ++ later) → NoneRenews before
unfolding NoneRenews
none_before [] later n = tt
none_before (c ∷ before) later n = (n.0, none_before before later n.1)
