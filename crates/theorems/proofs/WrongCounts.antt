-- Two wrong versions of M-101's claims, refuted by the table of calls with the nodes that they add: that every accepted `mk` appends, and that a
-- call whose handle was held before adds nothing.
use mathlib.Core.Path.{◌≡◌, refl, ap}
use mathlib.Core.List.{List, map}
use Prim.Native.Nat.{ℕ, ◌+◌, ◌*◌, ◌<◌}
use native.Mathlib.Omega.{arith}
use lib.ListN.{get_or, replicate, take}
use Rattle.model.specs.Store.{set, rel, arity}
use Rattle.store_check.specs.Memory.{Memories, memories, head, count}
use Rattle.call_rules.specs.Added.{node_counts}
use Rattle.call_rules.specs.declared.Answer.TheVariants as store
use Rattle.policies.specs.Outcome.{policy_step}
use Rattle.std.specs.Prelude.{Ok}
use Rattle.store.specs.Calls.{new_store, set_call, step}
use Rattle.store.specs.declared.set_calls.SetCall.TheVariants.{Mk}
use Rattle.theorems.specs.Added.{its_answer, its_added}
use Rattle.theorems.specs.AllCalls.{AnyCall, call, policy, answered, read, any_step, AnyReply, reply_step, all_calls}
use Rattle.theorems.specs.Lists.{in_turn, steps}
use Rattle.theorems.specs.Worked.{either_value, added}
use Rattle.theorems.proofs.NewStore.{new_right}
use Rattle.theorems.proofs.Worked.{worked}

-- six places for relations and two for sets suffice for the table
abbrev lent : Memories
lent = memories (replicate (head rel + arity rel * 6) 0) (replicate (head set + arity set * 2) 0)

-- the calls of the table, and the memories after the first i of them
abbrev calls : List AnyCall
calls = map (λ w. w.0) added

abbrev after : ℕ → Memories
after i = (steps all_calls (take i calls) lent).state

-- the reply of call i
abbrev reply : ℕ → List AnyReply → AnyReply
reply i rs = get_or rs i (read (Ok 0), node_counts 0 0)

new_reply : its_answer (call (new_store 1)) lent ≡ answered (Ok (store.Handle 4))
unfolding in_turn
new_reply = ap (λ rs. (reply 0 rs).0) (worked.added_nodes lent refl refl)

text_reply : (reply_step (policy either_value) (after 1)).answer ≡ (read (Ok 3), node_counts 2 0)
unfolding in_turn
text_reply = ap (reply 1) (worked.added_nodes lent refl refl)

mk_reply : (reply_step (call (set_call (Mk 1 0))) (after 6)).answer ≡ (answered (Ok (store.Handle 5)), node_counts 0 0)
unfolding in_turn
mk_reply = ap (reply 6) (worked.added_nodes lent refl refl)

-- EVERY `MK` APPENDS
pub not_every_mk : ¬ ((M : Memories) (x0 x1 h : ℕ) → (step (set_call (Mk x0 x1)) M).answer ≡ Ok (store.Handle h)
    → (its_added (call (set_call (Mk x0 x1))) M).sets ≡ 1)
unfolding any_step
not_every_mk f =
    let e : answered (step (set_call (Mk 1 0)) (after 6)).answer ≡ answered (Ok (store.Handle 5)) = ap (λ r. r.0) mk_reply in
    let z : ⊥ = omega (arith, f (after 6) 1 0 5 (cc e), ap (λ r. r.1.sets) mk_reply) in z

-- A HANDLE THAT WAS HELD ADDS NOTHING
pub not_by_handle : ¬ ((t : List ℕ) (M : Memories) (h : ℕ) → (policy_step t M).answer ≡ Ok h → h < count rel M.relations + 2
    → its_added (policy t) M ≡ node_counts 0 0)
unfolding any_step in_turn
not_by_handle f =
    let e : read (policy_step either_value (after 1)).answer ≡ read (Ok 3) = ap (λ r. r.0) text_reply in
    let n : answered (step (new_store 1) lent).answer ≡ answered (Ok (store.Handle 4)) = new_reply in
    let old : 3 < count rel (after 1).relations + 2 = omega (arith, (new_right 1 lent 4 (cc n)).relations) in
    let z : ⊥ = omega (arith, ap (λ n. n.relations) (f either_value (after 1) 3 (cc e) old), ap (λ r. r.1.relations) text_reply) in z
