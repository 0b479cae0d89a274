-- The outcome of a call on two memories: a refusal or an answer leaves them, and a program that ran on the nodes of one kind
-- leaves what `finish` made of that kind's memory.
use mathlib.Core.Path.{◌≡◌, refl, sym, ap, ◌∙◌, subst}
use mathlib.Core.List.{List, [], ◌∷◌, ◌++◌}
use mathlib.Core.Bool.{Bool, true, false, ◌&&◌}
use Prim.Native.Nat.{ℕ, ◌+◌, ◌*◌, ◌<◌, ◌≤◌}
use native.Mathlib.Omega.{arith}
use native.Mathlib.Nat.{mul-le-mul_left}
use lib.ListN.{length, get_or, set as put, take, drop, length-drop}
use lib.Seq.{take-add, drop-drop, length-take-le, take-append-add, drop-append-add, get_or-take, set-append_left, set-get_or}
use lib.Dec.{leb}
use borrow.Author.Tests.{le-leb}
use Rattle.model.specs.Store.{Kind, set, rel, arity, Nodes, Store, nodes, with_nodes, pick}
use Rattle.model.specs.Programs.{Prog, Ran, run}
use Rattle.model.specs.Places.{fits_places}
use Rattle.model.proofs.Bools.{by_test}
use Rattle.memory.specs.Rows.{rows, plain}
use Rattle.memory.specs.Performing.{RunState, run_state, other, ends, Runs}
use Rattle.memory.proofs.Rows.{rows_length, places_fit, plain_nodes}
use Rattle.call_rules.specs.OnMemories.{set_places, rel_places, on_store}
use Rattle.call_rules.specs.Finishing.{Finished, Fitted, Ends}
use Rattle.store_check.specs.Commit.{Committed}
use Rattle.store_check.specs.Memory.{Memories, memories, memory, count, fields, body, places_in, nodes_in, decode, write, encode}
use Rattle.store_check.specs.Memory.{head_of, head, count_at, fields_at}
use Rattle.call_rules.specs.Outcome.{Verdict, gives, runs, guard, unless_declined, as_handle, Outcome, outcome, finishes}
use Rattle.store_check.specs.Valid.{Room, IsStore, is_store}
use Rattle.call_rules.specs.declared.Answer.{Answer}
use Rattle.call_rules.specs.declared.Answer.TheVariants.{Handle}
use Rattle.std.specs.Prelude.{Result, Ok, Err}
use Rattle.call_rules.specs.Outcome.{Check}
use Rattle.call_rules.specs.declared.Refusal.{Refusal}
use Rattle.call_rules.specs.declared.Refusal.TheVariants.{NotStore, UsedUp}
use Rattle.store_check.proofs.Decide.{store_says}
use Rattle.store_check.proofs.Deciding.{decided_true}
use Rattle.call_rules.proofs.Handles.{guard_yes, guard_no}
use Rattle.call_rules.proofs.Writing.{spread, room_free, write_body, write_back, cleared_back}

-- HEADS. A memory's head with another count
abbrev pub recount : Kind → List ℕ → ℕ → List ℕ
recount K m n = head_of K (get_or m fields_at 0) n

put_head : (K : Kind) (m : List ℕ) (n : ℕ) → head K ≤ length m → put (take (head K) m) (count_at K) n ≡ recount K m n
put_head set [] n h = absurd (omega arith)
put_head set (x ∷ m) n h = refl
put_head rel [] n h = absurd (omega arith)
put_head rel (x ∷ []) n h = absurd (omega arith)
put_head rel (x ∷ y ∷ m) n h = refl

-- the count is in the head
count_in_head : (K : Kind) → count_at K < head K
count_in_head set = omega arith
count_in_head rel = omega arith

pub put_count : (K : Kind) (m b : List ℕ) (n : ℕ) → head K ≤ length m → put (take (head K) m ++ b) (count_at K) n ≡ recount K m n ++ b
put_count K m b n h = set-append_left (take (head K) m) b (count_at K) n (omega (arith, count_in_head K, length-take-le (head K) m h))
    ∙ ap (λ a. a ++ b) (put_head K m n h)

same_count : (K : Kind) (m : List ℕ) → head K ≤ length m → recount K m (count K m) ≡ take (head K) m
same_count K m h = sym (put_head K m (count K m) h)
    ∙ ap (put (take (head K) m) (count_at K)) (sym (get_or-take (head K) m (count_at K) 0 (count_in_head K))) ∙ set-get_or (take (head K) m) (count_at K) 0

-- ONE MEMORY: m before the call, m₁ with the nodes b that a program left, m' after `commit`
module _ (K : Kind) (p : Prog) (B : Store) (m m₁ m' b w w' : List ℕ) (r : RunState) (R : Room K m)
    (P : Runs K p B (run_state true (count K m) 0) (body K m) b w w' r) (put_back : m₁ ≡ take (head K) m ++ b)
    (C : Committed m₁ m' (count_at K) (head K) (arity K) (count K m) r) where
  abbrev S : Store
  S = plain K B (body K m) (count K m)

  -- the nodes that the program leaves, where all fitted
  left : r.ok ≡ true → nodes K (run p S).store ≡ rows (arity K) r.n b
  left t = ap (nodes K) (sym (P.done t).store) ∙ plain_nodes K B b r.n

  pub fitted_count : r.ok ≡ true → length (nodes K (run p S).store) ≡ r.n
  fitted_count t = ap length (left t) ∙ rows_length (arity K) r.n b

  pub fitted_memory : r.ok ≡ true → (let N = nodes K (run p S).store in m' ≡ write K (recount K m (length N)) N m)
  fitted_memory t =
      let W = P.writes in
      let l = fitted_count t in
      let q : write K (recount K m r.n) (rows (arity K) r.n b) m ≡ recount K m r.n ++ b
      = write_body K _ m b r.n (room_free K m r.n R W.grows W.most) (record { long = W.long; rest = W.rest }) in
      C.fitted t ∙ ap (λ x. put x (count_at K) r.n) put_back ∙ put_count K m b r.n R.headed ∙ sym q
      ∙ sym (λ i. write K (recount K m (l i)) (left t i) m)

  pub full_memory : r.ok ≡ false → m' ≡ m
  full_memory f =
      let W = P.writes in
      let c = arity K in
      let n = count K m in
      let h : length (take (head K) m) ≡ head K = length-take-le (head K) m R.headed in
      let g = mul-le-mul_left c W.grows in
      let e = places_fit c (body K m) r.n W.most in
      let top = mul-le-mul_left c W.most in
      let x = spread c n (places_in K m) R.within in
      let t : take (head K + c * n) m₁ ≡ take (head K + c * n) m
      = ap (take (head K + c * n)) put_back ∙ ap (λ k. take (k + c * n) (take (head K) m ++ b)) (sym h) ∙ take-append-add (take (head K) m) b (c * n)
      ∙ ap (λ x. take (head K) m ++ x) W.head ∙ sym (take-add (head K) (c * n) m) in
      let d : drop (head K + c * r.n) m₁ ≡ drop (head K + c * r.n) m
      = ap (drop (head K + c * r.n)) put_back ∙ ap (λ k. drop (k + c * r.n) (take (head K) m ++ b)) (sym h) ∙ drop-append-add (take (head K) m) b (c * r.n)
      ∙ W.rest ∙ drop-drop (c * r.n) (head K) m in
      C.full f ∙ cleared_back m m₁ (head K + c * n) (head K + c * r.n) (omega arith) (omega (arith, length-drop (head K) m, R.headed))
      (λ j l. R.blank j (omega arith)) t d

-- BOTH MEMORIES
abbrev pub with_memory : Kind → List ℕ → Memories → Memories
with_memory set m M = memories M.relations m
with_memory rel m M = memories m M.sets

-- a memory's nodes are as many as its head counts
pub nodes_count : (K : Kind) (m : List ℕ) → length (nodes_in K m) ≡ count K m
nodes_count K m = rows_length (arity K) (count K m) (body K m)

-- a memory written again
pub same_memory : (K : Kind) (m : List ℕ) → Room K m → write K (recount K m (length (nodes_in K m))) (nodes_in K m) m ≡ m
same_memory K m R = ap (λ h. write K h (nodes_in K m) m) (ap (recount K m) (nodes_count K m) ∙ same_count K m R.headed) ∙ write_back K m R

-- other nodes of one kind: only that kind's memory is written
pub encode_one : (K : Kind) (M : Memories) (N : Nodes) → IsStore M
    → encode (fields M) (with_nodes K N (decode M)) M ≡ with_memory K (write K (recount K (memory K M) (length N)) N (memory K M)) M
unfolding encode decode
encode_one set M N s = ap (λ r. memories r (write set (recount set M.sets (length N)) N M.sets)) (same_memory rel M.relations (s.room rel))
encode_one rel M N s = ap (λ t. memories (write rel (recount rel M.relations (length N)) N M.relations) t) (same_memory set M.sets (s.room set))

-- the outcome of a verdict on the memories M; `refuse` makes answers of refusals
abbrev pub ended : {A : Type 0} → (Refusal → A) → Memories → Verdict A → Outcome A Memories
ended refuse M u = finishes (refuse UsedUp) (set_places M) (rel_places M) u (decode M) M (λ S. encode (fields M) S M)

module _ {A : Type 0} (refuse : Refusal → A) (v : ℕ → Store → Verdict A) (M : Memories) where
  -- from whether the memories are a store
  begins : (c : Check) → guard NotStore (is_store M) (Ok (fields M)) ≡ c
      → on_store refuse v M ≡ ended refuse M (unless_declined refuse c (λ k. v k (decode M)))
  unfolding on_store
  begins c e = ap (λ c. ended refuse M (unless_declined refuse c (λ k. v k (decode M)))) e

  pub not_store : is_store M ≡ false → outcome (refuse NotStore) M ≡ on_store refuse v M
  unfolding finishes
  not_store e = sym (begins _ (guard_no _ _ _ e))

  -- on a store, the verdict is the call's
  module _ (s : IsStore M) where
    pub store_outcome : (u : Verdict A) → v (fields M) (decode M) ≡ u → on_store refuse v M ≡ ended refuse M u
    store_outcome u e = begins _ (guard_yes _ _ _ (decided_true (store_says M) s)) ∙ ap (ended refuse M) e

    pub given : (a : A) → v (fields M) (decode M) ≡ gives a → outcome a M ≡ on_store refuse v M
    unfolding finishes
    given a e = sym (store_outcome (gives a) e)

-- A PROGRAM that ran on the nodes of one kind
pub decoded : (K : Kind) (M : Memories) → plain K (decode M) (body K (memory K M)) (count K (memory K M)) ≡ decode M
unfolding decode
decoded set M = refl
decoded rel M = refl

nodes_few : (K : Kind) (M : Memories) → IsStore M → length (nodes K (decode M)) ≤ places_in K (memory K M)
unfolding decode
nodes_few set M s = subst (λ n. n ≤ set_places M) (sym (nodes_count set M.sets)) (s.room set).within
nodes_few rel M s = subst (λ n. n ≤ rel_places M) (sym (nodes_count rel M.relations)) (s.room rel).within

fits_one : (K : Kind) (M : Memories) (N : Nodes) → IsStore M → leb (length N) (places_in K (memory K M)) ≡ true
    → fits_places (set_places M) (rel_places M) (with_nodes K N (decode M)) ≡ true
fits_one set M N s e = rw (e, le-leb _ _ (nodes_few rel M s))
fits_one rel M N s e = rw (e, le-leb _ _ (nodes_few set M s))

pub and_false : (b c : Bool) → c ≡ false → (b && c) ≡ false
and_false true c e = e
and_false false c e = refl

full_one : (K : Kind) (M : Memories) (S : Store) → leb (length (nodes K S)) (places_in K (memory K M)) ≡ false
    → fits_places (set_places M) (rel_places M) S ≡ false
full_one set M S e = rw e
full_one rel M S e = and_false (leb (length S.sets) (set_places M)) (leb (length S.rels) (rel_places M)) e

with_same : (K : Kind) (M : Memories) → with_memory K (memory K M) M ≡ M
with_same set M = refl
with_same rel M = refl

with_twice : (K : Kind) (N : Nodes) (S : Store) → nodes K (with_nodes K N S) ≡ N
with_twice set N S = refl
with_twice rel N S = refl

with_others : (K : Kind) (N : Nodes) (S : Store) → nodes (other K) (with_nodes K N S) ≡ nodes (other K) S
with_others set N S = refl
with_others rel N S = refl

module _ {A : Type 0} (refuse : Refusal → A) (v : ℕ → Store → Verdict A) (M : Memories) (s : IsStore M) (K : Kind) (p : Prog) (g : Ran → A)
    (m₁ m' b w w' : List ℕ) (r : RunState) (a : A) (e : v (fields M) (decode M) ≡ runs p g)
    (P : Runs K p (decode M) (run_state true (count K (memory K M)) 0) (body K (memory K M)) b w w' r) (put_back : m₁ ≡ take (head K) (memory K M) ++ b)
    (C : Committed m₁ m' (count_at K) (head K) (arity K) (count K (memory K M)) r) (E : Ends K (decode M) r (run p (decode M)) g (refuse UsedUp) a) where
  abbrev S₀ : Store
  S₀ = plain K (decode M) (body K (memory K M)) (count K (memory K M))

  abbrev S' : Store
  S' = (run p (decode M)).store

  picked : on_store refuse v M
      ≡ pick (fits_places (set_places M) (rel_places M) S') (outcome (g (run p (decode M))) (encode (fields M) S' M)) (outcome (refuse UsedUp) M)
  unfolding finishes
  picked = store_outcome refuse v M s (runs p g) e

  same_run : run p S₀ ≡ run p (decode M)
  same_run = ap (run p) (decoded K M)

  okay : r.ok ≡ leb (length (nodes K S')) (places_in K (memory K M))
  unfolding ends
  okay = P.okay ∙ ap (λ R. leb (length (nodes K R.store)) (places_in K (memory K M))) same_run

  -- the run leaves the nodes of the other kind
  one_kind : r.ok ≡ true → S' ≡ with_nodes K (nodes K S') (decode M)
  one_kind t =
      let q : plain K (decode M) b r.n ≡ S' = (P.done t).store ∙ ap (λ R. R.store) same_run in
      sym q ∙ ap (λ N. with_nodes K N (decode M)) (sym (with_twice K (rows (arity K) r.n b) (decode M)) ∙ ap (nodes K) q)

  all_fitted : r.ok ≡ true → Fitted K (decode M) r (run p (decode M))
  all_fitted t = record {
    value = (P.done t).value ∙ ap (λ R. R.value) same_run;
    count = ap (λ R. length (nodes K R.store)) (sym same_run) ∙ fitted_count K p (decode M) (memory K M) m₁ m' b w w' r (s.room K) P put_back C t;
    others = ap (nodes (other K)) (one_kind t) ∙ with_others K (nodes K S') (decode M);
  }

  ran_fits : r.ok ≡ true → outcome a (with_memory K m' M) ≡ on_store refuse v M
  ran_fits t =
      let N = nodes K S' in
      let f : fits_places (set_places M) (rel_places M) S' ≡ true
      = ap (fits_places (set_places M) (rel_places M)) (one_kind t) ∙ fits_one K M N s (sym okay ∙ t) in
      let x : m' ≡ write K (recount K (memory K M) (length N)) N (memory K M)
      = fitted_memory K p (decode M) (memory K M) m₁ m' b w w' r (s.room K) P put_back C t
      ∙ ap (λ R. write K (recount K (memory K M) (length (nodes K R.store))) (nodes K R.store) (memory K M)) same_run in
      let y : encode (fields M) S' M ≡ with_memory K m' M
      = ap (λ S. encode (fields M) S M) (one_kind t) ∙ encode_one K M N s ∙ ap (λ x. with_memory K x M) (sym x) in
      sym (picked ∙ ap (λ b. pick b (outcome (g (run p (decode M))) (encode (fields M) S' M)) (outcome (refuse UsedUp) M)) f
      ∙ (λ i. outcome (sym (E.fitted t (all_fitted t)) i) (y i)))

  ran_full : r.ok ≡ false → outcome a (with_memory K m' M) ≡ on_store refuse v M
  ran_full t =
      let f = full_memory K p (decode M) (memory K M) m₁ m' b w w' r (s.room K) P put_back C t in
      let o = full_one K M S' (sym okay ∙ t) in
      (λ i. outcome (E.full t i) (with_memory K (f i) M)) ∙ ap (outcome (refuse UsedUp)) (with_same K M)
      ∙ sym (picked ∙ ap (λ b. pick b (outcome (g (run p (decode M))) (encode (fields M) S' M)) (outcome (refuse UsedUp) M)) o)

  pub ran_on : outcome a (with_memory K m' M) ≡ on_store refuse v M
  ran_on = by_test (λ b. r.ok ≡ b → outcome a (with_memory K m' M) ≡ on_store refuse v M) r.ok (λ t u. ran_fits u) (λ t u. ran_full u) refl

-- how `finish` ends a run that gives a handle
pub finished_ends : {m m' : List ℕ} {at start c n : ℕ} {r : RunState} {a : Result Answer Refusal} (K : Kind) (S : Store) (R : Ran)
    → Finished m m' at start c n r a → Ends K S r R as_handle (Err UsedUp) a
finished_ends K S R F = record { fitted = λ t D. F.fitted t ∙ ap (λ h. Ok (Handle h)) D.value; full = F.full }
