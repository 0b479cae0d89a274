-- What a job asks for: a call that answers with a handle, yes or no, never `new`, and the same whatever its spare operands are. From the table of
-- operations.
use mathlib.Core.Path.{◌≡◌, refl, sym, ap, ◌∙◌}
use mathlib.Core.List.{List, [], ◌∷◌, map}
use mathlib.Core.Bool.{Bool, true, false}
use Prim.Native.Nat.{ℕ, zero, suc, ◌-◌}
use lib.ListN.{get_or, replicate, get_or-map}
use lib.Dec.{eqb}
use Rattle.std.specs.Prelude.{Option, Some, None}
use Rattle.model.specs.Store.{pick}
use Rattle.model.proofs.Bools.{by_test, no_true}
use Rattle.store.specs.Calls.{Call, new_store, set_call, set_read, relation_call, relation_read, image_call, filter_call, path_read}
use Rattle.store.specs.declared.path_reads.PathRead.TheVariants as P
use Rattle.store.specs.declared.relation_reads.RelationRead.TheVariants as RR
use Rattle.store.specs.declared.set_calls.SetCall.TheVariants.{Zero}
use Rattle.store.specs.declared.set_reads.SetRead.TheVariants as SR
use Rattle.jobs.specs.Jobs.{set_handle, relation_handle, named, stands_for, Asks, calls, refuses, with_values, asks}
use Rattle.jobs.specs.Operations.{Operation, nullary, operations, is_known_operation, numbered}
use Rattle.jobs.specs.declared.Job.{Job}
use Rattle.jobs.specs.declared.Operand.{Operand}
use Rattle.jobs.specs.declared.operations.Slot.{Slot}
use Rattle.jobs.specs.declared.operations.Slot.TheVariants.{Spare, Set, Relation, Number}
use Rattle.theorems.specs.JobLists.{SameOperand, SpareIgnored}

-- WHICH CALLS THEY ARE: the test of one that answers with a handle, yes or no, and is no `new`
abbrev pub is_job_call : Call → Bool
is_job_call (new_store k) = false
is_job_call (set_call c) = true
is_job_call (set_read (SR.Get a)) = false
is_job_call (set_read (SR.Complement a)) = true
is_job_call (set_read (SR.IsZero a)) = true
is_job_call (set_read (SR.Intersects a b)) = true
is_job_call (set_read (SR.Next c)) = false
is_job_call (relation_call c) = true
is_job_call (relation_read (RR.Get a)) = false
is_job_call (relation_read (RR.IsZero a)) = true
is_job_call (relation_read (RR.Relates a p q)) = true
is_job_call (image_call c) = true
is_job_call (filter_call c) = true
is_job_call (path_read (P.HasImage p a)) = true
is_job_call (path_read (P.HasPath p a q)) = true
is_job_call (path_read (P.FirstPath p a q)) = false

-- of the table, entry by entry
everywhere : {A : Type 0} (n i : ℕ) (a : A) → get_or (replicate n a) i a ≡ a
everywhere zero i a = refl
everywhere (suc n) zero a = refl
everywhere (suc n) (suc i) a = everywhere n i a

abbrev is_entry : Operation → ℕ → ℕ → ℕ → Bool
is_entry o x y z = is_job_call (o.call x y z)

all_entries : map is_entry operations ≡ replicate 38 (λ x y z. true)
all_entries = refl

numbered_is : (n x y z : ℕ) → is_entry (numbered n) x y z ≡ true
unfolding numbered
numbered_is n x y z = let other = nullary (set_call Zero) in
    ap (λ f. f x y z) (sym (get_or-map is_entry operations (n - 1) other) ∙ ap (λ t. get_or t (n - 1) (λ x y z. true)) all_entries
    ∙ everywhere 38 (n - 1) (λ x y z. true))

-- so of what a job asks for
abbrev does_ask : Asks → Bool
does_ask (calls c) = is_job_call c
does_ask (refuses r) = true

values_are : (o : Operation) → ((x y z : ℕ) → is_entry o x y z ≡ true) → (u v w : Option ℕ) → does_ask (with_values o u v w) ≡ true
values_are o h (Some x) (Some y) (Some z) = h x y z
values_are o h (Some x) (Some y) None = refl
values_are o h (Some x) None w = refl
values_are o h None v w = refl

pub asks_job_call : (j a b c : Job) (d : Call) → asks j a b c ≡ calls d → is_job_call d ≡ true
unfolding asks
asks_job_call j a b c d e =
    let o = numbered j.operation in
    let u = stands_for o.operands.a j.a a in
    let v = stands_for o.operands.b j.b b in
    let w = stands_for o.operands.c j.c c in
    ap does_ask (sym e) ∙ by_test (λ t. does_ask (pick t (with_values o u v w) (refuses 12)) ≡ true) (is_known_operation j.operation)
    (λ _. values_are o (numbered_is j.operation) u v w) (λ _. refl)

-- NEVER `NEW`
abbrev pub NotNew : Call → Type 0
NotNew c = (k : ℕ) → c ≡ new_store k → ⊥

pub asks_kept : (j a b c : Job) (d : Call) → asks j a b c ≡ calls d → NotNew d
asks_kept j a b c d e k f = no_true (ap is_job_call f) (asks_job_call j a b c d e)

-- SPARE OPERANDS. Where an operand names no earlier job, the record is the job itself, whose answer is the same
module _ (j k : Job) (kind : j.kind ≡ k.kind) (value : j.value ≡ k.value) where
  named_kind : (done : List Job) (i : ℕ) → (get_or done i j).kind ≡ (get_or done i k).kind
  named_kind [] i = kind
  named_kind (r ∷ done) zero = refl
  named_kind (r ∷ done) (suc i) = named_kind done i

  named_value : (done : List Job) (i : ℕ) → (get_or done i j).value ≡ (get_or done i k).value
  named_value [] i = value
  named_value (r ∷ done) zero = refl
  named_value (r ∷ done) (suc i) = named_value done i

  stands_alike : (s : Slot) (o : Operand) (done : List Job) → stands_for s o (named done j o) ≡ stands_for s o (named done k o)
  stands_alike Spare o done = refl
  stands_alike Set o done = λ i. pick (eqb o.job 0) (Some o.number)
      (pick (eqb (named_kind done o.number i) set_handle) (Some (named_value done o.number i)) None)
  stands_alike Relation o done = λ i. pick (eqb o.job 0) (Some o.number)
      (pick (eqb (named_kind done o.number i) relation_handle) (Some (named_value done o.number i)) None)
  stands_alike Number o done = refl

  stands_same : (s : Slot) (o p : Operand) (done : List Job) → SameOperand s o p → stands_for s o (named done j o) ≡ stands_for s p (named done k p)
  stands_same Spare o p done e = refl
  stands_same Set o p done e = stands_alike Set o done ∙ ap (λ o. stands_for Set o (named done k o)) e
  stands_same Relation o p done e = stands_alike Relation o done ∙ ap (λ o. stands_for Relation o (named done k o)) e
  stands_same Number o p done e = stands_alike Number o done ∙ ap (λ o. stands_for Number o (named done k o)) e

pub spare_ignored : SpareIgnored
unfolding asks
spare_ignored j k S done =
    let o = numbered j.operation in
    let same : (s : Slot) (p q : Operand) → SameOperand s p q → stands_for s p (named done j p) ≡ stands_for s q (named done k q)
    = λ s p q. stands_same j k S.kind S.value s p q done in
    let a = same o.operands.a j.a k.a S.a in
    let b = same o.operands.b j.b k.b S.b in
    let c = same o.operands.c j.c k.c S.c in
    (λ i. pick (is_known_operation j.operation) (with_values o (a i) (b i) (c i)) (refuses 12))
    ∙ ap (λ n. (let o = numbered n in pick (is_known_operation n) (with_values o (stands_for o.operands.a k.a (named done k k.a))
    (stands_for o.operands.b k.b (named done k k.b)) (stands_for o.operands.c k.c (named done k k.c))) (refuses 12))) S.operation
