-- One call on any memories, store or not: refused, or where it only reads, it leaves them, and no count falls unless `new` is accepted.
-- From what the call does to the plain store that the memories hold.
use mathlib.Core.Path.{◌≡◌, refl, sym, ap, ◌∙◌, subst}
use mathlib.Core.Bool.{false}
use Prim.Native.Nat.{◌≤◌}
use native.Mathlib.Omega.{arith}
use lib.Dec.{eqb, T}
use lib.ListN.{length, length-append}
use Rattle.model.specs.Images.{blank, new}
use Rattle.model.specs.Store.{Kind, nodes}
use Rattle.model.proofs.Bools.{by_test, no_true}
use Rattle.store_check.specs.Memory.{Memories, memory, count, fields, decode, encode}
use Rattle.store_check.specs.Valid.{is_store, IsStore}
use Rattle.store_check.proofs.Decide.{store_says}
use Rattle.call_rules.specs.OnMemories.{set_places, rel_places, new_declines, new_step}
use Rattle.call_rules.specs.declared.Answer.{Answer}
use Rattle.std.specs.Prelude.{Result, Ok, Err}
use Rattle.call_rules.specs.declared.Refusal.{Refusal}
use Rattle.call_rules.specs.declared.Answer.TheVariants.{Handle, Truth, SetNode, RelationNode, Pair, Nothing, Member}
use Rattle.call_rules.proofs.Outcomes.{not_store}
use Rattle.policies.specs.Outcome.{refused, text_verdict, policy_step}
use Rattle.store.specs.Calls.{new_store, set_call, set_read, relation_call, relation_read, image_call, filter_call, path_read, step}
use Rattle.store.specs.ImageCalls.{image_verdict, filter_verdict, path_verdict}
use Rattle.store.specs.RelationCalls.{relation_verdict, relation_read_verdict}
use Rattle.store.specs.SetCalls.{set_verdict, set_read_verdict}
use Rattle.theorems.specs.AcceptedAlone.{does_read}
use Rattle.theorems.specs.AllCalls.{AnyCall, call, policy, any_refusal, any_step, plain_any_step, reads, effect}
use Rattle.theorems.specs.AllCalls.{AnyContinues}
use Rattle.theorems.specs.Lists.{Refused}
use Rattle.theorems.specs.PlainStore.{Plain, plain_store}
use Rattle.theorems.proofs.AllCalls.{any_alike, any_grown}
use Rattle.theorems.proofs.AnyStore.{matches_own}
use Rattle.theorems.proofs.Matching.{matches_count}
use Rattle.theorems.proofs.OneCall.{refused_stays}
use Rattle.theorems.proofs.Refusing.{fine_answer, any_parts, reads_stay}

is_refused : (a : Result Answer Refusal) → fine_answer a ≡ false → Refused a
is_refused (Ok (Handle h)) f = absurd (no_true f refl)
is_refused (Ok (Truth b)) f = absurd (no_true f refl)
is_refused (Ok (SetNode x0 x1)) f = absurd (no_true f refl)
is_refused (Ok (RelationNode x00 x01 x10 x11)) f = absurd (no_true f refl)
is_refused (Err r) f = record { why = r; is = refl }
is_refused (Ok (Pair x y)) f = absurd (no_true f refl)
is_refused (Ok Nothing) f = absurd (no_true f refl)
is_refused (Ok (Member x)) f = absurd (no_true f refl)

module _ (M : Memories) where
  -- memories that are no store, unless a `new` begins one there
  none_there : is_store M ≡ false → (c : AnyCall) → AnyContinues c M → (any_step c M).state ≡ M
  unfolding any_step step new_step policy_step
  none_there e (call (new_store k)) g = refused_stays (set_places M) (rel_places M) (new_declines k M) new blank M (λ S. encode k S M) (g k refl)
  none_there e (call (set_call c)) g = sym (ap (λ t. t.state) (not_store Err (set_verdict c) M e))
  none_there e (call (set_read c)) g = sym (ap (λ t. t.state) (not_store Err (set_read_verdict c) M e))
  none_there e (call (relation_call c)) g = sym (ap (λ t. t.state) (not_store Err (relation_verdict c) M e))
  none_there e (call (relation_read c)) g = sym (ap (λ t. t.state) (not_store Err (relation_read_verdict c) M e))
  none_there e (call (image_call c)) g = sym (ap (λ t. t.state) (not_store Err (image_verdict c) M e))
  none_there e (call (filter_call c)) g = sym (ap (λ t. t.state) (not_store Err (filter_verdict c) M e))
  none_there e (call (path_read c)) g = sym (ap (λ t. t.state) (not_store Err (path_verdict c) M e))
  none_there e (policy t) g = sym (ap (λ t. t.state) (not_store refused (text_verdict t) M e))

  abbrev own : Plain
  own = plain_store (fields M) (decode M)

  -- a store, where the lists that it holds are left
  lists_left : IsStore M → (c : AnyCall) → (plain_any_step (set_places M) (rel_places M) c own).state ≡ own → (any_step c M).state ≡ M
  lists_left s c e = (any_alike (matches_own s) c).matches.written ∙ ap (λ P. encode P.width P.lists M) e ∙ sym (matches_own s).written

  pub by_store : {Q : Type 0} → (IsStore M → Q) → (is_store M ≡ false → Q) → Q
  by_store {Q} y n = by_test (λ b. is_store M ≡ b → Q) (is_store M) (λ _ e. y ((store_says M).iff.0 (subst T (sym e) tt))) (λ _ e. n e) refl

  refused_continues : (c : AnyCall) → eqb (any_refusal (any_step c M).answer) 0 ≡ false → AnyContinues c M
  unfolding any_step
  refused_continues (call c) f = λ k e. is_refused (step c M).answer f
  refused_continues (policy t) f = tt

  reading_continues : (c : AnyCall) → effect c ≡ reads → AnyContinues c M
  unfolding effect
  reading_continues (call c) r = λ k e. absurd (no_true (ap (λ x. does_read (effect (call x))) e) (ap does_read r))
  reading_continues (policy t) r = tt

  pub refused_left : (c : AnyCall) → eqb (any_refusal (any_step c M).answer) 0 ≡ false → (any_step c M).state ≡ M
  refused_left c f = by_store
      (λ s. lists_left s c ((any_parts (set_places M) (rel_places M) c own).no
      (subst (λ a. eqb (any_refusal a) 0 ≡ false) (any_alike (matches_own s) c).answer f)))
      (λ e. none_there e c (refused_continues c f))

  pub reading_left : (c : AnyCall) → effect c ≡ reads → (any_step c M).state ≡ M
  reading_left c r = by_store (λ s. lists_left s c (reads_stay (set_places M) (rel_places M) c own (ap does_read r)))
      (λ e. none_there e c (reading_continues c r))

  -- NO COUNT FALLS unless `new` is accepted
  pub never_fewer : (c : AnyCall) → AnyContinues c M → (K : Kind) → count K (memory K M) ≤ count K (memory K (any_step c M).state)
  never_fewer c g K = by_store
      (λ s. let e = (any_grown (matches_own s) c g).lists in
      omega (
        arith,
        matches_count (matches_own s) K,
        matches_count (any_alike (matches_own s) c).matches K,
        ap length (e.split K),
        length-append (nodes K (decode M)) (e.tail K),
      ))
      (λ e. omega (arith, ap (λ X. count K (memory K X)) (none_there e c g)))
