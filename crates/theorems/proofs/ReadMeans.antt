-- What the answer of a public call that adds nothing says, and that it leaves both memories: the facts to cite, from its verdict.
use mathlib.Core.Path.{◌≡◌, refl, sym, subst}
use mathlib.Core.Logic.Iff
use mathlib.Core.Logic.{◌⊎◌, inl, inr, ◌↔◌}
use mathlib.Core.List.{List}
use mathlib.Core.Option.{Option, none, some}
use mathlib.Core.Bool.{true, ◌||◌}
use Prim.Native.Nat.{ℕ, suc}
use native.Mathlib.Omega.{arith}
use borrow.Author.Tests.{eq-eqb}
use lib.Dec.{ltb, eqb, T, eqb→eq}
use Rattle.model.specs.FieldOrder.{is_before}
use Rattle.model.specs.FirstPair.{first_packet, First}
use Rattle.model.specs.Meaning.{Den, Some}
use Rattle.model.specs.Members.{is_member}
use Rattle.model.specs.Operations.{complement, is_zero}
use Rattle.model.specs.Sets.{intersects}
use Rattle.model.specs.Packets.{Digits, Packet, packet, digits, walk, contains, relates}
use Rattle.model.specs.Programs.{run}
use Rattle.model.specs.Recursion.{x0, x1, x00, x01, x10, x11}
use Rattle.model.specs.Store.{set, rel, Store, pick, signed, get}
use Rattle.model.specs.WellFormed.{Held, WellFormed}
use Rattle.model.proofs.Bools.{by_test, no_true, and_iff, one_iff}
use Rattle.model.proofs.FirstPair.{Finds, finds}
use Rattle.model.proofs.Numbers.{packet_number, number_below}
use Rattle.model.proofs.Pairs.{relates_den, relates_own, relates_iff, digits_of, relates_x00, relates_x01, relates_x10, relates_x11}
use Rattle.model.proofs.Pointwise.{complement_does}
use Rattle.model.proofs.Rules.{own, den_child}
use Rattle.model.proofs.YesNo.{is_zero_does, intersects_does}
use Rattle.store.specs.Calls.{set_read, relation_read, step}
use Rattle.call_rules.specs.OnMemories.{on_store}
use Rattle.store_check.specs.Memory.{Memories, fields, decode}
use Rattle.call_rules.specs.Outcome.{Verdict, gives, runs, unless_declined, finishes}
use Rattle.theorems.specs.ReadMeanings.{SetChildren, RelationChildren, the_first, ToCome, set_read_meaning, relation_read_meaning}
use Rattle.store.specs.RelationCalls.{relation_read_declines, relation_read_answer, relation_read_verdict}
use Rattle.store.specs.Cursors.{is_to_come, next_member, as_member}
use Rattle.store.specs.SetCalls.{set_read_declines, set_read_answer, set_read_verdict}
use Rattle.store_check.specs.Valid.{IsStore}
use Rattle.call_rules.specs.declared.Answer.{Answer}
use Rattle.std.specs.Prelude.{Result, Ok, Err}
use Rattle.call_rules.specs.Outcome.{Check}
use Rattle.call_rules.specs.declared.Refusal.{Refusal}
use Rattle.store.specs.declared.relation_reads.RelationRead.{RelationRead}
use Rattle.store.specs.declared.relation_reads.RelationRead.TheVariants as R
use Rattle.store.specs.declared.set_reads.Cursor.{Cursor}
use Rattle.store.specs.declared.set_reads.SetRead.{SetRead}
use Rattle.store.specs.declared.set_reads.SetRead.TheVariants as T
use Rattle.call_rules.proofs.Declining.{also_passed, one_passed, two_passed, above}
use Rattle.call_rules.proofs.Outcomes.{ended, store_outcome}
use Rattle.store.proofs.RelationSteps.{relation_read_steps}
use Rattle.store.proofs.SetSteps.{set_read_steps}

-- VERDICTS that run nothing: the answer, or the refusal, has P
abbrev pub GivesOnly : {A : Type 0} → (A → Type 0) → Verdict A → Type 0
GivesOnly P (gives a) = P a
GivesOnly P (runs p f) = ⊥

-- where every refusal has P, and the answer of a call that is not declined
pub gives_by : (P : Result Answer Refusal → Type 0) (c : Check) (f : ℕ → Answer) → ((r : Refusal) → P (Err r)) → ((l : ℕ) → c ≡ Ok l → P (Ok (f l)))
    → GivesOnly P (unless_declined Err c (λ l. gives (Ok (f l))))
gives_by P (Ok l) f refused passes = passes l refl
gives_by P (Err r) f refused passes = refused r

-- so a call on a store answers with P, and leaves the memories
module _ {A : Type 0} (refuse : Refusal → A) (v : ℕ → Store → Verdict A) (M : Memories) (s : IsStore M) (P : A → Type 0)
    (t : GivesOnly P (v (fields M) (decode M))) where
  by_verdict : (u : Verdict A) → GivesOnly P u → P (ended refuse M u).answer × ((ended refuse M u).state ≡ M)
  unfolding finishes
  by_verdict (gives a) t = (t, refl)
  by_verdict (runs p f) t = absurd t

  pub answer_has : P (on_store refuse v M).answer × ((on_store refuse v M).state ≡ M)
  answer_has =
      subst (λ t. P t.answer × (t.state ≡ M)) (sym (store_outcome refuse v M s (v (fields M) (decode M)) refl)) (by_verdict (v (fields M) (decode M)) t)

-- no list of digits, or no pair of packets
no_pair : (S : Store) (l a : ℕ) → Held rel S l a
    → ((ds : List ℕ) → Digits rel l ds → ¬ (walk rel S a ds ≡ 1)) ↔ ((p q : List ℕ) → Packet l p → Packet l q → ¬ relates S a p q)
no_pair S l a A = (
  λ n p q P Q. n _ (digits_of P Q),
  λ n ds D. ((relates_den (relates_iff {R' = λ p q. ⊥} (λ p q P Q. (n p q P Q, λ x. absurd x)) (relates_own S l a A))).means ds D).0,
)

-- the children of a handle above level 0
set_children : (S : Store) (l a : ℕ) → ltb 0 l ≡ true → Held set S l a → SetChildren S l a (x0 (get set S a)) (x1 (get set S a))
set_children S l a e A =
    let n = above l e in
    let B = own set S (suc n.0) a (subst (λ l. Held set S l a) n.1 A) in
    record { below = n.0; level = n.1; on_0 = den_child B 0 (omega arith); on_1 = den_child B 1 (omega arith) }

relation_children : (S : Store) (l a : ℕ) → ltb 0 l ≡ true → Held rel S l a
    → (let x = get rel S a in RelationChildren S l a (x00 x) (x01 x) (x10 x) (x11 x))
relation_children S l a e A =
    let n = above l e in
    let B = relates_own S (suc n.0) a (subst (λ l. Held rel S l a) n.1 A) in record {
      below = n.0;
      level = n.1;
      on_00 = relates_x00 B;
      on_01 = relates_x01 B;
      on_10 = relates_x10 B;
      on_11 = relates_x11 B;
    }

-- the next member is the first that is to come
module _ (S : Store) (l : ℕ) (c : Cursor) where
  to_come_iff : (p : List ℕ) → (is_to_come S l c p ≡ true) ↔ (contains S c.handle p × ((c.given ≡ 0) ⊎ (is_before (packet l c.last) p ≡ true)))
  to_come_iff p = and_iff (is_member S c.handle p) _ (one_iff _)
      (by_test (λ b. eqb c.given 0 ≡ b → ((b || is_before (packet l c.last) p) ≡ true) ↔ ((c.given ≡ 0) ⊎ (is_before (packet l c.last) p ≡ true)))
      (eqb c.given 0) (λ _ e. (λ _. inl (eqb→eq c.given 0 (subst T (sym e) tt)), λ _. refl))
      (λ _ e. (λ f. inr f, elim [ inl g ↦ absurd (no_true e (eq-eqb c.given 0 g)) | inr f ↦ f ])) refl)

  found : (o : Option (List ℕ)) → Finds l (is_to_come S l c) o → c.ended ≡ 0 → the_first l (ToCome S l c) (Ok (as_member o))
  found none n e = λ s. no_true (n s.0 s.1) ((to_come_iff s.0).1 (s.2.1, s.2.2))
  found (some p) A e = (
    number_below A.packet,
    subst (First l (ToCome S l c)) (sym (packet_number A.packet)) (record {
      packet = A.packet;
      inside = let d = (to_come_iff p).0 A.inside in (e, d.0, d.1);
      least = λ q Q s. A.least q Q ((to_come_iff q).1 (s.1, s.2));
    }),
  )

  first_to_come : the_first l (ToCome S l c) (Ok (as_member (next_member S l c)))
  first_to_come = by_test (λ b. eqb c.ended 0 ≡ b → the_first l (ToCome S l c) (Ok (as_member (pick b (first_packet l (is_to_come S l c)) none))))
      (eqb c.ended 0) (λ _ e. found (first_packet l (is_to_come S l c)) (finds l (is_to_come S l c)) (eqb→eq c.ended 0 (subst T (sym e) tt)))
      (λ _ e s. no_true e (eq-eqb c.ended 0 s.2.0)) refl

module _ {k : ℕ} {S : Store} (F : WellFormed k S) where
  set_read_refused : (c : SetRead) (r : Refusal) → set_read_meaning k c S (Err r)
  unfolding set_read_meaning
  set_read_refused (T.Get a) r = tt
  set_read_refused (T.Complement a) r = tt
  set_read_refused (T.IsZero a) r = tt
  set_read_refused (T.Intersects a b) r = tt
  set_read_refused (T.Next c) r = tt

  relation_read_refused : (c : RelationRead) (r : Refusal) → relation_read_meaning k c S (Err r)
  unfolding relation_read_meaning
  relation_read_refused (R.Get a) r = tt
  relation_read_refused (R.IsZero a) r = tt
  relation_read_refused (R.Relates a p q) r = tt

  set_read_passes : (c : SetRead) (l : ℕ) → set_read_declines k c S ≡ Ok l → set_read_meaning k c S (Ok (set_read_answer S l c))
  unfolding set_read_meaning complement run
  set_read_passes (T.Get a) l e =
      let q = also_passed _ _ _ e in
      let t = one_passed F set a q.0 in
      subst (λ l. SetChildren S l a (x0 (get set S a)) (x1 (get set S a))) (sym t.level) (set_children S l a q.1 t.held)
  set_read_passes (T.Complement a) l e =
      let t = one_passed F set a e in
      subst (λ l. Den set l (λ p. ¬ contains S a p) S (signed 1 a)) (sym t.level) (complement_does set l a F t.low (own set S l a t.held)).after.post
  set_read_passes (T.IsZero a) l e =
      let t = one_passed F set a e in
      subst (λ j. (eqb (run (is_zero set l a) S).value 1 ≡ true) ↔ ((p : List ℕ) → Packet j p → ¬ contains S a p)) (sym t.level)
      (Iff.trans (one_iff _) (is_zero_does set l a F (own set S l a t.held)).after.post.means)
  set_read_passes (T.Intersects a b) l e =
      let t = two_passed F set a b e in
      subst (λ j. (eqb (run (intersects l a b) S).value 1 ≡ true) ↔ Some j (λ p. contains S a p × contains S b p)) (sym t.0.level)
      (Iff.trans (one_iff _) (intersects_does l a b F t.0.low (own set S l a t.0.held) (own set S l b t.1.held)).after.post.means)
  set_read_passes (T.Next c) l e =
      let t = one_passed F set c.handle (also_passed _ _ _ e).0 in
      subst (λ j. the_first j (ToCome S j c) (Ok (as_member (next_member S l c)))) (sym t.level) (first_to_come S l c)

  relation_read_passes : (c : RelationRead) (l : ℕ) → relation_read_declines k c S ≡ Ok l → relation_read_meaning k c S (Ok (relation_read_answer S l c))
  unfolding relation_read_meaning
  relation_read_passes (R.Get a) l e =
      let q = also_passed _ _ _ e in
      let t = one_passed F rel a q.0 in
      let x = get rel S a in
      subst (λ l. RelationChildren S l a (x00 x) (x01 x) (x10 x) (x11 x)) (sym t.level) (relation_children S l a q.1 t.held)
  relation_read_passes (R.IsZero a) l e =
      let t = one_passed F rel a e in
      subst (λ j. (eqb (run (is_zero rel l a) S).value 1 ≡ true) ↔ ((p q : List ℕ) → Packet j p → Packet j q → ¬ relates S a p q)) (sym t.level)
      (Iff.trans (one_iff _) (Iff.trans (is_zero_does rel l a F (own rel S l a t.held)).after.post.means (no_pair S l a t.held)))
  relation_read_passes (R.Relates a p q) l e =
      let t = one_passed F rel a (also_passed _ _ _ (also_passed _ _ _ e).0).0 in
      subst (λ j. (eqb (walk rel S a (digits (packet l p) (packet l q))) 1 ≡ true) ↔ relates S a (packet j p) (packet j q)) (sym t.level) (one_iff _)

  pub set_read_gives : (c : SetRead) → GivesOnly (set_read_meaning k c S) (set_read_verdict c k S)
  set_read_gives c = gives_by (set_read_meaning k c S) (set_read_declines k c S) (λ l. set_read_answer S l c) (set_read_refused c) (set_read_passes c)

  pub relation_read_gives : (c : RelationRead) → GivesOnly (relation_read_meaning k c S) (relation_read_verdict c k S)
  relation_read_gives c =
      gives_by (relation_read_meaning k c S) (relation_read_declines k c S) (λ l. relation_read_answer S l c) (relation_read_refused c) (relation_read_passes c)

-- THE FACTS: of a call on a store, what its answer says where it is no refusal; it leaves both memories
pub set_read_means : (c : SetRead) (M : Memories) → IsStore M
    → set_read_meaning (fields M) c (decode M) (step (set_read c) M).answer × ((step (set_read c) M).state ≡ M)
set_read_means c M s = subst (λ t. set_read_meaning (fields M) c (decode M) t.answer × (t.state ≡ M)) (sym (set_read_steps c M))
    (answer_has Err (set_read_verdict c) M s (set_read_meaning (fields M) c (decode M)) (set_read_gives s.formed c))

pub relation_read_means : (c : RelationRead) (M : Memories) → IsStore M
    → relation_read_meaning (fields M) c (decode M) (step (relation_read c) M).answer × ((step (relation_read c) M).state ≡ M)
relation_read_means c M s = subst (λ t. relation_read_meaning (fields M) c (decode M) t.answer × (t.state ≡ M)) (sym (relation_read_steps c M))
    (answer_has Err (relation_read_verdict c) M s (relation_read_meaning (fields M) c (decode M)) (relation_read_gives s.formed c))
