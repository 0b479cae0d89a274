-- A call on checked memories has its outcome, whatever it declines, runs or answers: by the laws of running.
use mathlib.Core.Path.{◌≡◌, sym, ap, ◌∙◌, subst}
use mathlib.Core.List.{List}
use Prim.Native.Nat.{ℕ, ◌+◌, ◌-◌, ◌*◌, ◌<◌, ◌≤◌}
use native.Mathlib.Omega.{arith}
use lib.ListN.{length}
use borrow.Rule.Slice.PartMut.{put_mid}
use Rattle.memory.specs.Rows.{most_places}
use Rattle.model.specs.Store.{Kind, arity, Store}
use Rattle.model.specs.Programs.{Prog, Ran, run}
use Rattle.model.specs.Safety.{Safe}
use Rattle.model.specs.WellFormed.{WellFormed}
use Rattle.memory.specs.Performing.{going, ended, Condition, PerformsOn}
use Rattle.call_rules.specs.OnMemories.{on_store}
use Rattle.call_rules.specs.Checking.{ChecksIn, AnsweredOn, CheckedStore}
use Rattle.call_rules.specs.Finishing.{Ends}
use Rattle.store_check.specs.Commit.{Committed}
use Rattle.store_check.specs.Memory.{Memories, memory, head, count_at, count, fields, decode}
use Rattle.call_rules.specs.Outcome.{gives, runs, unless_declined, Outcome, outcome}
use Rattle.call_rules.specs.Outcome.{Check}
use Rattle.std.specs.Prelude.{Option, Ok, Err}
use Rattle.call_rules.specs.declared.Refusal.{Refusal}
use Rattle.call_rules.specs.declared.Refusal.TheVariants.{UsedUp}
use Rattle.call_rules.proofs.Outcomes.{with_memory, given}
use Rattle.call_rules.proofs.Running.{part_of, check_no, check_passed, check_low, within_memory, ran_here, ready_here}

-- t is the outcome of a call that may add nodes of kind K: what it declines, the program that it runs at its operands' level, and the
-- answer made of the run on S; `refuse` makes an answer of a refusal
pub record AddingCall {A : Type 0} (refuse : Refusal → A) (K : Kind) (t : Memories → Outcome A Memories) : Type 0 where
  pub check : ℕ → Store → Check
  pub program : ℕ → ℕ → Prog
  pub answer : Store → Ran → A
  pub steps : (M : Memories) → t M ≡ on_store refuse (λ k S. unless_declined refuse (check k S) (λ l. runs (program k l) (answer S))) M
  pub safe : (k : ℕ) (S : Store) (l : ℕ) → WellFormed k S → check k S ≡ Ok l → Safe (program k l) S

-- t is the outcome of a call that adds nothing: what it declines, what has to be there, and its answer, which `give` makes one of a call
pub record ReadingCall {A B : Type 0} (refuse : Refusal → A) (give : B → A) (t : Memories → Outcome A Memories) : Type 1 where
  pub check : ℕ → Store → Check
  pub needs : Store → ℕ → Type 0
  pub answer : Store → ℕ → B
  pub steps : (M : Memories) → t M ≡ on_store refuse (λ k S. unless_declined refuse (check k S) (λ l. gives (give (answer S l)))) M
  pub safe : (k : ℕ) (S : Store) (l : ℕ) → WellFormed k S → check k S ≡ Ok l → needs S l

module _ (K : Kind) (M : Memories) (w : List ℕ) (Y : CheckedStore K M w) (n : ℕ) (en : n ≡ count K (memory K M)) where
  module _ {A : Type 0} {refuse : Refusal → A} {t : Memories → Outcome A Memories} (Z : AddingCall refuse K t) (r : Check)
      (G : ChecksIn (fields M) (decode M) (Z.check (fields M)) r) where
    pub adding_declined : (q : Refusal) → r ≡ Err q → outcome (refuse q) M ≡ t M
    adding_declined q e = check_no M Y.store Z.check r G refuse (λ k S l. runs (Z.program k l) (Z.answer S)) q e ∙ sym (Z.steps M)

    module _ (l : ℕ) (e : r ≡ Ok l) where
      pub adding_passed : Z.check (fields M) (decode M) ≡ Ok l
      adding_passed = G.says ∙ e

      pub adding_low : l < 256
      adding_low = let h = check_low M Y.store Z.check r G l e in omega arith

      safe_here : Safe (Z.program (fields M) l) (decode M)
      safe_here = Z.safe (fields M) (decode M) l Y.store.formed adding_passed

      module _ {Q : Condition} (on : Q (decode M)) (k' l' : ℕ) (b w' : List ℕ) (end : ℕ) (r' : Option ℕ) (ek : k' ≡ fields M) (el : l' ≡ l)
          (P : PerformsOn Q K (Z.program k' l') (going n) (part_of K M) b w w' (ended end r')) where
        same : Z.program k' l' ≡ Z.program (fields M) l
        same i = Z.program (ek i) (el i)

        pub adding_within : (n ≤ end) × (end ≤ most_places)
            × (head K + arity K * end ≤ length (put_mid (head K) (length (memory K M) - head K) (memory K M) b))
        adding_within = within_memory K M w Y n en on _ _ b w' end r' same safe_here P

        pub adding_ran : (m' : List ℕ) (a : A)
            → Committed (put_mid (head K) (length (memory K M) - head K) (memory K M) b) m' (count_at K) (head K) (arity K) n (ended end r')
            → Ends K (decode M) (ended end r') (run (Z.program (fields M) l) (decode M)) (Z.answer (decode M)) (refuse UsedUp) a
            → outcome a (with_memory K m' M) ≡ t M
        adding_ran m' a C E = ran_here K M w Y n en on _ _ b w' end r' same safe_here P refuse _ _ m' a (check_passed M Y.store Z.check r G refuse _ l e) C E
            ∙ sym (Z.steps M)

  module _ {A B : Type 0} {refuse : Refusal → A} {give : B → A} {t : Memories → Outcome A Memories} (Z : ReadingCall refuse give t) (r : Check)
      (G : ChecksIn (fields M) (decode M) (Z.check (fields M)) r) where
    pub reading_declined : (q : Refusal) → r ≡ Err q → outcome (refuse q) M ≡ t M
    reading_declined q e = check_no M Y.store Z.check r G refuse (λ k S l. gives (give (Z.answer S l))) q e ∙ sym (Z.steps M)

    module _ (l : ℕ) (e : r ≡ Ok l) where
      pub reading_low : l ≤ 32
      reading_low = check_low M Y.store Z.check r G l e

      pub reading_known : {Q : Condition} → Q (decode M) → (l' : ℕ) (a : B) → l' ≡ l
          → AnsweredOn Q K (part_of K M) w n (λ S. Z.needs S l') (λ S. Z.answer S l') a → outcome (give a) M ≡ t M
      reading_known on l' a el T =
          let H = ready_here K M w n Y en in
          let s = subst (λ S. Z.needs S l') (sym H.nodes)
          (subst (Z.needs (decode M)) (sym el) (Z.safe (fields M) (decode M) l Y.store.formed (G.says ∙ e))) in
          let x : a ≡ Z.answer (decode M) l = T.answers (decode M) on H.room H.right s ∙ (λ i. Z.answer (H.nodes i) (el i)) in
          given refuse _ M Y.store (give a) (check_passed M Y.store Z.check r G refuse _ l e ∙ ap (λ a. gives (give a)) (sym x)) ∙ sym (Z.steps M)
