-- A text within the rules, built on checked memories, has its outcome: from what the build pass runs and what `commit` leaves.
use mathlib.Core.Path.{◌≡◌, refl, sym, ap, subst}
use mathlib.Core.Bool.{true, false}
use mathlib.Core.List.{List}
use Prim.Native.Nat.{ℕ, ◌+◌, ◌-◌, ◌*◌, ◌≤◌}
use lib.ListN.{length}
use borrow.Rule.Slice.PartMut.{put_mid}
use Rattle.memory.specs.Rows.{most_places}
use Rattle.model.specs.Policies.{policy_program}
use Rattle.model.specs.Programs.{Prog, Ran, run}
use Rattle.model.specs.Safety.{Safe}
use Rattle.model.specs.Store.{rel, arity, Store as Nodes, pick}
use Rattle.model.proofs.Policies.{policy_does}
use Rattle.memory.specs.Performing.{going, ended, Performs}
use Rattle.memory.proofs.Steps.{false≢true}
use Rattle.store_check.specs.Commit.{Committed}
use Rattle.store_check.specs.Memory.{Memories, head, count_at, count, fields, decode}
use Rattle.store_check.specs.Valid.{IsStore}
use Rattle.call_rules.specs.Checking.{CheckedStore}
use Rattle.call_rules.specs.Finishing.{Ends}
use Rattle.call_rules.specs.Outcome.{gives, outcome}
use Rattle.call_rules.specs.declared.Refusal.TheVariants.{TooLong, UsedUp}
use Rattle.call_rules.proofs.Outcomes.{with_memory, given}
use Rattle.call_rules.proofs.Running.{part_of, within_memory, ran_here}
use Rattle.policy_text.specs.XForms.{x_forms}
use Rattle.policy_text.specs.Answers.{tree}
use Rattle.policy_text.specs.Reading.{reading}
use Rattle.policy_text.specs.Misreads.{Reading}
use Rattle.std.specs.Prelude.{Option, Some, None, Ok, Err}
use Rattle.policy_text.specs.declared.Misread.{Misread}
use Rattle.policy_text.proofs.XLaws.{x_lawful, x_bounds}
use Rattle.policy_text.proofs.Says.{tree_keeps}
use Rattle.policy_build.specs.Building.{BuildsText}
use Rattle.policies.specs.Outcome.{refused, built_handle, of_reading, is_short, text_verdict, policy_step}
use Rattle.policies.specs.Answers.{PolicyAnswer}
use Rattle.policies.specs.declared.PolicyRefusal.TheVariants.{At}

-- THE VERDICT of a text of at most 4,096 bytes is by its reading
pub short_verdict : (k : ℕ) (t : List ℕ) (S : Nodes) (r : Reading) → is_short t ≡ true → reading x_forms k t ≡ r → text_verdict t k S ≡ of_reading k t r
unfolding text_verdict
short_verdict k t S r s e i = pick (s i) (of_reading k t (e i)) (gives (refused TooLong))

pub long_verdict : (k : ℕ) (t : List ℕ) (S : Nodes) → is_short t ≡ false → text_verdict t k S ≡ gives (refused TooLong)
unfolding text_verdict
long_verdict k t S s i = pick (s i) (of_reading k t (reading x_forms k t)) (gives (refused TooLong))

-- a text that is refused: by its verdict, and at a place
module _ (t : List ℕ) (M : Memories) where
  pub policy_refused : IsStore M → (a : PolicyAnswer) → text_verdict t (fields M) (decode M) ≡ gives a → outcome a M ≡ policy_step t M
  unfolding policy_step
  policy_refused s a e = given refused (text_verdict t) M s a e

  pub read_refused : (w : List ℕ) (Y : CheckedStore rel M w) (m : Misread) → is_short t ≡ true → reading x_forms (fields M) t ≡ Err m
      → outcome (Err (At m)) M ≡ policy_step t M
  unfolding of_reading
  read_refused w Y m s e = policy_refused Y.store (Err (At m)) (short_verdict (fields M) t (decode M) (Err m) s e)

-- how a run ended: with a handle, or with none
pub fitted : {S : Nodes} {R : Ran} (end : ℕ) {made : Option ℕ} {h : ℕ} → made ≡ Some h → Ends rel S (ended end made) R built_handle (refused UsedUp) (Ok h)
fitted {S} {R} end {h = h} e = subst (λ m. Ends rel S (ended end m) R built_handle (refused UsedUp) (Ok h)) (sym e)
    (record { fitted = λ t D. ap Ok D.value; full = λ f. absurd (false≢true (sym f)) })

pub full : {S : Nodes} {R : Ran} (end : ℕ) (made : Option ℕ) → ((h : ℕ) → made ≡ Some h → ⊥)
    → Ends rel S (ended end made) R built_handle (refused UsedUp) (refused UsedUp)
full end (Some h) n = absurd (n h refl)
full end None n = record { fitted = λ t. absurd (false≢true t); full = λ f. refl }

-- a text within the rules
module _ (t : List ℕ) (M : Memories) (w : List ℕ) (Y : CheckedStore rel M w) (n : ℕ) (en : n ≡ count rel M.relations)
    (s : is_short t ≡ true) (e : reading x_forms (fields M) t ≡ Ok tt) (k : ℕ) (ek : k ≡ fields M) (b w' : List ℕ) (end : ℕ) (made : Option ℕ)
    (B : BuildsText x_forms k t (going n) (part_of rel M) b w w' (ended end made)) where
  abbrev p : Prog
  p = policy_program (fields M) (tree x_forms t)

  performs : Performs rel (policy_program k (tree x_forms t)) (going n) (part_of rel M) b w w' (ended end made)
  performs = B.builds 32 (tree x_forms t) (tree_keeps x_lawful (fields M) (x_bounds (fields M)) t e).0

  safe : Safe p (decode M)
  safe = (policy_does (tree x_forms t) (tree_keeps x_lawful (fields M) (x_bounds (fields M)) t e).1 Y.store.formed).safe

  pub built_within : (n ≤ end) × (end ≤ most_places)
      × (head rel + arity rel * end ≤ length (put_mid (head rel) (length M.relations - head rel) M.relations b))
  built_within = within_memory rel M w Y n en tt p _ b w' end made (ap (λ k. policy_program k (tree x_forms t)) ek) safe performs

  pub built_ran : (m' : List ℕ) (a : PolicyAnswer)
      → Committed (put_mid (head rel) (length M.relations - head rel) M.relations b) m' (count_at rel) (head rel) (arity rel) n (ended end made)
      → Ends rel (decode M) (ended end made) (run p (decode M)) built_handle (refused UsedUp) a → outcome a (with_memory rel m' M) ≡ policy_step t M
  unfolding policy_step of_reading
  built_ran m' a C E = ran_here rel M w Y n en tt p _ b w' end made (ap (λ k. policy_program k (tree x_forms t)) ek) safe performs refused
      (text_verdict t) built_handle
      m' a (short_verdict (fields M) t (decode M) (Ok tt) s e) C E
