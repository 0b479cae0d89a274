-- What a verdict runs has an answer that is no refusal; so a refusal leaves what was there, and where there is none the limit of places had no part.
-- From the verdict of each call.
use mathlib.Core.Path.{◌≡◌, refl, sym, ap, subst}
use mathlib.Core.List.{List}
use mathlib.Core.Bool.{Bool, true, false}
use Prim.Native.Nat.{ℕ}
use lib.Dec.{eqb, leb}
use Rattle.model.specs.Images.{new}
use Rattle.model.specs.Places.{fits_places}
use Rattle.model.specs.Programs.{Prog, Ran, run}
use Rattle.model.specs.Store.{Store, pick}
use Rattle.model.proofs.Bools.{by_test, no_true}
use Rattle.call_rules.specs.Answers.{refusal}
use Rattle.call_rules.specs.Outcome.{Verdict, gives, runs, guard, unless_declined, as_handle, Outcome, outcome, map_answer, finishes}
use Rattle.call_rules.specs.declared.Answer.{Answer}
use Rattle.std.specs.Prelude.{Result, Ok, Err}
use Rattle.call_rules.specs.declared.Refusal.{Refusal}
use Rattle.call_rules.specs.Outcome.{Check}
use Rattle.call_rules.specs.declared.Refusal.TheVariants.{OutOfRange, UsedUp}
use Rattle.call_rules.proofs.Declining.{not_runs, declined_gives}
use Rattle.policies.specs.Answers.{policy_refusal}
use Rattle.policies.specs.Outcome.{refused}
use Rattle.policies.specs.Answers.{PolicyAnswer}
use Rattle.store.specs.Calls.{Call, new_store, set_call, set_read, relation_call, relation_read, image_call, filter_call, path_read}
use Rattle.store.specs.ImageCalls.{image_declines, image_program, filter_declines, filter_program, path_declines, path_answer}
use Rattle.store.specs.RelationCalls.{relation_declines, relation_program, relation_read_declines, relation_read_answer}
use Rattle.store.specs.SetCalls.{set_declines, set_program, set_read_declines, set_read_answer}
use Rattle.theorems.specs.AcceptedAlone.{unlimited, unlimited_step, does_read}
use Rattle.theorems.specs.AllCalls.{AnyCall, call, policy, answered, read, any_refusal, plain_any_step, effect}
use Rattle.theorems.specs.PlainStore.{Plain, asked, asked_policy, plain_step, plain_policy_step, on_lists}
use Rattle.theorems.proofs.KeptTexts.{made_in, builds_kept}

-- ONE CALL, whose outcome t has a limit of places and u has none: accepted, the two are the same; refused, all is as it was
pub record Parts {A X : Type 0} (fine : A → Bool) (t u : Outcome A X) (x : X) : Type 0 where
  pub yes : fine t.answer ≡ true → t ≡ u
  pub no : fine t.answer ≡ false → t.state ≡ x

-- what a verdict runs has an answer that is no refusal
unfoldable pub RunsFine : {A : Type 0} → (A → Bool) → Verdict A → Type 0
RunsFine {A} fine v = (p : Prog) (f : Ran → A) → v ≡ runs p f → (R : Ran) → fine (f R) ≡ true

module _ {A X : Type 0} (fine : A → Bool) (six : A) (bad : fine six ≡ false) (m n : ℕ) (S : Store) (x : X) (put : Store → X) where
  pub parts : (v : Verdict A) → RunsFine fine v → Parts fine (finishes six m n v S x put) (unlimited v S x put) x
  unfolding finishes unlimited RunsFine
  parts (gives a) h = record { yes = λ _. refl; no = λ _. refl }
  parts (runs p f) h = let t = outcome (f (run p S)) (put (run p S).store) in
      by_test (λ b. Parts fine (pick b t (outcome six x)) t x) (fits_places m n (run p S).store)
      (λ _. record { yes = λ _. refl; no = λ e. absurd (no_true e (h p f refl (run p S))) })
      (λ _. record { yes = λ e. absurd (no_true bad e); no = λ _. refl })

abbrev pub fine_answer : Result Answer Refusal → Bool
fine_answer a = eqb (refusal a) 0

abbrev pub fine_text : PolicyAnswer → Bool
fine_text a = eqb (policy_refusal a) 0

pub runs_handle : (c : Check) (g : ℕ → Prog) → RunsFine fine_answer (unless_declined Err c (λ l. runs (g l) as_handle))
unfolding RunsFine
runs_handle (Ok l) g p f e R = subst (λ a. fine_answer a ≡ true) (ap (λ v. made_in v R) e) refl
runs_handle (Err r) g p f e R = absurd (not_runs e)

runs_never : (c : Check) (g : ℕ → Answer) → RunsFine fine_answer (unless_declined Err c (λ l. gives (Ok (g l))))
unfolding RunsFine
runs_never c g p f e R = absurd (declined_gives Err c (λ l. Ok (g l)) p f e)

pub asked_fine : (c : Call) (P : Plain) → RunsFine fine_answer (asked c P).verdict
unfolding asked
asked_fine (new_store k) P = runs_handle (guard OutOfRange (leb k 32) (Ok k)) new
asked_fine (set_call c) P = runs_handle (set_declines P.width c P.lists) (λ l. set_program P.width l c)
asked_fine (set_read c) P = runs_never (set_read_declines P.width c P.lists) (λ l. set_read_answer P.lists l c)
asked_fine (relation_call c) P = runs_handle (relation_declines P.width c P.lists) (λ l. relation_program P.width l c)
asked_fine (relation_read c) P = runs_never (relation_read_declines P.width c P.lists) (λ l. relation_read_answer P.lists l c)
asked_fine (image_call c) P = runs_handle (image_declines P.width c P.lists) (λ l. image_program l c)
asked_fine (filter_call c) P = runs_handle (filter_declines P.width c P.lists) (λ l. filter_program l c)
asked_fine (path_read c) P = runs_never (path_declines P.width c P.lists) (λ l. path_answer P.lists l c)

pub text_fine : (t : List ℕ) (P : Plain) → RunsFine fine_text (asked_policy t P).verdict
unfolding RunsFine
text_fine t P p f e R = subst (λ a. fine_text a ≡ true) (sym ((builds_kept P.width t P.lists p f e).made R)) refl

-- a verdict that runs nothing leaves what was there
pub answers_stay : {X : Type 0} (m n : ℕ) (c : Check) (g : ℕ → Answer) (S : Store) (x : X) (put : Store → X)
    → (finishes (Err UsedUp) m n (unless_declined Err c (λ l. gives (Ok (g l)))) S x put).state ≡ x
unfolding finishes
answers_stay m n (Ok l) g S x put = refl
answers_stay m n (Err r) g S x put = refl

-- ANY CALL on the plain store, with m places for sets and n for relations
module _ (m n : ℕ) where
  pub any_parts : (x : AnyCall) (P : Plain) → Parts (λ a. eqb (any_refusal a) 0) (plain_any_step m n x P) (unlimited_step x P) P
  unfolding plain_any_step unlimited_step plain_step plain_policy_step on_lists
  any_parts (call c) P = let q = asked c P in let r = parts fine_answer (Err UsedUp) refl m n q.lists P q.taken q.verdict (asked_fine c P) in
      record { yes = λ e. ap (map_answer answered) (r.yes e); no = r.no }
  any_parts (policy t) P = let q = asked_policy t P in let r = parts fine_text (refused UsedUp) refl m n q.lists P q.taken q.verdict (text_fine t P) in
      record { yes = λ e. ap (map_answer read) (r.yes e); no = r.no }

  -- a call that only reads leaves the lists
  pub reads_stay : (x : AnyCall) (P : Plain) → does_read (effect x) ≡ true → (plain_any_step m n x P).state ≡ P
  unfolding effect plain_any_step plain_step asked
  reads_stay (call (new_store k)) P e = absurd (no_true refl e)
  reads_stay (call (set_call c)) P e = absurd (no_true refl e)
  reads_stay (call (set_read c)) P e = answers_stay m n (set_read_declines P.width c P.lists) (λ l. set_read_answer P.lists l c) P.lists P _
  reads_stay (call (relation_call c)) P e = absurd (no_true refl e)
  reads_stay (call (relation_read c)) P e = answers_stay m n (relation_read_declines P.width c P.lists) (λ l. relation_read_answer P.lists l c)
      P.lists P _
  reads_stay (call (image_call c)) P e = absurd (no_true refl e)
  reads_stay (call (filter_call c)) P e = absurd (no_true refl e)
  reads_stay (call (path_read c)) P e = answers_stay m n (path_declines P.width c P.lists) (λ l. path_answer P.lists l c) P.lists P _
  reads_stay (policy t) P e = absurd (no_true refl e)
