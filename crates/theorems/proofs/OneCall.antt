-- One call on memories that match a plain store: the same answer, they match again, and the lists only grow unless `new` is accepted.
-- From what each verdict runs.
use mathlib.Core.Path.{◌≡◌, refl, sym, ap, ◌∙◌, subst}
use mathlib.Core.Bool.{true}
use Prim.Native.Nat.{ℕ, ◌≤◌}
use native.Mathlib.Omega.{arith}
use lib.ListN.{length}
use lib.Dec.{leb, T, leb→le}
use borrow.Author.Tests.{le-leb}
use Rattle.model.specs.Images.{blank, new}
use Rattle.model.specs.Places.{fits_places}
use Rattle.model.specs.Programs.{Prog, Ran, run}
use Rattle.model.specs.Store.{Kind, set, rel, Store, pick}
use Rattle.model.specs.WellFormed.{WellFormed, Extends}
use Rattle.model.proofs.Bools.{by_test}
use Rattle.model.proofs.Bounded.{fits_places_iff}
use Rattle.model.proofs.Extends.{ext_refl, ext_lasts}
use Rattle.model.proofs.New.{new_does}
use Rattle.model.proofs.Settle.{run_ext}
use Rattle.store.specs.Calls.{Call, new_store, set_call, set_read, relation_call, relation_read, image_call, filter_call, path_read}
use Rattle.store.specs.Calls.{step}
use Rattle.call_rules.specs.OnMemories.{set_places, rel_places, on_store, are_heads, new_step}
use Rattle.store.specs.ImageCalls.{image_declines, image_program, image_verdict, filter_declines, filter_program, filter_verdict, path_declines, path_answer}
use Rattle.store.specs.ImageCalls.{path_verdict}
use Rattle.theorems.specs.Lists.{Refused, NewRefused, Matches, Alike, ContinuesTo, store_calls, CallRight}
use Rattle.theorems.specs.PlainStore.{Plain, plain_store, asked, on_lists, plain_step}
use Rattle.store_check.specs.Memory.{Memories, memory, head, fields, decode, encode}
use Rattle.call_rules.specs.Outcome.{Verdict, gives, runs, unless_declined, as_handle, guard, Outcome, outcome, map_answer, finishes}
use Rattle.store.specs.RelationCalls.{relation_declines, relation_program, relation_verdict, relation_read_declines, relation_read_answer}
use Rattle.store.specs.RelationCalls.{relation_read_verdict}
use Rattle.store.specs.SetCalls.{set_declines, set_program, set_verdict, set_read_declines, set_read_answer, set_read_verdict}
use Rattle.call_rules.specs.Outcome.{Check}
use Rattle.std.specs.Prelude.{Result, Ok, Err}
use Rattle.call_rules.specs.declared.Answer.{Answer}
use Rattle.call_rules.specs.declared.Answer.TheVariants.{Handle}
use Rattle.call_rules.specs.declared.Refusal.{Refusal}
use Rattle.call_rules.specs.declared.Refusal.TheVariants.{OutOfRange, NotStore, UsedUp}
use Rattle.store.specs.declared.filter_calls.FilterCall.{FilterCall}
use Rattle.store.specs.declared.image_calls.ImageCall.{ImageCall}
use Rattle.store.specs.declared.relation_calls.RelationCall.{RelationCall}
use Rattle.store.specs.declared.set_calls.SetCall.{SetCall}
use Rattle.call_rules.proofs.Encoding.{Space}
use Rattle.call_rules.proofs.Declining.{level_in, guard_passed, declined_runs, declined_gives}
use Rattle.call_rules.proofs.Handles.{guard_yes}
use Rattle.store.proofs.ImageMeant.{image_does, filter_does}
use Rattle.theorems.proofs.Matching.{matches_written, matches_formed, matches_few, matches_headed, matches_over}
use Rattle.call_rules.proofs.Outcomes.{store_outcome}
use Rattle.store.proofs.RelationMeant.{relation_does}
use Rattle.store.proofs.SetMeant.{set_does}

-- SOUND VERDICTS: what they run leaves a well-formed store
pub record Sound {A : Type 0} (v : ℕ → Store → Verdict A) : Type 0 where
  pub formed : (k : ℕ) (S : Store) (p : Prog) (f : Ran → A) → WellFormed k S → v k S ≡ runs p f → WellFormed k (run p S).store

-- a call that is not declined: it runs a program, or gives an answer
module _ {A : Type 0} (refuse : Refusal → A) (check : ℕ → Store → Check) where
  pub runs_sound : (program : ℕ → ℕ → Prog) (answer : Store → Ran → A)
      → ((k : ℕ) (S : Store) (l : ℕ) → WellFormed k S → check k S ≡ Ok l → WellFormed k (run (program k l) S).store)
      → Sound (λ k S. unless_declined refuse (check k S) (λ l. runs (program k l) (answer S)))
  runs_sound program answer h = record {
    formed = λ k S p f F e. let w = declined_runs refuse (check k S) (program k) (answer S) p f e in
        subst (λ p. WellFormed k (run p S).store) w.program (h k S w.level F w.passes);
  }

  pub gives_sound : (answer : Store → ℕ → A) → Sound (λ k S. unless_declined refuse (check k S) (λ l. gives (answer S l)))
  gives_sound answer = record { formed = λ k S p f F e. absurd (declined_gives refuse (check k S) (answer S) p f e) }

set_sound : (c : SetCall) → Sound (set_verdict c)
set_sound c = runs_sound Err (λ k S. set_declines k c S) (λ k l. set_program k l c) (λ S. as_handle) (λ k S l F e. (set_does F c e).after.formed)

relation_sound : (c : RelationCall) → Sound (relation_verdict c)
relation_sound c = runs_sound Err (λ k S. relation_declines k c S) (λ k l. relation_program k l c) (λ S. as_handle)
    (λ k S l F e. (relation_does F c e).after.formed)

image_sound : (c : ImageCall) → Sound (image_verdict c)
image_sound c = runs_sound Err (λ k S. image_declines k c S) (λ k l. image_program l c) (λ S. as_handle) (λ k S l F e. (image_does F c e).after.formed)

filter_sound : (c : FilterCall) → Sound (filter_verdict c)
filter_sound c = runs_sound Err (λ k S. filter_declines k c S) (λ k l. filter_program l c) (λ S. as_handle) (λ k S l F e. (filter_does F c e).after.formed)

-- THE LISTS ONLY GROW: P' has the number of fields of P, and its lists have the nodes of P's and perhaps more after them
pub record Grown (P P' : Plain) : Type 0 where
  pub width : P'.width ≡ P.width
  pub lists : Extends P.lists P'.lists

pub grown_none : (P : Plain) → Grown P P
grown_none P = record { width = refl; lists = ext_refl }

pub verdict_grown : {A : Type 0} (refuse : Refusal → A) (m n : ℕ) (v : ℕ → Store → Verdict A) (P : Plain) → Grown P (on_lists refuse m n v P).state
unfolding on_lists finishes
verdict_grown {A} refuse m n v P = by_verdict (v P.width P.lists)
  where
    by_verdict : (u : Verdict A) → Grown P (finishes (refuse UsedUp) m n u P.lists P (plain_store P.width)).state
    by_verdict (gives a) = grown_none P
    by_verdict (runs p f) = let S = (run p P.lists).store in
        by_test (λ b. Grown P (pick b (outcome (f (run p P.lists)) (plain_store P.width S)) (outcome (refuse UsedUp) P)).state)
        (fits_places m n S) (λ t. record { width = refl; lists = run_ext p P.lists }) (λ t. grown_none P)

-- so the handles last
pub grown_continues : {P P' : Plain} → Grown P P' → ContinuesTo P P'
grown_continues g = record { width = g.width; handles = λ K l h A. ext_lasts g.lists A }

-- a refusal is no handle
pub not_handle : {r : Refusal} {h : ℕ} → Err r ≡ Ok (Handle h) → ⊥
not_handle e = let z : ◌≡◌ {A = ℕ} 0 1 = cc e in omega arith

-- a refusal leaves what was there
pub refused_stays : {X : Type 0} (m n : ℕ) (c : Check) (p : ℕ → Prog) (S : Store) (x : X) (put : Store → X)
    → (let t = finishes (Err UsedUp) m n (unless_declined Err c (λ l. runs (p l) as_handle)) S x put in Refused t.answer → t.state ≡ x)
unfolding finishes
refused_stays m n (Err r) p S x put R = refl
refused_stays m n (Ok l) p S x put R = let T = run (p l) S in
    by_test (λ b. (let t = pick b (outcome (Ok (Handle T.value)) (put T.store)) (outcome (Err UsedUp) x) in Refused t.answer → t.state ≡ x))
    (fits_places m n T.store) (λ t R. absurd (not_handle (sym R.is))) (λ t R. refl) R

-- THE SAME ANSWER, AND THEY MATCH AGAIN
-- also as an answer of another type
pub map_answer_alike : {A B : Type 0} {M₀ : Memories} {t : Outcome A Memories} {u : Outcome A Plain} (f : A → B) → Alike M₀ t u
    → Alike M₀ (map_answer f t) (map_answer f u)
map_answer_alike f a = record { answer = ap f a.answer; matches = a.matches }

-- a store that fits the places of M₀
pub fits_space : {S : Store} {M₀ : Memories} → ((K : Kind) → head K ≤ length (memory K M₀))
    → fits_places (set_places M₀) (rel_places M₀) S ≡ true → Space S M₀
fits_space {S} {M₀} h t =
    let u = (fits_places_iff (set_places M₀) (rel_places M₀) S).0 (subst T (sym t) tt) in record { headed = h; within = elim [ set ↦ u.0 | rel ↦ u.1 ] }

module _ {M₀ M : Memories} {P : Plain} (A : Matches M₀ M P) where
  abbrev m : ℕ
  m = set_places M₀

  abbrev n : ℕ
  n = rel_places M₀

  -- whatever the verdict: a program runs on the lists B, for k fields
  pub finishes_alike : {A : Type 0} (six : A) (k : ℕ) (B : Store) (v : Verdict A)
      → ((p : Prog) (f : Ran → A) → v ≡ runs p f → (k ≤ 32) × WellFormed k (run p B).store)
      → Alike M₀ (finishes six m n v B M (λ S. encode k S M)) (finishes six m n v B P (plain_store k))
  unfolding finishes
  finishes_alike six k B (gives a) h = record { answer = refl; matches = A }
  finishes_alike six k B (runs p f) h = let S = (run p B).store in let a = f (run p B) in
      by_test (λ b. Alike M₀ (pick b (outcome a (encode k S M)) (outcome six M)) (pick b (outcome a (plain_store k S)) (outcome six P)))
      (fits_places m n S)
      (λ t. let g = h p f refl in record {
        answer = refl;
        matches = subst (λ X. Matches M₀ X (plain_store k S)) (sym (matches_over A k S)) (matches_written g.1 (fits_space (matches_headed A) t) g.0);
      })
      (λ t. record { answer = refl; matches = A })

  pub verdict_alike : {B : Type 0} (refuse : Refusal → B) (v : ℕ → Store → Verdict B) → Sound v → Alike M₀ (on_store refuse v M) (on_lists refuse m n v P)
  unfolding on_lists
  verdict_alike refuse v s =
      let e : on_store refuse v M ≡ finishes (refuse UsedUp) m n (v P.width P.lists) P.lists M (λ S. encode P.width S M)
      = store_outcome refuse v M A.store (v (fields M) (decode M)) refl
      ∙ (λ i. finishes (refuse UsedUp) (A.places set i) (A.places rel i) (v (A.width i) (A.lists i)) (A.lists i) M (λ S. encode (A.width i) S M)) in
      subst (λ t. Alike M₀ t (on_lists refuse m n v P)) (sym e)
      (finishes_alike (refuse UsedUp) P.width P.lists (v P.width P.lists) (λ p f q. (matches_few A, s.formed _ _ p f (matches_formed A) q)))

  heads_yes : are_heads M ≡ true
  heads_yes = rw (le-leb _ _ (A.store.room rel).headed, le-leb _ _ (A.store.room set).headed)

  new_alike : (k : ℕ) → Alike M₀ (step (new_store k) M) (plain_step m n (new_store k) P)
  unfolding step new_step plain_step asked
  new_alike k =
      let c = guard OutOfRange (leb k 32) (Ok k) in
      let v = unless_declined Err c (λ k. runs (new k) as_handle) in
      let e : step (new_store k) M ≡ finishes (Err UsedUp) m n v blank M (λ S. encode k S M)
      = λ i. finishes (Err UsedUp) (A.places set i) (A.places rel i)
      (unless_declined Err (guard OutOfRange (leb k 32) (guard_yes NotStore (are_heads M) (Ok k) heads_yes i)) (λ k. runs (new k) as_handle))
      blank M (λ S. encode k S M) in
      subst (λ t. Alike M₀ t (plain_step m n (new_store k) P)) (sym e) (finishes_alike (Err UsedUp) k blank v (λ p f q.
      let w = declined_runs Err c new as_handle p f q in
      let t = guard_passed _ _ w.passes in (
        leb→le k 32 (subst T (sym t.0) tt),
        subst (λ p. WellFormed k (run p blank).store) (ap new (ap level_in t.1) ∙ w.program)
            (new_does k).after.formed,
      )))

  -- a call of `store` whose verdict on a store is v
  verdict_right : (c : Call) (v : ℕ → Store → Verdict (Result Answer Refusal)) → Sound v → step c M ≡ on_store Err v M
      → plain_step m n c P ≡ on_lists Err m n v P → CallRight store_calls M₀ M P c
  verdict_right c v s e f = record {
    alike = subst (λ t. Alike M₀ t (plain_step m n c P)) (sym e) (subst (Alike M₀ (on_store Err v M)) (sym f) (verdict_alike Err v s));
    continues = λ r. subst (λ u. ContinuesTo P u.state) (sym f) (grown_continues (verdict_grown Err m n v P));
  }

  new_grown : (k : ℕ) → NewRefused (new_store k) M → Grown P (plain_step m n (new_store k) P).state
  unfolding plain_step asked
  new_grown k r = subst (Grown P) (sym (refused_stays m n (guard OutOfRange (leb k 32) (Ok k)) new blank P (plain_store k)
      (subst Refused (new_alike k).answer (r k refl)))) (grown_none P)

  -- the calls of `store` only add nodes, unless `new` is accepted
  pub call_grown : (c : Call) → NewRefused c M → Grown P (plain_step m n c P).state
  unfolding plain_step asked on_lists
  call_grown (new_store k) r = new_grown k r
  call_grown (set_call c) r = verdict_grown Err m n (set_verdict c) P
  call_grown (set_read c) r = verdict_grown Err m n (set_read_verdict c) P
  call_grown (relation_call c) r = verdict_grown Err m n (relation_verdict c) P
  call_grown (relation_read c) r = verdict_grown Err m n (relation_read_verdict c) P
  call_grown (image_call c) r = verdict_grown Err m n (image_verdict c) P
  call_grown (filter_call c) r = verdict_grown Err m n (filter_verdict c) P
  call_grown (path_read c) r = verdict_grown Err m n (path_verdict c) P

  new_right : (k : ℕ) → CallRight store_calls M₀ M P (new_store k)
  new_right k = record { alike = new_alike k; continues = λ r. grown_continues (new_grown k r) }

  -- THE LAW FOR ONE CALL
  pub call_right : (c : Call) → CallRight store_calls M₀ M P c
  unfolding step plain_step asked on_lists
  call_right (new_store k) = new_right k
  call_right (set_call c) = verdict_right (set_call c) (set_verdict c) (set_sound c) refl refl
  call_right (set_read c) = verdict_right (set_read c) (set_read_verdict c)
      (gives_sound Err (λ k S. set_read_declines k c S) (λ S l. Ok (set_read_answer S l c))) refl refl
  call_right (relation_call c) = verdict_right (relation_call c) (relation_verdict c) (relation_sound c) refl refl
  call_right (relation_read c) = verdict_right (relation_read c) (relation_read_verdict c)
      (gives_sound Err (λ k S. relation_read_declines k c S) (λ S l. Ok (relation_read_answer S l c))) refl refl
  call_right (image_call c) = verdict_right (image_call c) (image_verdict c) (image_sound c) refl refl
  call_right (filter_call c) = verdict_right (filter_call c) (filter_verdict c) (filter_sound c) refl refl
  call_right (path_read c) = verdict_right (path_read c) (path_verdict c)
      (gives_sound Err (λ k S. path_declines k c S) (λ S l. Ok (path_answer S l c))) refl refl
