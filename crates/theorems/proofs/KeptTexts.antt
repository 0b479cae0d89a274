-- The verdict of a text: a handle is that of the program that was run, and the program is a policy's exactly where the text keeps the rules.
use mathlib.Core.Path.{◌≡◌, refl, sym, ap, ◌∙◌, subst}
use mathlib.Core.List.{List}
use Prim.Native.Nat.{ℕ}
use native.Mathlib.Omega.{arith}
use lib.Dec.{T, leb→le}
use lib.ListN.{length}
use borrow.Author.Tests.{le-leb}
use Rattle.model.specs.Places.{fits_places}
use Rattle.model.specs.Policies.{policy_program}
use Rattle.model.specs.Programs.{Prog, Ran, run}
use Rattle.model.specs.Store.{Store as Nodes, pick}
use Rattle.model.proofs.Bools.{by_test}
use Rattle.call_rules.specs.Outcome.{Verdict, gives, runs, outcome, finishes}
use Rattle.call_rules.specs.declared.Refusal.TheVariants.{TooLong, UsedUp}
use Rattle.policy_text.specs.XForms.{x_forms}
use Rattle.policy_text.specs.Answers.{tree}
use Rattle.policy_text.specs.Reading.{reading}
use Rattle.policy_text.specs.Misreads.{Reading}
use Rattle.policy_text.proofs.XLaws.{x_lawful, x_bounds}
use Rattle.policy_text.proofs.Says.{keeps_rules, tree_is}
use Rattle.theorems.specs.AllCalls.{WithinRules, policy_of}
use Rattle.call_rules.proofs.Declining.{program_in, not_runs}
use Rattle.policies.specs.Outcome.{refused, built_handle, of_reading, is_short, text_verdict, most_bytes}
use Rattle.policies.specs.Answers.{PolicyAnswer}
use Rattle.std.specs.Prelude.{Ok, Err}
use Rattle.policies.specs.declared.PolicyRefusal.{PolicyRefusal}

-- a refusal is no handle
pub not_handle : {r : PolicyRefusal} {h : ℕ} → Err r ≡ Ok h → ⊥
not_handle e = let z : ◌≡◌ {A = ℕ} 0 1 = cc e in omega arith

-- A HANDLE is that of the program that was run, which fitted: no verdict of a text gives one
abbrev pub NoHandle : Verdict PolicyAnswer → Type 0
NoHandle (gives (Ok h)) = ⊥
NoHandle (gives (Err r)) = Unit {0}
NoHandle (runs p f) = Unit {0}

pub record RanTo (v : Verdict PolicyAnswer) (S : Nodes) (h : ℕ) {X : Type 0} (x : X) (put : Nodes → X) : Type 0 where
  pub program : Prog
  pub made : Ran → PolicyAnswer
  pub verdict : v ≡ runs program made
  pub answer : made (run program S) ≡ Ok h
  pub state : x ≡ put (run program S).store

module _ {X : Type 0} (m n : ℕ) (S : Nodes) (x : X) (put : Nodes → X) (h : ℕ) where
  pub accepted_ran : (v : Verdict PolicyAnswer) → NoHandle v
      → (let t = finishes (refused UsedUp) m n v S x put in t.answer ≡ Ok h → RanTo v S h t.state put)
  unfolding finishes
  accepted_ran (gives (Ok g)) o e = absurd o
  accepted_ran (gives (Err r)) o e = absurd (not_handle e)
  accepted_ran (runs p f) o e =
      by_test (λ b. (let t = pick b (outcome (f (run p S)) (put (run p S).store)) (outcome (refused UsedUp) x) in
      t.answer ≡ Ok h → RanTo (runs p f) S h t.state put)) (fits_places m n (run p S).store)
      (λ t e. record { program = p; made = f; verdict = refl; answer = e; state = refl })
      (λ t e. absurd (not_handle e)) e

-- the answer of a verdict that runs
abbrev pub made_in : {A : Type 0} → Verdict A → Ran → A
made_in (gives a) R = a
made_in (runs p f) R = f R

-- THE VERDICT of a text runs its policy's program exactly where it keeps the rules
module _ (k : ℕ) (t : List ℕ) (S : Nodes) where
  read_none : (r : Reading) → NoHandle (of_reading k t r)
  unfolding of_reading
  read_none (Ok u) = tt
  read_none (Err m) = tt

  pub text_none : NoHandle (text_verdict t k S)
  unfolding text_verdict
  text_none = by_test (λ b. NoHandle (pick b (of_reading k t (reading x_forms k t)) (gives (refused TooLong)))) (is_short t)
      (λ _. read_none (reading x_forms k t)) (λ _. tt)

  module _ (p : Prog) (f : Ran → PolicyAnswer) where
    read_builds : (r : Reading) → reading x_forms k t ≡ r → of_reading k t r ≡ runs p f
        → (reading x_forms k t ≡ Ok tt) × (runs (policy_program k (tree x_forms t)) built_handle ≡ runs p f)
    unfolding of_reading
    read_builds (Ok u) q e = (q, e)
    read_builds (Err m) q e = absurd (not_runs e)

  -- what a text's verdict runs is the program of its policy
  pub record KeptText (p : Prog) (f : Ran → PolicyAnswer) : Type 0 where
    pub keeps : WithinRules k t
    pub program : policy_program k (policy_of keeps) ≡ p
    pub made : (R : Ran) → f R ≡ Ok R.value

  pub builds_kept : (p : Prog) (f : Ran → PolicyAnswer) → text_verdict t k S ≡ runs p f → KeptText p f
  unfolding text_verdict
  builds_kept p f = by_test (λ b. is_short t ≡ b → pick b (of_reading k t (reading x_forms k t)) (gives (refused TooLong)) ≡ runs p f
      → KeptText p f) (is_short t)
      (λ s u e. let q = read_builds p f (reading x_forms k t) refl e in
      let r = (keeps_rules x_lawful k (x_bounds k) t).0 q.0 in record {
        keeps = record { short = leb→le (length t) most_bytes (subst T (sym u) tt); rules = r };
        program = ap (policy_program k) (sym (tree_is x_lawful t r.policy r.follows)) ∙ ap program_in q.1;
        made = λ R. sym (ap (λ v. made_in v R) q.1);
      })
      (λ s u e. absurd (not_runs e)) refl

  pub kept_builds : (r : WithinRules k t) → text_verdict t k S ≡ runs (policy_program k (policy_of r)) built_handle
  unfolding text_verdict of_reading
  kept_builds r = let e = (keeps_rules x_lawful k (x_bounds k) t).1 r.rules in
      (λ i. pick (le-leb (length t) most_bytes r.short i) (of_reading k t (e i)) (gives (refused TooLong)))
      ∙ ap (λ x. runs (policy_program k x) built_handle) (tree_is x_lawful t (policy_of r) r.rules.follows)
