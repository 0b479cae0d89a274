-- Calls that add nothing: the answer of each is what the operation on the nodes gives.
use mathlib.Core.Path.{◌≡◌, refl, sym, ap, ◌∙◌, subst}
use mathlib.Core.List.{List}
use mathlib.Core.Bool.{Bool, true, false}
use Prim.Native.Nat.{ℕ}
use lib.Dec.{eqb}
use Rattle.model.specs.Store.{Kind, Store}
use Rattle.model.specs.Programs.{Prog}
use Rattle.model.specs.Safety.{Safe, ReadOnly}
use Rattle.memory.specs.Rows.{plain}
use Rattle.memory.specs.Performing.{RunState, run_state, going, told, Condition, PerformsOn}
use Rattle.memory.proofs.ReadingOnly.{reads_only}
use Rattle.call_rules.specs.Checking.{AnsweredOn}
use Rattle.call_rules.specs.Outcome.{yes_no}
use Rattle.call_rules.specs.declared.Answer.{Answer}
use Rattle.call_rules.specs.declared.Answer.TheVariants.{Truth}

-- yes is 1, and no is 0
told_truth : (n : ℕ) (b : Bool) → eqb (told n b).h 1 ≡ b
told_truth n true = refl
told_truth n false = refl

module _ {Q : Condition} {K : Kind} {m w : List ℕ} {n : ℕ} {safe : Store → Type 0} {answer : Store → Answer} where
  -- a program that gives 1 or 0, whatever it ends with; where it says yes or no
  pub reads_value : {p : Prog} {r : RunState} {w' : List ℕ} → ReadOnly p → ((S : Store) → safe S → Safe p S)
      → ((S : Store) → answer S ≡ yes_no p S) → PerformsOn Q K p (run_state true n 0) m m w w' r → AnsweredOn Q K m w n safe answer (Truth (eqb r.h 1))
  reads_value {p} {r} o s y P = record {
    answers = λ B c f R t.
        let S = plain K B m n in
        ap (λ h. Truth (eqb h 1)) (reads_only o P B c f (s S t) R).value ∙ sym (y S);
  }

  pub reads_truth : {p : Prog} {b : Bool} {w' : List ℕ} → ReadOnly p → ((S : Store) → safe S → Safe p S)
      → ((S : Store) → answer S ≡ yes_no p S) → PerformsOn Q K p (going n) m m w w' (told n b) → AnsweredOn Q K m w n safe answer (Truth b)
  reads_truth {b = b} o s y P = subst (λ t. AnsweredOn Q K m w n safe answer (Truth t)) (told_truth n b) (reads_value o s y P)
