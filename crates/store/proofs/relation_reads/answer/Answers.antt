-- `answer` gives the call's answer.
use mathlib.Core.Path.{refl}
use mathlib.Core.List.{List}
use Prim.Native.Nat.{ℕ}
use Rattle.model.specs.Store.{rel}
use Rattle.model.proofs.ReadOnly.{is_zero_read_only}
use Rattle.call_rules.specs.Checking.{Answered}
use Rattle.store.specs.RelationCalls.{relation_read_answer}
use Rattle.store.specs.RelationChecking.{RelationReadSafe}
use Rattle.call_rules.specs.declared.Answer.{Answer}
use Rattle.store.specs.declared.relation_reads.RelationRead.{RelationRead}
use Rattle.call_rules.proofs.Reading.{reads_truth}
use Rattle.store.proofs.Arms.{of_arm}
use Rattle.store.proofs.relation_reads.answer.Goals as goal

abbrev Answers : List ℕ → List ℕ → ℕ → ℕ → Answer → RelationRead → Type 0
Answers m w n l r c = Answered rel m w n (λ S. RelationReadSafe S l c) (λ S. relation_read_answer S l c) r

pub returns-in-IsZero : goal.returns-in-IsZero
returns-in-IsZero c n = of_arm (Answers _ _ _ _ _) c.in-IsZero.is (reads_truth (is_zero_read_only rel _ _) (λ S s. s) (λ S. refl) (c.is_zero.ensures n))
