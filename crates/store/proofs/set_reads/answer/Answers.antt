-- `answer` gives the call's answer.
use mathlib.Core.Path.{refl}
use mathlib.Core.List.{List}
use Prim.Native.Nat.{ℕ}
use Rattle.model.specs.Store.{set}
use Rattle.model.proofs.ReadOnly.{is_zero_read_only, intersects_read_only}
use Rattle.call_rules.specs.Checking.{Answered}
use Rattle.store.specs.SetCalls.{set_read_answer}
use Rattle.store.specs.SetChecking.{SetReadSafe}
use Rattle.call_rules.specs.declared.Answer.{Answer}
use Rattle.store.specs.declared.set_reads.SetRead.{SetRead}
use Rattle.call_rules.proofs.Reading.{reads_truth}
use Rattle.store.proofs.Arms.{of_arm}
use Rattle.store.proofs.set_reads.answer.Goals as goal

abbrev Answers : List ℕ → List ℕ → ℕ → ℕ → Answer → SetRead → Type 0
Answers m w n l r c = Answered set m w n (λ S. SetReadSafe S l c) (λ S. set_read_answer S l c) r

pub returns-in-IsZero : goal.returns-in-IsZero
returns-in-IsZero c n = of_arm (Answers _ _ _ _ _) c.in-IsZero.is (reads_truth (is_zero_read_only set _ _) (λ S s. s) (λ S. refl) (c.is_zero.ensures n))

pub returns-in-Intersects : goal.returns-in-Intersects
returns-in-Intersects c n =
    of_arm (Answers _ _ _ _ _) c.in-Intersects.is (reads_truth (intersects_read_only _ _ _) (λ S s. s) (λ S. refl) (c.intersects.ensures n))

pub returns-in-Next : goal.returns-in-Next
returns-in-Next c n = of_arm (Answers _ _ _ _ _) c.in-Next.is (c.next_member.ensures n)
