-- `answer` gives the call's answer.
use mathlib.Core.Path.{refl}
use mathlib.Core.List.{List}
use Prim.Native.Nat.{ℕ}
use Rattle.model.specs.Store.{set}
use Rattle.model.proofs.ReadOnly.{has_image_read_only, has_path_read_only}
use Rattle.memory.specs.Performing.{Condition}
use Rattle.call_rules.specs.Checking.{AnsweredOn}
use Rattle.store.specs.ImageCalls.{path_answer}
use Rattle.store.specs.ImageChecking.{PathSafe}
use Rattle.call_rules.specs.declared.Answer.{Answer}
use Rattle.store.specs.declared.path_reads.PathRead.{PathRead}
use Rattle.call_rules.proofs.Reading.{reads_truth}
use Rattle.store.proofs.Arms.{of_arm}
use Rattle.store.proofs.path_reads.answer.Goals as goal

abbrev Answers : Condition → List ℕ → List ℕ → ℕ → ℕ → Answer → PathRead → Type 0
Answers Q m w n l r c = AnsweredOn Q set m w n (λ S. PathSafe S l c) (λ S. path_answer S l c) r

pub returns-in-HasImage : goal.returns-in-HasImage
returns-in-HasImage c j n =
    of_arm (Answers _ _ _ _ _ _) c.in-HasImage.is (reads_truth (has_image_read_only _ _ _) (λ S s. s) (λ S. refl) (c.has_image.ensures j n))

pub returns-in-HasPath : goal.returns-in-HasPath
returns-in-HasPath c j n =
    of_arm (Answers _ _ _ _ _ _) c.in-HasPath.is (reads_truth (has_path_read_only _ _ _ _) (λ S s. s) (λ S. refl) (c.has_path.ensures j n))

pub returns-in-FirstPath : goal.returns-in-FirstPath
returns-in-FirstPath c j n = of_arm (Answers _ _ _ _ _ _) c.in-FirstPath.is (c.first_path.ensures j n)
