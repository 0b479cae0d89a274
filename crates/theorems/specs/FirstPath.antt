-- 02, M-100: "'None' is returned exactly when `has_path` says no. Refusals are those of `has_path`."
use Rattle.std.specs.Prelude.{◌≡◌, ◌↔◌, false, ℕ, Result, Ok, Err}
use Rattle.store_check.specs.Memory.{Memories}
use Rattle.call_rules.specs.declared.Answer.{Answer}
use Rattle.call_rules.specs.declared.Answer.TheVariants.{Truth, Nothing}
use Rattle.call_rules.specs.declared.Refusal.{Refusal}
use Rattle.store.specs.Calls.{path_read, step}
use Rattle.store.specs.declared.path_reads.PathRead.TheVariants.{HasPath, FirstPath}

-- a is none exactly where b is a no, and a refusal exactly where b is the same
pub record AnswersAlike (a b : Result Answer Refusal) : Type 0 where
  pub none : (a ≡ Ok Nothing) ↔ (b ≡ Ok (Truth false))
  pub refused : (r : Refusal) → (a ≡ Err r) ↔ (b ≡ Err r)

-- on any memories, for any operands
abbrev pub AsHasPath : Memories → ℕ → ℕ → ℕ → Type 0
AsHasPath M p a q = AnswersAlike (step (path_read (FirstPath p a q)) M).answer (step (path_read (HasPath p a q)) M).answer
