-- What a call answers once a program has run on the nodes of one kind, and what is done to their memory.
use Rattle.std.specs.Prelude.{◌≡◌, true, false, List, ℕ, length, Result, Ok, Err}
use Rattle.model.specs.Programs.{Ran}
use Rattle.model.specs.Store.{Kind, Store, nodes}
use Rattle.memory.specs.Performing.{RunState, other}
use Rattle.store_check.specs.Commit.{Committed}
use Rattle.call_rules.specs.declared.Refusal.{Refusal}
use Rattle.call_rules.specs.declared.Refusal.TheVariants.{UsedUp}
use Rattle.call_rules.specs.declared.Answer.{Answer}
use Rattle.call_rules.specs.declared.Answer.TheVariants.{Handle}

-- the memory is committed, and the answer is the handle where all fitted, else 6
pub record Finished (m m' : List ℕ) (at start c n : ℕ) (r : RunState) (a : Result Answer Refusal) : Type 0 where
  pub committed : Committed m m' at start c n r
  pub fitted : r.ok ≡ true → a ≡ Ok (Handle r.h)
  pub full : r.ok ≡ false → a ≡ Err UsedUp

-- the run R of a program on S added nodes of kind K alone, and all fitted, as the state r says
pub record Fitted (K : Kind) (S : Store) (r : RunState) (R : Ran) : Type 0 where
  pub value : r.h ≡ R.value
  pub count : length (nodes K R.store) ≡ r.n
  pub others : nodes (other K) R.store ≡ nodes (other K) S

-- a is the answer to that run: f's of it where all fitted, else six
pub record Ends {A : Type 0} (K : Kind) (S : Store) (r : RunState) (R : Ran) (f : Ran → A) (six a : A) : Type 0 where
  pub fitted : r.ok ≡ true → Fitted K S r R → a ≡ f R
  pub full : r.ok ≡ false → a ≡ six
