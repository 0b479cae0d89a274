-- HISTORIES: the calls that were made on two memories since a `new`, each with any arguments, any text and any working memory;
-- 01, "A list of calls, and its count".
use Rattle.std.specs.Prelude.{◌≡◌, List, [], ◌∷◌, ℕ, Result, Ok}
use Rattle.store_check.specs.Memory.{Memories}
use Rattle.store.specs.Calls.{Call, new_store, step}
use Rattle.call_rules.specs.Added.{node_counts, held_in, new_counted}
use Rattle.call_rules.specs.Promise.{Meets, Replies}
use Rattle.call_rules.specs.declared.Answer.{Answer}
use Rattle.call_rules.specs.declared.Refusal.{Refusal}
use Rattle.call_rules.specs.declared.Answer.TheVariants.{Handle}
use Rattle.call_rules.specs.declared.added.NodeCounts.{NodeCounts}
use Rattle.policies.specs.Outcome.{policy_step}
use Rattle.policies.specs.Answers.{PolicyAnswer}
use Rattle.theorems.specs.AllCalls.{AnyCall, call, policy, AnyAnswer, answered, read, adds, reads, effect, AnyReply}
use Rattle.theorems.specs.Lists.{Refused}

-- a function was called with the memories M and the working memory w, left M' and w' and returned a reply: what it promises holds.
-- The functions of `store` for calls that only read promise `Meets` of `step`, and return an answer alone; those for calls that may add nodes
-- promise `Replies` of `step`, and so does `policies::policy` of `policy_step`. `new_store::new` promises `Meets` of `new_step`, which is
-- `step` of `new`, with the nodes that the new store holds
pub data Promised : AnyCall → Memories → Memories → List ℕ → List ℕ → AnyReply → Type 0 where
  of_new : {k : ℕ} {M M' : Memories} {w w' : List ℕ} {a : Result Answer Refusal} {n : NodeCounts}
      → Meets (new_counted held_in (step (new_store k) M)) M' w w' (a, n) → Promised (call (new_store k)) M M' w w' (answered a, n)
  of_adding : {c : Call} {M M' : Memories} {w w' : List ℕ} {a : Result Answer Refusal} {n : NodeCounts}
      → effect (call c) ≡ adds → Replies (step c) M M' w w' a n → Promised (call c) M M' w w' (answered a, n)
  of_reading : {c : Call} {M M' : Memories} {w w' : List ℕ} {a : Result Answer Refusal} → effect (call c) ≡ reads → Meets (step c M) M' w w' a
      → Promised (call c) M M' w w' (answered a, node_counts 0 0)
  of_policy : {t : List ℕ} {M M' : Memories} {w w' : List ℕ} {a : PolicyAnswer} {n : NodeCounts} → Replies (policy_step t) M M' w w' a n
      → Promised (policy t) M M' w w' (read a, n)

-- A CALL THAT WAS MADE, with the answer and the nodes added as the function returned them
pub record Made : Type 0 where
  pub what : AnyCall
  pub before : Memories
  pub after : Memories
  pub work : List ℕ
  pub work' : List ℕ
  pub answer : AnyAnswer
  pub added : NodeCounts
  pub promised : Promised what before after work work' (answer, added)

-- 01: "Each is lent the same two slices as the call before left them, and nothing else writes to them in between"; the first is lent M
unfoldable pub LentInTurn : Memories → List Made → Type 0
LentInTurn M [] = Unit {0}
LentInTurn M (c ∷ cs) = (c.before ≡ M) × LentInTurn c.after cs

-- the memories as the last call left them
unfoldable pub left_after : Memories → List Made → Memories
left_after M [] = M
left_after M (c ∷ cs) = left_after c.after cs

-- 01: among the calls is "any `new` that is refused"
unfoldable pub NoneRenews : List Made → Type 0
NoneRenews [] = Unit {0}
NoneRenews (c ∷ cs) = ((k : ℕ) (a : Result Answer Refusal) → c.what ≡ call (new_store k) → c.answer ≡ answered a → Refused a) × NoneRenews cs

-- 01: "Demand 3's list starts from the two memories as an accepted `new` left them; it may be empty."
pub record History : Type 0 where
  pub width : ℕ
  pub new : Made
  pub is_new : new.what ≡ call (new_store width)
  pub top : ℕ
  pub accepted : new.answer ≡ answered (Ok (Handle top))
  pub calls : List Made
  pub in_turn : LentInTurn new.after calls
  pub none_renews : NoneRenews calls
