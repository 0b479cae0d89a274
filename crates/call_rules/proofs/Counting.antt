-- Nodes counted before and after a call: what a function says that returns the difference beside its answer.
use mathlib.Core.Path.{◌≡◌, refl, ap, ◌∙◌}
use mathlib.Core.Bool.{false}
use mathlib.Core.List.{List}
use Prim.Native.Nat.{ℕ, ◌-◌}
use native.Mathlib.Omega.{arith}
use lib.Dec.{eqb}
use Rattle.store_check.specs.Memory.{Memories}
use Rattle.call_rules.specs.Added.{node_counts, held_in, less, counted, new_counted}
use Rattle.call_rules.specs.Answers.{refusal_number}
use Rattle.call_rules.specs.Outcome.{Outcome, outcome, map_answer}
use Rattle.call_rules.specs.Promise.{Meets, Replies}
use Rattle.call_rules.specs.declared.Answer.{Answer}
use Rattle.call_rules.specs.declared.Answer.TheVariants.{Handle}
use Rattle.std.specs.Prelude.{Result, Ok}
use Rattle.call_rules.specs.declared.Refusal.{Refusal}
use Rattle.call_rules.specs.declared.Refusal.TheVariants.{NotStore, NotHeld, LevelsDiffer, NoChildren, OutOfRange, UsedUp, TooLong}
use Rattle.call_rules.specs.declared.added.NodeCounts.{NodeCounts}

module _ {A : Type 0} (call : Memories → Outcome A Memories) (M M' : Memories) (w w' : List ℕ) (a : A) (before after n : NodeCounts) where
  pub replies : before ≡ held_in M → Meets (call M) M' w w' a → after ≡ held_in M' → n ≡ less after before → Replies call M M' w w' a n
  replies b says e is = ((λ i. outcome (a, (is ∙ (λ i. less (e i) (b i))) i) M') ∙ ap (counted held_in M) says.0, says.1)

-- the outcome without the nodes
pub without_counts : {A X : Type 0} {a : A} {n : NodeCounts} {x : X} {t : Outcome (A × NodeCounts) X} → outcome (a, n) x ≡ t
    → outcome a x ≡ map_answer (λ r. r.0) t
without_counts e = ap (map_answer (λ r. r.0)) e

-- what is as it was has grown by nothing
pub less_same : (n : NodeCounts) → less n n ≡ node_counts 0 0
less_same n = λ i. node_counts (none n.relations i) (none n.sets i)
  where
    none : (a : ℕ) → a - a ≡ 0
    none a = omega arith

-- a refusal's number is not 0
pub never_zero : (r : Refusal) → eqb (refusal_number r) 0 ≡ false
never_zero NotStore = refl
never_zero NotHeld = refl
never_zero LevelsDiffer = refl
never_zero NoChildren = refl
never_zero OutOfRange = refl
never_zero UsedUp = refl
never_zero TooLong = refl

-- `new`: declined, it adds nothing; accepted, all that is held
module _ {X : Type 0} (held : X → NodeCounts) {t : Outcome (Result Answer Refusal) X} {x : X} where
  pub new_given : (h : ℕ) (n : NodeCounts) → outcome (Ok (Handle h)) x ≡ t → n ≡ held x → outcome (Ok (Handle h), n) x ≡ new_counted held t
  new_given h n e is = (λ i. outcome (Ok (Handle h), is i) x) ∙ ap (new_counted held) e
