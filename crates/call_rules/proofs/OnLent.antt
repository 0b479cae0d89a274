-- What the generic calls on two memories share: the outcome with what was added, and the working memory that was cleared.
use mathlib.Core.Path.{◌≡◌, ap, ◌∙◌}
use mathlib.Core.Bool.{Bool}
use mathlib.Core.List.{List}
use Prim.Native.Nat.{ℕ}
use lib.ListN.{length, replicate}
use Rattle.store_check.specs.Memory.{Memories}
use Rattle.store_check.specs.StoreChecking.{StoreChecked}
use Rattle.call_rules.specs.Added.{held_in, less, counted}
use Rattle.call_rules.specs.Outcome.{Outcome, outcome}
use Rattle.call_rules.specs.declared.added.NodeCounts.{NodeCounts}

-- a working memory as long as the check left it, cleared
pub cleared : {M : Memories} {last r : Bool} {w w' v : List ℕ} → StoreChecked M last w w' r → (u : List ℕ) → length u ≡ length w'
    → v ≡ replicate (length u) 0 → v ≡ replicate (length w) 0
cleared C u l e = e ∙ ap (λ n. replicate n 0) (l ∙ C.work_length)

-- the nodes held after a call less those held before it
pub with_added : {A : Type 0} {a : A} {t : Outcome A Memories} {before after added : NodeCounts} (M M' : Memories) → before ≡ held_in M → after ≡ held_in M'
    → added ≡ less after before → outcome a M' ≡ t → outcome (a, added) M' ≡ counted held_in M t
with_added {A} {a} M M' b f d e = ap (λ n. outcome (a, n) M') (d ∙ (λ i. less (f i) (b i))) ∙ ap (counted held_in M) e
