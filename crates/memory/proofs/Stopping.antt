-- A chain of calls with `?`: a call was made and gave a number, and the rest goes on with it; or it gave nothing, and the rest is not done.
use mathlib.Core.Path.{◌≡◌, refl, sym, subst}
use mathlib.Core.List.{List}
use mathlib.Core.Bool.{true, false}
use Prim.Native.Nat.{ℕ}
use Rattle.std.specs.Prelude.{Option, Some, None}
use Rattle.model.specs.Programs.{Prog, bind}
use Rattle.model.specs.Store.{Kind}
use Rattle.memory.specs.Memo.{memo_program}
use Rattle.memory.specs.Performing.{RunState, run_state, going, ended, Condition, PerformsOn, ReducesOn, KeepsEntry}
use Rattle.memory.proofs.Remembering.{called_kept}
use Rattle.memory.proofs.Steps.{performs_next, performs_stop}

module _ {Q : Condition} {K : Kind} {p : Prog} {s : RunState} {n : ℕ} {m m₁ w w₁ : List ℕ} where
  pub made : {f : ℕ → Prog} {h : ℕ} {q : RunState} {m₂ w₂ : List ℕ} → PerformsOn Q K p s m m₁ w w₁ (run_state true n h)
      → PerformsOn Q K (f h) (going n) m₁ m₂ w₁ w₂ q → PerformsOn Q K (bind p f) s m m₂ w w₂ q
  made {h = h} d a = performs_next {r = Some h} d refl a

  -- the last call gave nothing; one before it did
  pub stopped : {r : Option ℕ} → PerformsOn Q K p s m m₁ w w₁ (run_state false n 0) → r ≡ None → PerformsOn Q K p s m m₁ w w₁ (ended n r)
  stopped d e = subst (λ x. PerformsOn Q K p s m m₁ w w₁ (ended n x)) (sym e) d

  pub failed : {f : ℕ → Prog} {r : Option ℕ} → PerformsOn Q K p s m m₁ w w₁ (run_state false n 0) → r ≡ None
      → PerformsOn Q K (bind p f) s m m₁ w w₁ (ended n r)
  failed {f} d e = subst (λ x. PerformsOn Q K (bind p f) s m m₁ w w₁ (ended n x)) (sym e) (performs_stop {r = None} d refl)

-- the last call gave h, and the memo keeps it
pub kept : {Q : Condition} {K : Kind} {p q : Prog} {s : RunState} {n h : ℕ} {m m₁ w w₁ w₂ : List ℕ} (op l a b : ℕ) → q ≡ memo_program op l a b
    → ReducesOn Q K p q m w → PerformsOn Q K q s m m₁ w w₁ (run_state true n h) → KeepsEntry w₁ w₂ op l a b h
    → PerformsOn Q K p s m m₁ w w₂ (run_state true n h)
kept {h = h} op l a b e u d k = called_kept {r = Some h} op l a b e u d refl k
