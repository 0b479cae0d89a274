-- `recall_rank` knows a rank where the memo knows its parts.
use mathlib.Core.Path.{◌≡◌, ◌∙◌, sym}
use Prim.Native.Nat.{ℕ}
use Rattle.std.specs.Prelude.{Some, Result, Ok, Err, OkIff}
use Rattle.std.specs.Result.{result_ok}
use Rattle.first_paths.proofs.Ranks.{rank_known}
use Rattle.first_paths.proofs.inputs.recall_rank.Goals as goal

-- a number that fits is itself
fitting : {E : Type 0} {v h : ℕ} (P : Type 0) (r : Result ℕ E) → OkIff r P v → result_ok r ≡ Some h → v ≡ h
fitting P (Ok x) i e = sym i.1 ∙ cc
fitting P (Err x) i e = cc

pub returns : goal.returns
returns c S h m e =
    rank_known _ _ _ _ m c.in_ok-low.ensures c.in_ok-mid.ensures c.in_ok-high.ensures
    (let f = fitting _ _ c.try_from.ensures (sym c.ok.ensures.value ∙ e) in cc (c.from.ensures, c.from-2.ensures, c.from-3.ensures, c.from-unit.ensures))
