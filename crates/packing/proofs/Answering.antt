-- A call's answer, packed: what an exported function says follows from what the call says.
use mathlib.Core.Path.{◌≡◌, ap, ◌∙◌}
use mathlib.Core.List.{List}
use Prim.Native.Nat.{ℕ}
use Rattle.store_check.specs.Memory.{Memories}
use Rattle.call_rules.specs.Outcome.{Outcome, outcome}
use Rattle.call_rules.specs.Promise.{Meets}
use Rattle.packing.specs.Returns.{Returns}

module _ {A R : Type 0} (pack : A → R) (out : Outcome A Memories) (M' : Memories) (w w' : List ℕ) (a : A) (r : R) where
  pub answers : Meets out M' w w' a → r ≡ pack a → Returns pack out M' w w' r
  answers says is = record {
    answer = is ∙ ap (λ (t : Outcome A Memories). pack t.answer) says.0;
    state = ap (λ (t : Outcome A Memories). t.state) says.0;
    zeros = says.1;
  }

-- and back: a call under a C name is a call that meets its promise, its answer packed
pub meets : {A R : Type 0} {pack : A → R} {out : Outcome A Memories} {M' : Memories} {w w' : List ℕ} {r : R}
    → Returns pack out M' w w' r → Meets out M' w w' out.answer × (r ≡ pack out.answer)
meets {out = out} says = ((λ i. outcome out.answer (says.state i), says.zeros), says.answer)
