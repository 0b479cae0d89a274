-- `check` is what a call on relations and sets declines, or the level of its operands.
use mathlib.Core.Path.{refl}
use mathlib.Core.List.{List}
use Prim.Native.Nat.{ℕ}
use Rattle.model.specs.Store.{rel}
use Rattle.call_rules.specs.Outcome.{Check}
use Rattle.call_rules.specs.Checking.{ChecksBoth}
use Rattle.call_rules.proofs.TwoKinds.{checks_relations}
use Rattle.store.specs.ImageCalls.{image_declines}
use Rattle.store.specs.declared.image_calls.ImageCall.{ImageCall}
use Rattle.store.proofs.Arms.{of_arm, or_arm}
use Rattle.store.proofs.image_calls.check.Goals as goal

abbrev Checked : List ℕ → ℕ → List ℕ → ℕ → ℕ → Check → ImageCall → Type 0
Checked o n t j k r c = ChecksBoth o n t j k (λ S. image_declines k c S) r

pub returns-in-Fwd : goal.returns-in-Fwd
returns-in-Fwd c =
    let t = checks_relations _ _ _ _ _ (c.one.ensures rel refl) in
    or_arm (Checked _ _ _ _ _ _) c.in-Fwd.is t (λ e. of_arm (Checked _ _ _ _ _ _) e t)

pub returns-in-Push : goal.returns-in-Push
returns-in-Push c =
    let t = c.pair.ensures in
    or_arm (Checked _ _ _ _ _ _) c.in-Push.is t (λ e. of_arm (Checked _ _ _ _ _ _) e t)
