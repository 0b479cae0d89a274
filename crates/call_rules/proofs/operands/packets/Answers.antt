-- `packets` answers the operand's level where both packets are numbers below 2 to the power of it.
use mathlib.Core.Path.{refl, ◌∙◌}
use mathlib.Core.Bool.{Bool}
use Prim.Native.Nat.{ℕ, ◌^◌}
use native.Mathlib.Omega.{arith}
use lib.Dec.{ltb}
use Rattle.model.specs.Store.{rel}
use Rattle.call_rules.proofs.Handles.{handed_on, stays, fails, passes, low_level, too_big, in_range}
use Rattle.call_rules.proofs.operands.packets.Goals.{then-from-most-via-then-from-most, then-from-most-via-else-from-most+then-from-most-2}
use Rattle.call_rules.proofs.operands.packets.Goals as goal

abbrev fits : ℕ → ℕ → Bool
fits x l = ltb x (2 ^ l)

pub returns-in_err-l : goal.returns-in_err-l
returns-in_err-l c =
    let e = c.in_err-l.was in
    let a = c.from_residual.ensures.1 in
    stays (stays (c.one.ensures rel refl) _ (fits c.args.input) _ _ e a) _ (fits c.args.output) _ _ (handed_on _ _ _ e a ∙ e) a

pub overflow_cast-l : goal.overflow_cast-l
overflow_cast-l c = omega (arith, low_level (c.one.ensures rel refl) _ c.in_ok-l.was c.requires)

pub power-most-requires : goal.power-most-requires
power-most-requires c = low_level (c.one.ensures rel refl) _ c.in_ok-l.was c.requires

pub returns-then-from-most : goal.returns-then-from-most
returns-then-from-most c = elim c.then-from-most.branch [
  | then-from-most-via-then-from-most w ↦
      stays (fails (c.one.ensures rel refl) _ (fits c.args.input) _ c.in_ok-l.was
      (too_big _ _ _ _ c.from.ensures c.power-most.ensures w.if-from-most.true)) _ (fits c.args.output) _ _ refl refl
  | then-from-most-via-else-from-most+then-from-most-2 w ↦
      fails (passes (c.one.ensures rel refl) _ (fits c.args.input) _ c.in_ok-l.was
      (in_range _ _ _ _ c.from.ensures c.power-most.ensures w.if-from-most.false)) _ (fits c.args.output) _ refl
      (too_big _ _ _ _ w.from-else-from-most.ensures c.power-most.ensures w.if-from-most-2.true)
]

pub returns : goal.returns
returns c =
    passes (passes (c.one.ensures rel refl) _ (fits c.args.input) _ c.in_ok-l.was
    (in_range _ _ _ _ c.from.ensures c.power-most.ensures c.if-from-most.false)) _ (fits c.args.output) _ refl
    (in_range _ _ _ _ c.from-else-from-most.ensures c.power-most.ensures c.if-from-most-2.false)
