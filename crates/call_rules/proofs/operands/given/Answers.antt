-- `given` answers the operand's level where no packet was given, or one whose number is below 2 to the power of it.
use mathlib.Core.Path.{◌≡◌, refl}
use mathlib.Core.Bool.{Bool, true, ◌||◌}
use Prim.Native.Nat.{ℕ, ◌^◌}
use native.Mathlib.Omega.{arith}
use lib.Dec.{eqb, ltb}
use borrow.Author.Tests.{eq-eqb, ne_eqb}
use Rattle.model.specs.Store.{set}
use Rattle.call_rules.proofs.Handles.{stays, fails, passes, low_level, too_big, in_range}
use Rattle.call_rules.proofs.operands.given.Goals.{else-asked-via-then-asked+else-from-power, else-asked-via-else-asked}
use Rattle.call_rules.proofs.operands.given.Goals as goal

-- the packet counts where one was given, and else not
abbrev counts : ℕ → ℕ → ℕ → Bool
counts g x l = eqb g 0 || ltb x (2 ^ l)

asked : (g x l : ℕ) {b : Bool} → (g ≡ 0 → ⊥) → ltb x (2 ^ l) ≡ b → counts g x l ≡ b
asked g x l n e = rw (ne_eqb g 0 n) e

unasked : (g x l : ℕ) → g ≡ 0 → counts g x l ≡ true
unasked g x l e = rw (eq-eqb g 0 e) refl

pub returns-in_err-l : goal.returns-in_err-l
returns-in_err-l c = stays (c.one.ensures set refl) _ (counts c.args.given c.args.last) _ _ c.in_err-l.was c.from_residual.ensures.1

pub overflow_cast-l : goal.overflow_cast-l
overflow_cast-l c = omega (arith, low_level (c.one.ensures set refl) _ c.in_ok-l.was c.requires)

pub power-requires : goal.power-requires
power-requires c = low_level (c.one.ensures set refl) _ c.in_ok-l.was c.requires

pub returns-then-from-power : goal.returns-then-from-power
returns-then-from-power c =
    fails (c.one.ensures set refl) _ (counts c.args.given c.args.last) _ c.in_ok-l.was
    (asked _ _ _ c.if-asked.true (too_big _ _ _ _ c.from.ensures c.power.ensures c.if-from-power.true))

pub returns : goal.returns
returns c = elim c.else-asked.branch [
  | else-asked-via-then-asked+else-from-power w ↦
      passes (c.one.ensures set refl) _ (counts c.args.given c.args.last) _ c.in_ok-l.was
      (asked _ _ _ w.if-asked.true (in_range _ _ _ _ w.from.ensures w.power.ensures w.if-from-power.false))
  | else-asked-via-else-asked w ↦
      passes (c.one.ensures set refl) _ (counts c.args.given c.args.last) _ c.in_ok-l.was (unasked _ _ _ w.if-asked.false)
]
