-- `first_pair` finds the first pair; the measure is the level.
use mathlib.Core.Path.{◌≡◌, sym, subst}
use Prim.Native.Nat.{ℕ, ◌+◌, ◌-◌, ◌*◌, ◌^◌, ◌<◌, ◌≤◌}
use native.Mathlib.Omega.{arith}
use native.Mathlib.Nat.{pow-suc}
use Rattle.model.proofs.Powers.{pow_pos}
use Rattle.first_paths.proofs.Halves.{one_above}
use Rattle.first_paths.proofs.Pairs.{pair_at_0, pair_next}
use Rattle.first_paths.proofs.+first_pair.Goals as goal

below : (l n r : ℕ) → (l ≡ 0 → ⊥) → n < 2 ^ (l - 1) → r ≤ 2 * n + 1 → r < 2 ^ l
below l n r h i j = subst (λ l. r < 2 ^ l) (sym (one_above l h)) (rw pow-suc (omega arith))

pub returns-then-level-eq0 : goal.returns-then-level-eq0
returns-then-level-eq0 t c = record { small = (pow_pos _, pow_pos _); first = λ j n. pair_at_0 c.if-level-eq0.true }

pub returns : goal.returns
returns t c =
    record {
      small = (
        below _ _ _ c.if-level-eq0.false c.first_pair-rest.ensures.small.0 c.with_bit.ensures.small,
        below _ _ _ c.if-level-eq0.false c.first_pair-rest.ensures.small.1 c.with_bit-2.ensures.small,
      );
      first = λ j n. pair_next _ _ (one_above _ c.if-level-eq0.false) (c.first_digit-input.ensures j n) c.get.ensures c.get-2.ensures
          c.get-3.ensures c.side-x.ensures
          c.side-z.ensures c.block-y.ensures (c.first_pair-rest.ensures.first j n)
          c.with_bit.ensures.is c.with_bit-2.ensures.is;
    }
