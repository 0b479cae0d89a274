-- `first_from` finds the first member from a rank on; the measure is the level.
use mathlib.Core.Path.{◌≡◌, sym, subst}
use Prim.Native.Nat.{ℕ, ◌+◌, ◌-◌, ◌^◌, ◌<◌, ◌≤◌}
use native.Mathlib.Nat.{pow-suc}
use native.Mathlib.Omega.{arith}
use Rattle.model.proofs.Powers.{pow_pos, pow_less}
use Rattle.first_paths.proofs.Halves.{one_above}
use Rattle.first_paths.proofs.FromRanks.{find_empty, find_at_0, find_first, find_second, find_beyond}
use Rattle.first_paths.proofs.members.+first_from.Goals as goal

-- two halves are the whole
both : (l v t : ℕ) → (l ≡ 0 → ⊥) → v ≡ 2 ^ (l - 1) → t ≤ 2 ^ (l - 1) → v + t ≤ 2 ^ l
both l v t h e i = subst (λ n. v + t ≤ 2 ^ n) (sym (one_above l h)) (rw pow-suc (omega (arith, e)))

-- what is in the first half is in the whole
below : (l v t : ℕ) → (l ≡ 0 → ⊥) → v ≡ 2 ^ (l - 1) → t < v → t ≤ 2 ^ l
below l v t h e i = let d = pow_less (l - 1) l (omega arith) in omega (arith, e)

pub returns-then-pp : goal.returns-then-pp
returns-then-pp t c = record { small = omega (arith, c.power.ensures); first = find_empty c.set_properties-pp.ensures c.if-pp.true c.power.ensures }

pub returns-then-level-eq0 : goal.returns-then-level-eq0
returns-then-level-eq0 t c =
    record {
      small = let e = pow_pos c.args.level in omega (arith, c.min.ensures);
      first = find_at_0 c.set_properties-pp.ensures c.if-pp.false c.if-level-eq0.true c.min.ensures;
    }

pub returns-then-from-half : goal.returns-then-from-half
returns-then-from-half t c =
    record {
      small = both _ _ _ c.if-level-eq0.false c.power-half.ensures c.first_from.ensures.small;
      first = find_beyond (one_above _ c.if-level-eq0.false) c.get-x.ensures c.power-half.ensures c.if-from-half.true
          c.first_from.ensures.first;
    }

pub returns-then-r0-half : goal.returns-then-r0-half
returns-then-r0-half t c =
    record {
      small = below _ _ _ c.if-level-eq0.false c.power-half.ensures c.if-r0-half.true;
      first = find_first (one_above _ c.if-level-eq0.false) c.get-x.ensures c.power-half.ensures c.if-r0-half.true
          c.first_from-r0.ensures.first;
    }

pub returns : goal.returns
returns t c =
    record {
      small = both _ _ _ c.if-level-eq0.false c.power-half.ensures c.first_from-2.ensures.small;
      first = find_second (one_above _ c.if-level-eq0.false) c.get-x.ensures c.power-half.ensures c.if-from-half.false c.if-r0-half.false
          c.first_from-r0.ensures.first c.first_from-2.ensures.first;
    }
