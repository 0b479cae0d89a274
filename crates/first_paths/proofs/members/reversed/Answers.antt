-- `reversed` takes the number's bits from the lowest on, each below those before it: after i of them it has the rank of the number's packet of i fields.
use mathlib.Core.Path.{◌≡◌, refl, sym, ap, ◌∙◌}
use Prim.Native.Nat.{ℕ, suc, ◌+◌, ◌*◌, ◌/◌, ◌%◌, ◌^◌, ◌<◌, ◌≤◌}
use native.Mathlib.Omega.{arith}
use native.Mathlib.Nat.{div-div-eq-div-mul}
use Rattle.model.specs.FieldOrder.{rank}
use Rattle.model.specs.Packets.{packet}
use Rattle.model.proofs.FieldOrder.{rank_below}
use Rattle.model.proofs.Numbers.{packet_is, rank_last}
use Rattle.model.proofs.Powers.{pow_next, pow_less}
use Rattle.first_paths.proofs.members.reversed.Goals as goal

starts : (n : ℕ) → (0 ≡ rank (packet 0 n)) × (n ≡ n / 2 ^ 0)
unfolding packet rank
starts n = (refl, omega arith)

-- one field more
next_rank : (n i r m : ℕ) → r ≡ rank (packet i n) → m ≡ n / 2 ^ i → 2 * r + m % 2 ≡ rank (packet (i + 1) n)
next_rank n i r m e f = let g : i + 1 ≡ suc i = omega arith in rw g (omega (arith, rank_last i n, e, ap (λ x. x % 2) f))

next_rest : (n i m : ℕ) → m ≡ n / 2 ^ i → m / 2 ≡ n / 2 ^ (i + 1)
next_rest n i m f = ap (λ x. x / 2) f ∙ div-div-eq-div-mul n (2 ^ i) 2 ∙ ap (λ x. n / x) (sym (pow_next i))

-- a rank of at most 32 fields is below 2^32
small : (n i : ℕ) → i ≤ 32 → rank (packet i n) < 4294967296
small n i h = omega (arith, rank_below (packet_is i n), pow_less i 32 h)

fits : (n l i r m : ℕ) → l ≤ 32 → i < l → r ≡ rank (packet i n) → m ≡ n / 2 ^ i → 2 * r + m % 2 < 4294967296
fits n l i r m h j e f = omega (arith, next_rank n _ _ _ e f, small n (i + 1) (omega arith))

pub loop-init : goal.loop-init
loop-init c = starts c.args.n

pub overflow_mul-r : goal.overflow_mul-r
overflow_mul-r c = let f = fits c.args.n _ _ _ _ c.requires c.loop-test.true c.loop.invariant.0 c.loop.invariant.1 in omega arith

pub overflow_add-r : goal.overflow_add-r
overflow_add-r c = let f = fits c.args.n _ _ _ _ c.requires c.loop-test.true c.loop.invariant.0 c.loop.invariant.1 in omega arith

pub loop-preserved : goal.loop-preserved
loop-preserved c =
    let v = c.loop.invariant in
    let n = c.args.n in
    (next_rank n _ _ _ v.0 v.1, next_rest n _ _ v.1)
