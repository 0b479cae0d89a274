-- Powers of 2.
use mathlib.Core.Path.{◌≡◌}
use Prim.Native.Nat.{ℕ, zero, suc, ◌+◌, ◌*◌, ◌^◌, ◌<◌, ◌≤◌}
use native.Mathlib.Omega.{arith}
use native.Mathlib.Decide.{dec_lt}
use native.Mathlib.Nat.{pow-suc, pow-zero}

pub pow_pos : (l : ℕ) → 0 < 2 ^ l
pow_pos zero = rw pow-zero (omega arith)
pow_pos (suc l) = rw pow-suc (omega (arith, pow_pos l))

pub pow_next : (i : ℕ) → 2 ^ (i + 1) ≡ 2 ^ i * 2
pow_next i = let e : i + 1 ≡ suc i = omega arith in rw (e, pow-suc) (omega arith)

pub pow_less : (i n : ℕ) → i ≤ n → 2 ^ i ≤ 2 ^ n
pow_less i zero h = let e : i ≡ 0 = omega arith in rw e (omega arith)
pow_less i (suc n) h = elim (dec_lt n i) [
  | yes g ↦ (let e : i ≡ suc n = omega arith in rw e (omega arith))
  | no g ↦ (let t = pow_less i n (omega arith) in rw pow-suc (omega arith))
]
