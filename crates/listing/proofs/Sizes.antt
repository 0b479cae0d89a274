-- The digits that `io::decimal` writes are those of `decimal`. From `IsDigitCount`, digit by digit.
use mathlib.Core.Path.{◌≡◌, refl, sym, ap, subst}
use mathlib.Core.Bool.{cond}
use Prim.Native.Nat.{ℕ, zero, suc, ◌-◌, ◌*◌, ◌/◌, ◌^◌, ◌<◌, ◌≤◌}
use native.Mathlib.Nat.{pow-suc, one-le-pow, pow-le-pow_right, le-div_iff_mul-le, div-lt_iff_lt-mul, le_of_suc-le-suc, lt_of_not-le}
use native.Mathlib.Omega.{arith}
use lib.Dec.{ltb}
use borrow.Author.Tests.{ltb-true, ltb-false}
use Rattle.io.specs.Digits.{last_digits, IsDigitCount}
use Rattle.model.proofs.Bools.{by_test}
use Rattle.listing.specs.Decimal.{size, decimal}

-- a number of q + 2 digits
low : (n q : ℕ) → IsDigitCount 10 1 n (suc (suc q)) → 10 ^ q * 10 ≤ n
low n q F =
    let one_less : suc (suc q) - 1 ≡ suc q = omega arith in
    subst (λ (p : ℕ). p ≤ n) (pow-suc 10 q) (subst (λ (j : ℕ). 10 ^ j ≤ n) one_less (F.2 (omega arith)))

-- its tenth has one digit less
fewer : (n q : ℕ) → IsDigitCount 10 1 n (suc (suc q)) → IsDigitCount 10 1 (n / 10) (suc q)
fewer n q F =
    let top : n < 10 ^ suc q * 10 = subst (λ (p : ℕ). n < p) (pow-suc 10 (suc q)) F.1 in
    let back : q ≡ suc q - 1 = omega arith in
    let tenth : 10 ^ q ≤ n / 10 = (le-div_iff_mul-le {k = 10} {x = 10 ^ q} {y = n} (omega arith)).1 (low n q F) in
    (omega arith, (div-lt_iff_lt-mul {k = 10} {x = n} {y = 10 ^ suc q} (omega arith)).1 top, λ more. subst (λ (j : ℕ). 10 ^ j ≤ n / 10) back tenth)

-- a number below 10 has one digit
one : (n r : ℕ) → n < 10 → IsDigitCount 10 1 n r → 1 ≡ r
one n zero small F = absurd (let z = F.0 in omega arith)
one n (suc zero) small F = refl
one n (suc (suc q)) small F =
    absurd (omega (arith, one-le-pow q 10 (omega arith), low n q F))

-- a number from 10 on has one digit more than its tenth
several : (S : ℕ → ℕ) (f n r : ℕ) → ((m q : ℕ) → IsDigitCount 10 1 m q → q ≤ suc f → S m ≡ q) → 10 ≤ n → IsDigitCount 10 1 n r → r ≤ suc (suc f)
    → suc (S (n / 10)) ≡ r
several S f n zero so big F most = absurd (let z = F.0 in omega arith)
several S f n (suc zero) so big F most = absurd (let z : n < 10 = F.1 in omega arith)
several S f n (suc (suc q)) so big F most = ap suc (so (n / 10) (suc q) (fewer n q F) (omega arith))

size_is : (f n r : ℕ) → IsDigitCount 10 1 n r → r ≤ suc f → size f n ≡ r
unfolding size
size_is zero n r F most = let z = F.0 in omega arith
size_is (suc f) n r F most =
    by_test (λ b. cond b 1 (suc (size f (n / 10))) ≡ r) (ltb n 10)
    (λ e. one n r (ltb-true n 10 e) F)
    (λ e. several (size f) f n r (size_is f) (ltb-false n 10 e) F most)

-- twenty digits hold a number of 64 bits
pub few_digits : (n k : ℕ) → n < 10 ^ 20 → IsDigitCount 10 1 n k → k ≤ 20
few_digits n k small F = le_of_suc-le-suc (lt_of_not-le (λ over.
    let p : 10 ^ (k - 1) ≤ n = F.2 (omega arith) in
    let q : 10 ^ 20 ≤ 10 ^ (k - 1) = pow-le-pow_right {n = 10} (omega arith) {i = 20} {j = k - 1} (omega arith) in
    omega arith))

pub decimal_is : (n r : ℕ) → IsDigitCount 10 1 n r → r ≤ 20 → last_digits 10 r n ≡ decimal n
unfolding decimal
decimal_is n r F most = ap (λ (k : ℕ). last_digits 10 k n) (sym (size_is 19 n r F most))
