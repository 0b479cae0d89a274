-- A number in decimal digits, as text.
use Rattle.std.specs.Prelude.{cond, List, ℕ, zero, suc, ◌/◌, ltb}
use Rattle.io.specs.Digits.{last_digits}

-- how many digits a number has, of at most f + 1
unfoldable pub size : ℕ → ℕ → ℕ
size zero n = 1
size (suc f) n = cond (ltb n 10) 1 (suc (size f (n / 10)))

-- the digits of a number below 10^20, without zeros in front
unfoldable pub decimal : ℕ → List ℕ
decimal n = last_digits 10 (size 19 n) n
