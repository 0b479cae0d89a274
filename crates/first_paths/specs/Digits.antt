-- Bits as the numbers that programs give for them.
use Rattle.std.specs.Prelude.{Bool, true, false, Option, Some, None, ℕ, ◌+◌, ◌*◌}

-- the number of a bit, of a bit that there may be, and of a pair's first two
abbrev pub bit : Bool → ℕ
bit false = 0
bit true = 1

abbrev pub bit_or_none : Option Bool → ℕ
bit_or_none (Some b) = bit b
bit_or_none None = 2

abbrev pub digit : Bool → Bool → ℕ
digit input output = 2 * bit input + bit output
