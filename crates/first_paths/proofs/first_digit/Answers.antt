-- `first_digit` runs its program.
use Rattle.memory.proofs.Steps.{by, begin, called, impossible}
use Rattle.first_paths.proofs.Digits.{input_bit_zero, input_bit_one, digit_zero, digit_opened}
use Rattle.first_paths.proofs.first_digit.Goals as goal

pub returns-then-level-eq0 : goal.returns-then-level-eq0
returns-then-level-eq0 c j n = impossible (by begin (digit_zero _ _ _ _ c.if-level-eq0.true))

pub returns-in-Some : goal.returns-in-Some
returns-in-Some c j n =
    called (digit_opened _ _ _ _ c.if-level-eq0.false c.get-x.ensures c.get-z.ensures c.get-y.ensures)
    (input_bit_zero _ (c.in-Some.ensures j n))

pub returns : goal.returns
returns c j n =
    called (digit_opened _ _ _ _ c.if-level-eq0.false c.get-x.ensures c.get-z.ensures c.get-y.ensures)
    (input_bit_one _ _ (c.output_bit.ensures j n) c.in_default.not-Some (c.output_bit-output.ensures j n) c.unwrap_or.ensures)
