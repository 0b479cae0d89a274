-- `output_bit` runs its program.
use Rattle.memory.proofs.Steps.{performs_by}
use Rattle.first_paths.proofs.Digits.{bit_is, one_first, zero_first, none_first}
use Rattle.first_paths.proofs.output_bit.Goals as goal

pub returns-then-r1-r0 : goal.returns-then-r1-r0
returns-then-r1-r0 c j n =
    performs_by (bit_is _ _ _ _ _ _) (one_first _ (c.first_input-r0.ensures j n) (c.first_input-r1.ensures j n) c.if-r1-r0.true)

pub returns-then-r0-none_at : goal.returns-then-r0-none_at
returns-then-r0-none_at c j n =
    performs_by (bit_is _ _ _ _ _ _)
    (zero_first _ (c.first_input-r0.ensures j n) (c.first_input-r1.ensures j n) c.if-r1-r0.false c.none_at.ensures c.if-r0-none_at.true)

pub returns : goal.returns
returns c j n =
    performs_by (bit_is _ _ _ _ _ _)
    (none_first _ (c.first_input-r0.ensures j n) (c.first_input-r1.ensures j n) c.if-r1-r0.false c.none_at.ensures c.if-r0-none_at.false)
