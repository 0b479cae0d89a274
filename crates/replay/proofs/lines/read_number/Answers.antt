-- The value of no digits is 0, and one digit more is one more in the value (`Spelling`).
use Rattle.std.proofs.Common.{arith}
use Rattle.std.proofs.lemmas.List.{take_rest}
use Rattle.replay.proofs.Spelling.{spelt_none, spelt_more, read_there}
use Rattle.replay.proofs.lines.read_number.Goals as goal

pub loop-d-init : goal.loop-d-init
loop-d-init c = (omega arith, spelt_none)

pub loop-d-preserved : goal.loop-d-preserved
loop-d-preserved c =
    let at = c.loop-d in
    let whole = take_rest c.args.line.now c.args.from in
    let inside = rw whole at c.loop-d-test.true in
    let sum = rw whole at c.in_ok-value.ensures in
    let product = c.in_ok-checked_mul.ensures in
    let more = spelt_more _ at.d-index at.value inside at.invariant.1 in
    (omega arith, omega (arith, sum.1, product.1, more))

pub returns : goal.returns
returns c =
    let at = c.loop-d in
    let whole = take_rest c.args.line.now c.args.from in
    let few = rw whole at at.auto.d-index-end in
    read_there _ _ _ _ at.d-index c.then_some.ensures at.invariant.0 few c.requires at.invariant.1
