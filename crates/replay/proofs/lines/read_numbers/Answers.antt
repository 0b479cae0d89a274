-- A number read is one more of the row, and at the end of the line the row has all (`Reading`).
use Rattle.std.proofs.Common.{◌<◌, arith, length, ◌∙◌, length-set}
use Rattle.replay.proofs.Reading.{one_more, all_read}
use Rattle.replay.proofs.lines.read_numbers.Goals as goal

pub loop-at-preserved : goal.loop-at-preserved
loop-at-preserved c =
    let at = c.loop-at in
    let read = c.in_ok-value.ensures in
    let long : at.count < length at.x = omega arith in (
      omega arith,
      read.within,
      length-set at.x _ _ ∙ at.invariant.2,
      one_more _ _ at.at _ _ at.count at.x long (omega arith) read at.invariant.3,
    )

pub returns : goal.returns
returns c = record { few = omega arith; all = all_read _ _ c.loop-at.at _ (omega arith) c.loop-at.invariant.3 }
