-- `read_numbers` by a loop: what was read is before the rest of the line.
use Rattle.std.proofs.Common.{◌≡◌, ◌-◌, ◌≤◌, length, take}
use Rattle.replay.proofs.Reading.{So_far}
use Rattle.replay.proofs.lines.read_numbers.Given as goal

abbrev pub invariant-loop-at : goal.invariant-loop-at
invariant-loop-at l = (l.count ≤ 4) × (l.at ≤ length l.line) × (length l.x ≡ 4) × So_far l.line l.from l.at (take l.count l.x)

abbrev pub decreases-loop-at : goal.decreases-loop-at
decreases-loop-at l = length l.line - l.at
