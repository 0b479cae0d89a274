-- `read_number` by a loop: the digits passed say the value.
use Rattle.std.proofs.Common.{◌≡◌, ◌+◌, take, drop}
use Rattle.replay.specs.Numbers.{spelt}
use Rattle.replay.proofs.lines.read_number.Given as goal

abbrev pub invariant-loop-d : goal.invariant-loop-d
invariant-loop-d l = (l.end ≡ l.from + l.d-index) × (l.value ≡ spelt 0 (take l.d-index (drop l.from l.line)))
