-- `replay` by a loop over the lines: as many numbers are lent as there are, the memories keep their lengths, and a line takes a byte at least.
use Rattle.std.proofs.Common.{◌≡◌, ◌+◌, ◌≤◌, length}
use Rattle.replay.specs.Lending.{Lends}
use Rattle.replay.proofs.runs.replay.Given as goal

abbrev pub invariant-loop-rest : goal.invariant-loop-rest
invariant-loop-rest g l =
    Lends l.lent l.relations l.sets × (length l.relations ≡ length l.initial.relations) × (length l.sets ≡ length l.initial.sets)
    × (l.count + length l.rest ≤ length l.text)

abbrev pub decreases-loop-rest : goal.decreases-loop-rest
decreases-loop-rest g l = length l.rest
