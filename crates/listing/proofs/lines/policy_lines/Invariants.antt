-- `policy_lines` by a loop over the lines: what is written and what is left to write stay the whole.
use Rattle.std.proofs.Common.{◌≡◌, ◌+◌, ◌*◌, ◌≤◌, length}
use Rattle.store_check.specs.Memory.{memories}
use Rattle.listing.specs.Lines.{lines}
use Rattle.listing.proofs.Listed.{rest}
use Rattle.listing.proofs.lines.policy_lines.Given as goal

abbrev pub invariant-loop-i : goal.invariant-loop-i
invariant-loop-i l = record {
  few : l.at + 64 * length l.i-iterator.iter.rest.now ≤ l.begun + 64 * length l.text;
  text : rest l.begun l.initial.out 1 (lines l.text) (memories l.initial.relations l.sets)
      ≡ rest l.at l.out (l.i-iterator.count + 1) (lines l.i-iterator.iter.rest.now) (memories l.relations l.sets);
}
