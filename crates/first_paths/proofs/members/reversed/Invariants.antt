-- `reversed` takes the number's bits from the lowest on, each below those before it: after i of them it has the rank of the number's packet of i fields.
use mathlib.Core.Path.{◌≡◌}
use Prim.Native.Nat.{◌/◌, ◌^◌}
use Rattle.model.specs.FieldOrder.{rank}
use Rattle.model.specs.Packets.{packet}
use Rattle.first_paths.proofs.members.reversed.Given as goal

abbrev pub invariant-loop : goal.invariant-loop
invariant-loop l = (l.r ≡ rank (packet l.counter l.n)) × (l.rest ≡ l.n / 2 ^ l.counter)
