-- `call`: a number that names no operation names the first, and so does 1.
use mathlib.Core.Path.{sym, ap}
use Prim.Native.Nat.{ℕ}
use native.Mathlib.Omega.{arith}
use Rattle.jobs.specs.Operations.{numbered}
use Rattle.jobs.proofs.Numbers.{other_call}
use Rattle.jobs.proofs.operations.call.Goals as goal

pub returns-in-0-to-1 : goal.returns-in-0-to-1
returns-in-0-to-1 c = other_call c.args.n c.args.a c.args.b c.args.c (λ more. omega arith)

pub returns-in-3 : goal.returns-in-3
unfolding numbered
returns-in-3 c = let args = c.args in sym (ap (λ (n : ℕ). (numbered n).call args.a args.b args.c) c.in-3.is)
