-- `operands`: each range of numbers takes what its part of the table does.
use mathlib.Core.Path.{refl}
use native.Mathlib.Omega.{arith}
use Rattle.jobs.proofs.Numbers.{in_range, no_operands}
use Rattle.jobs.proofs.operations.operands.Goals as goal

pub returns-in-0-to-5 : goal.returns-in-0-to-5
returns-in-0-to-5 c = no_operands c.args.n (λ more. omega arith)

pub returns-in-0-to-5-2 : goal.returns-in-0-to-5-2
returns-in-0-to-5-2 c = no_operands c.args.n (λ more. omega arith)

pub returns-in-6-to-10 : goal.returns-in-6-to-10
returns-in-6-to-10 c = in_range 5 5 refl refl c.args.n (omega arith) (omega arith)

pub returns-in-11-to-18 : goal.returns-in-11-to-18
returns-in-11-to-18 c = in_range 10 8 refl refl c.args.n (omega arith) (omega arith)

pub returns-in-19-to-24 : goal.returns-in-19-to-24
returns-in-19-to-24 c = in_range 18 6 refl refl c.args.n (omega arith) (omega arith)

pub returns-in-25-to-29 : goal.returns-in-25-to-29
returns-in-25-to-29 c = in_range 24 5 refl refl c.args.n (omega arith) (omega arith)

pub returns-in-30-to-31 : goal.returns-in-30-to-31
returns-in-30-to-31 c = in_range 29 2 refl refl c.args.n (omega arith) (omega arith)

pub returns-in-33-to-35 : goal.returns-in-33-to-35
returns-in-33-to-35 c = in_range 32 3 refl refl c.args.n (omega arith) (omega arith)
