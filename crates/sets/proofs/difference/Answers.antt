-- `difference` is the complement of the union of the complement of a with b.
use mathlib.Core.Path.{sym, ap}
use Rattle.model.specs.Programs.{ret}
use Rattle.memory.proofs.Steps.{performs_by, performs_ret}
use Rattle.memory.proofs.Stopping.{made, failed}
use Rattle.sets.proofs.Opened.{difference_is}
use Rattle.sets.proofs.difference.Goals as goal

pub returns-in_err-r : goal.returns-in_err-r
returns-in_err-r c = performs_by (difference_is _ _ _ c.other.ensures) (failed c.in_err-r.ensures c.from_residual.ensures)

pub returns : goal.returns
returns c =
    performs_by (difference_is _ _ _ c.other.ensures)
    (made c.in_ok-r.ensures (performs_by (ap ret (sym c.other-2.ensures)) performs_ret))
