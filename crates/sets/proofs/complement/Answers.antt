-- `complement` gives the other handle.
use Rattle.memory.proofs.Steps.{performs_by, performs_ret}
use Rattle.sets.proofs.Opened.{complement_is}
use Rattle.sets.proofs.complement.Goals as goal

pub returns : goal.returns
returns c l n m w = performs_by (complement_is l _ c.other.ensures) performs_ret
