-- `get` reads both children.
use Rattle.memory.proofs.Looking.{reads_two}
use Rattle.sets.proofs.get.Goals as goal

pub returns : goal.returns
returns c = reads_two c.child_of.ensures c.child_of-2.ensures
