-- `get` reads the four children.
use Rattle.memory.proofs.Looking.{reads_four}
use Rattle.relations.proofs.get.Goals as goal

pub returns : goal.returns
returns c = reads_four c.child_of-x00.ensures c.child_of-x01.ensures c.child_of-x10.ensures c.child_of-x11.ensures
