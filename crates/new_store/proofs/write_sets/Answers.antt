-- `write_sets`: the places are freed, the nodes written after the head, and then the count.
use Rattle.new_store.proofs.Writing.{sets_written}
use Rattle.new_store.proofs.write_sets.Goals as goal

pub returns : goal.returns
returns c = sets_written c.args.sets.now c.requires c.begin.ensures c.set_nodes.ensures
