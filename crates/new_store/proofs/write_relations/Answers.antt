-- `write_relations`: the places are freed, the nodes written after the head, and then the head.
use Rattle.new_store.proofs.Writing.{relations_written}
use Rattle.new_store.proofs.write_relations.Goals as goal

pub returns : goal.returns
returns c = (
  relations_written c.args.relations.now c.requires c.begin.ensures c.relation_nodes-h.ensures.0,
  c.relation_nodes-h.ensures.1,
)
