-- `relation_nodes` writes the nodes of three constants, one after the other.
use Rattle.new_store.proofs.Writing.{wrote_relations}
use Rattle.new_store.proofs.relation_nodes.Goals as goal

pub returns : goal.returns
returns c = (
  wrote_relations c.args.k c.level_nodes.ensures.0 c.level_nodes-2.ensures.0
      c.level_nodes-3.ensures.0,
  c.level_nodes-3.ensures.1,
)
