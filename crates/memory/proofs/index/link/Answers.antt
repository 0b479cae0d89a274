-- `index::link` meets its contract: the two numbers that it writes put node n at the head of its chain.
use Rattle.memory.proofs.Chains.{enter_joins}
use Rattle.memory.proofs.index.link.Goals as goal

pub returns : goal.returns
returns c node ea eb =
    let args = c.args in
    enter_joins node args.work.now args.n args.at args.b ea eb c.requires.2 c.requires.1 c.requires.0
