-- `index::search` meets its contract: what `scan` gives needs no index, and `chase` is given the one that there is.
use Rattle.memory.proofs.index.search.Goals as goal

pub returns : goal.returns
returns g c good ix = c.chase.ensures good c.memo_size-at.ensures.0 ix
