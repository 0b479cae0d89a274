-- `index::empty` meets its contract: either there is no index, or its heads are cleared.
use native.Mathlib.Omega.{arith}
use Rattle.memory.proofs.Emptying.{index_empty}
use Rattle.memory.proofs.index.empty.Goals as goal

pub returns : goal.returns
returns c =
    let size = c.memo_size-m in
    index_empty c.args.work.now _ size.result size.ensures.0 (omega arith)
    (c.fill.ensures.after (λ y e. e))
