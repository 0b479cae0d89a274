-- `level` is the level of a held handle: the loop keeps what is left of it, and ends at a handle below 2 or at k.
use native.Mathlib.Omega.{arith}
use Rattle.memory.proofs.Descending.{descended_low, descended_within, descended_next}
use Rattle.memory.proofs.property_words.level.Goals as goal

pub returns-then-g-lt2 : goal.returns-then-g-lt2
returns-then-g-lt2 c = (λ K B n t e p A b. descended_low c.if-g-lt2.true (c.loop-l.invariant K B n t e p A b), omega arith)

pub loop-l-preserved : goal.loop-l-preserved
loop-l-preserved c =
    λ K B n t e p A b. let G = c.loop-l.invariant K B n t e p A b in
    let o = c.if-g-lt2.false in descended_next o (c.child_among-g.ensures K B n e p (descended_within o G)) G
