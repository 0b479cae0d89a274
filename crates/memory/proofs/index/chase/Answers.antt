-- `index::chase` meets its contract. The loop's invariant: where the index is right, v is on the chain of x's bucket and no node from v on is x.
-- The measure is v: a link that does not lead down ends the search.
use mathlib.Core.Path.{refl}
use native.Mathlib.Omega.{arith}
use Rattle.memory.proofs.Chains.{trail_start, trail_next, trail_wrong}
use Rattle.memory.proofs.index.chase.Goals as goal

pub loop-v-init : goal.loop-v-init
loop-v-init g c = let pre = c.requires in trail_start _ _ _ _ _ _ _ pre.3 pre.4 refl

pub returns-then-next-v : goal.returns-then-next-v
returns-then-next-v g c =
    let v = c.loop-v.v in
    trail_wrong _ _ _ _ _ (omega arith) v _ (omega arith) (omega arith) refl (omega arith)

pub loop-v-preserved : goal.loop-v-preserved
loop-v-preserved g c =
    let loop = c.loop-v in
    trail_next _ _ _ _ _ loop.v _ (omega arith) (omega arith) (c.is_at.ensures.no c.if-is_at.false) refl loop.invariant
