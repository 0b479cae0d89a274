-- `level_nodes` by a loop: the nodes of the levels passed are written, and both handles are those of the level reached.
use mathlib.Core.Path.{refl}
use native.Mathlib.Omega.{arith}
use Rattle.new_store.proofs.Writing.{wrote_level, handle_next}
use Rattle.new_store.proofs.level_nodes.Goals as goal

pub loop-i-preserved : goal.loop-i-preserved
loop-i-preserved c =
    let a = c.args in
    let l = c.loop-i in (
      wrote_level a.nodes.now _ _ a.p a.c a.q a.d l.i _ _ _ refl c.copy_from_slice.ensures.after l.invariant.1 l.invariant.2 (omega arith) l.invariant.0,
      handle_next a.p a.c l.i,
      handle_next a.q a.d l.i,
    )
