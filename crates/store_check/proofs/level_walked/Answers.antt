-- `level_walked` finds the level above the children's: the loop keeps that those passed are held at the first one's level.
use mathlib.Core.Path.{◌≡◌, ap, subst}
use Prim.Native.Nat.{◌+◌, ◌*◌}
use native.Mathlib.Omega.{arith}
use lib.ListN.{get_or}
use borrow.Author.Count.{below_more}
use Rattle.std.specs.Prelude.{Some}
use Rattle.model.specs.Store.{arity}
use Rattle.model.specs.WellFormed.{Held}
use Rattle.model.proofs.Levels.{arity_pos}
use Rattle.memory.specs.Noting.{LevelIs}
use Rattle.memory.specs.Rows.{plain}
use Rattle.store_check.proofs.Fitting.{child_found, child_held, first_is, part_length, part_at}
use Rattle.store_check.proofs.level_walked.Goals as goal

pub loop-x-preserved : goal.loop-x-preserved
loop-x-preserved c K B e p F E =
    let a = c.args in
    let m = a.nodes.now in
    let d = c.loop-x.x-index in
    let n = part_length a.c m a.i c.requires.1 in
    let L = subst (λ h. LevelIs m a.c a.k h c.level.result) (part_at a.c m a.i d (omega arith)) c.level.ensures.0 in
    below_more _ d (c.loop-x.invariant K B e p F E)
    (subst (λ l. Held K (plain K B m a.i) l (get_or m (arity K * a.i + d) 0)) c.if-level-l.false
    (child_held K B m a.c a.k a.i d _ e p L F E (omega (arith, e))))

pub returns : goal.returns
returns c K B e p F E =
    let a = c.args in
    let m = a.nodes.now in
    let n = part_length a.c m a.i c.requires.1 in
    record {
      so = λ l q b d h.
          let y : c.level-l.result + 1 ≡ l + 1 = cc in
          let z : c.level-l.result ≡ l = omega arith in
          subst (λ l. Held K (plain K B m a.i) l (get_or m (arity K * a.i + d) 0)) z (c.loop-x.invariant K B e p F E d (omega (arith, e)));
      found = λ l b f. ap (λ n. Some (n + 1)) (child_found K B m a.c a.k a.i 0 _ e p (first_is m a.c a.k a.i _ c.level-l.ensures.0) l
          (omega arith)
          (f 0 (arity_pos K)));
    }
