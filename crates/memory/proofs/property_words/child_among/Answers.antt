-- `child_among` gives the child that the plain store has: one lemma of Children for each return.
use mathlib.Core.Path.{subst}
use Prim.Native.Nat.{◌≤◌}
use Rattle.memory.proofs.Children.{child_there, child_odd, child_even, child_rel}
use Rattle.memory.proofs.property_words.child_among.Goals.{else-c-eq2-via-then-c-eq2+else-h-eq1, else-c-eq2-via-else-c-eq2}
use Rattle.memory.proofs.property_words.child_among.Goals as goal

pub returns-then-i-places : goal.returns-then-i-places
returns-then-i-places c = λ K B n a r w. absurd (child_there K B c.args.nodes.now c.args.c n c.args.h c.args.d _ a r w c.requires.0
    (c.place_of-i.ensures K a) (subst (λ p. p ≤ c.place_of-i.result) c.requires.1 c.if-i-places.true))

pub returns-then-h-eq1 : goal.returns-then-h-eq1
returns-then-h-eq1 c = λ K B n a r w. child_odd K B c.args.nodes.now c.args.c n c.args.h c.args.d _ a r w c.requires.0
    (c.place_of-i.ensures K a)
    _ c.if-c-eq2.true c.if-h-eq1.true c.other.ensures

pub returns-else-c-eq2 : goal.returns-else-c-eq2
returns-else-c-eq2 c =
    let p = c.place_of-i.ensures in
    let a = c.args in
    elim c.else-c-eq2.branch [
      | else-c-eq2-via-then-c-eq2+else-h-eq1 b ↦
          λ K B n e r w. child_even K B a.nodes.now a.c n a.h a.d _ e r w c.requires.0 (p K e) b.if-h-eq1.false
      | else-c-eq2-via-else-c-eq2 b ↦ λ K B n e r w. child_rel K B a.nodes.now a.c n a.h a.d _ e r w c.requires.0 (p K e) b.if-c-eq2.false
    ]
