-- `walks_to` goes down one child a level. The loop's invariant: g is held at the levels that are left, and the test of h is that of g.
use mathlib.Core.Path.{◌≡◌, sym, ◌∙◌, subst}
use Prim.Native.Nat.{ℕ, ◌+◌, ◌-◌}
use native.Mathlib.Omega.{arith}
use Rattle.model.specs.Programs.{agrees}
use Rattle.model.specs.WellFormed.{Held}
use Rattle.memory.specs.Rows.{plain}
use Rattle.memory.proofs.Walks.{level_within, walks_apart, walks_next, walks_end}
use Rattle.memory.proofs.property_words.walks_to.Goals as goal

pub returns-then-not-children_are : goal.returns-then-not-children_are
returns-then-not-children_are c =
    let l = c.loop in
    let s = c.args in
    let o = s.level - l.counter in
    λ K k B n a r F A.
    let i = l.invariant K k B n a r F A in
    let w = level_within K (plain K B s.nodes.now n) o l.g (omega arith) i.0 in
    sym (i.1 ∙ walks_apart K s.c o l.g s.v _ _ a F (omega arith) i.0 (c.child_of-x.ensures K B n a r w)
    (c.children_are.ensures K B n a r w) (c.if-not-children_are.true))

pub loop-preserved : goal.loop-preserved
loop-preserved c =
    let l = c.loop in
    let s = c.args in
    let o = s.level - l.counter in
    let next : o - 1 ≡ s.level - (l.counter + 1) = omega arith in
    λ K k B n a r F A.
    let S = plain K B s.nodes.now n in
    let i = l.invariant K k B n a r F A in
    let w = level_within K S o l.g (omega arith) i.0 in
    let e = walks_next K s.c o l.g s.v _ _ a F (omega arith) i.0 (c.child_of-x.ensures K B n a r w)
    (c.children_are.ensures K B n a r w) (c.if-not-children_are.false) in
    subst (λ (j : ℕ). Held K S j c.child_of-x.result × (agrees (λ ds. s.v) K s.level s.h S ≡ agrees (λ ds. s.v) K j c.child_of-x.result S)) next
    (e.0, i.1 ∙ e.1)

pub returns : goal.returns
returns c =
    let l = c.loop in
    let s = c.args in
    λ K k B n a r F A. sym ((l.invariant K k B n a r F A).1 ∙ walks_end K (plain K B s.nodes.now n) (s.level - l.counter) l.g s.v (omega arith))
