-- `is_identity` compares the four children: the laws of `Walks` on the identity's node.
use mathlib.Core.Path.{refl, sym, ◌∙◌}
use native.Mathlib.Omega.{arith}
use Rattle.model.specs.Store.{rel}
use Rattle.memory.specs.Rows.{plain}
use Rattle.memory.proofs.Walks.{level_within, identity_off, identity_on, identity_held, identity_some, identity_next}
use Rattle.memory.proofs.property_words.is_identity.Goals.{then-child_of-x01-via-then-child_of-x01}
use Rattle.memory.proofs.property_words.is_identity.Goals.{then-child_of-x01-via-else-child_of-x01+then-child_of-x00}
use Rattle.memory.proofs.property_words.is_identity.Goals.{then-child_of-x01-via-else-child_of-x01+else-child_of-x00+then-not-walks_to}
use Rattle.memory.proofs.property_words.is_identity.Goals as goal

pub returns-then-child_of-x01 : goal.returns-then-child_of-x01
returns-then-child_of-x01 c =
    let s = c.args in
    let pos = c.requires in
    λ k B n a r F A e q.
    let w = level_within rel (plain rel B s.nodes.now n) s.level s.h pos A in
    let e1 = c.child_of-x01.ensures rel B n refl r w in
    let x = identity_held s.level s.h F pos A 1 (omega arith) e1 in
    elim c.then-child_of-x01.branch [
      | then-child_of-x01-via-then-child_of-x01 b ↦ sym (identity_off s.level s.h F pos A e1 (c.child_of.ensures rel B n refl r w) b.if-child_of-x01.true)
      | then-child_of-x01-via-else-child_of-x01+then-child_of-x00 b ↦
          sym (identity_on s.level s.h F pos A e (b.child_of-else-child_of-x01.ensures rel B n refl r w) b.if-child_of-x00.true)
      | then-child_of-x01-via-else-child_of-x01+else-child_of-x00+then-not-walks_to b ↦
          sym (identity_some s.level s.h F pos A e1 (b.walks_to.ensures rel k B n refl r F x) b.if-not-walks_to.true)
    ]

pub returns : goal.returns
returns c =
    let s = c.args in
    let pos = c.requires in
    λ k B n a r F A e q.
    let w = level_within rel (plain rel B s.nodes.now n) s.level s.h pos A in
    let e1 = c.child_of-x01.ensures rel B n refl r w in
    let x = identity_held s.level s.h F pos A 1 (omega arith) e1 in
    q ∙ sym (identity_next s.level s.h F pos A e e1 (c.child_of.ensures rel B n refl r w)
    (c.child_of-else-child_of-x01.ensures rel B n refl r w)
    c.if-child_of-x01.false c.if-child_of-x00.false (c.walks_to.ensures rel k B n refl r F x) (c.if-not-walks_to.false))
