-- `held_identity` goes by the words of the two handles, which are below the count.
use mathlib.Core.Path.{◌∙◌}
use native.Mathlib.Omega.{arith}
use Rattle.relations.proofs.Identities.{identity_known}
use Rattle.relations.proofs.fields.held_identity.Goals as goal

pub returns-then-q-l : goal.returns-then-q-l
returns-then-q-l c =
    identity_known c.properties_in-p.result c.properties_in-q.result c.known_word.ensures c.known_word-2.ensures
    c.properties_in-p.ensures c.properties_in-q.ensures c.if-p.true (c.if-p-l.true ∙ c.from-l.ensures) c.if-q.true
    (c.if-q-l.true ∙ c.from-l.ensures) (omega (arith, c.if-n-l.true)) (omega (arith, c.if-n-l.true))
