-- `made` makes the nodes: from the identity where it is held, else field by field.
use Rattle.relations.proofs.Identities.{performs_from_identity}
use Rattle.relations.proofs.fields.made.Goals as goal

pub returns-in-Some : goal.returns-in-Some
returns-in-Some c = performs_from_identity _ _ _ _ c.in-Some.ensures c.if-var-k.true c.from_identity.ensures
