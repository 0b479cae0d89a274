-- `from_identity` runs its program; the measure is the number of fields before the named one.
use Rattle.relations.proofs.Identities.{identity_first, identity_next, performs_looked}
use Rattle.memory.proofs.Stopping.{made, failed}
use Rattle.relations.proofs.fields.+from_identity.Goals as goal

pub returns-then-var-eq0 : goal.returns-then-var-eq0
returns-then-var-eq0 t c = performs_looked (identity_first _ _ _ c.if-var-eq0.true) c.get-p.ensures c.field.ensures

pub returns-in_err-r : goal.returns-in_err-r
returns-in_err-r t c =
    performs_looked (identity_next _ _ _ c.if-var-eq0.false) c.get-p.ensures (failed c.in_err-r.ensures c.from_residual.ensures)

pub returns : goal.returns
returns t c =
    performs_looked (identity_next _ _ _ c.if-var-eq0.false) c.get-p.ensures (made c.in_ok-r.ensures c.mk.ensures)
