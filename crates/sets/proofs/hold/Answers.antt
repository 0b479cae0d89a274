-- `hold` joins the node and gives its handle the sign.
use mathlib.Core.Path.{refl}
use Rattle.sets.proofs.Nodes.{joined_performs, joined_none}
use Rattle.sets.proofs.hold.Goals as goal

pub returns-in_err-place : goal.returns-in_err-place
returns-in_err-place c = λ y e q. joined_none _ y refl e c.in_err-place.ensures c.from_residual.ensures

pub returns : goal.returns
returns c = λ y e q. joined_performs _ y _ refl e q c.requires c.in_ok-place.ensures
