-- `mk` joins the node and gives its handle.
use mathlib.Core.Path.{refl}
use Rattle.relations.proofs.Nodes.{joined_performs, joined_none}
use Rattle.relations.proofs.mk.Goals as goal

pub returns-in_err-place : goal.returns-in_err-place
returns-in_err-place c = joined_none _ refl c.in_err-place.ensures c.from_residual.ensures

pub returns : goal.returns
returns c = joined_performs _ refl c.in_ok-place.ensures
