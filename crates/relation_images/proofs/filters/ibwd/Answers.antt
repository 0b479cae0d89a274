-- `ibwd` is the flip of `ifwd`.
use Rattle.model.specs.Images.{ibwd}
use Rattle.memory.proofs.Steps.{performs_on}
use Rattle.memory.proofs.Stopping.{made, failed}
use Rattle.relation_images.proofs.filters.ibwd.Goals as goal

pub returns-in_err-r : goal.returns-in_err-r
unfolding ibwd
returns-in_err-r c j = failed (c.in_err-r.ensures j) c.from_residual.ensures

pub returns : goal.returns
unfolding ibwd
returns c j = made (c.in_ok-r.ensures j) (performs_on c.flip.ensures)
