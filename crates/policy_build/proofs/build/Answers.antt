-- `build` builds the sum that is the whole text.
use mathlib.Core.Path.{refl, sym}
use Rattle.policy_build.proofs.Loops.{text_builds}
use Rattle.policy_build.proofs.build.Goals as goal

pub returns-in_err-p : goal.returns-in_err-p
returns-in_err-p c = text_builds (sym c.from_residual.ensures) c.in_err-p.ensures

pub returns : goal.returns
returns c = text_builds refl c.in_ok-p.ensures
