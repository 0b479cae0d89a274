-- `at_most_32` by its test.
use mathlib.Core.Path.{◌≡◌, refl, ◌∙◌}
use lib.Dec.{leb}
use Rattle.std.specs.Prelude.{None, Some}
use Rattle.std.specs.Bool.{then_some}
use Rattle.model.specs.Store.{pick}
use Rattle.model.proofs.Bools.{by_test}
use Rattle.listing.specs.Listing.{at_most_32}
use Rattle.listing.proofs.fields.at_most_32.Goals as goal

pub returns : goal.returns
unfolding at_most_32
returns c =
    let n = c.args.n in
    c.then_some.ensures ∙ by_test (λ b. then_some b n ≡ pick b (Some n) None) (leb n 32) (λ e. refl) (λ e. refl)
