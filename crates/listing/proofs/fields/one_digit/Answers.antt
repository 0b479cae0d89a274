-- `one_digit` by its range.
use mathlib.Core.Path.{◌∙◌}
use native.Mathlib.Omega.{arith}
use Rattle.listing.proofs.Widths.{a_digit, no_digit}
use Rattle.listing.proofs.fields.one_digit.Goals as goal

pub returns-in-48-to-57 : goal.returns-in-48-to-57
returns-in-48-to-57 c = c.at_most_32.ensures ∙ a_digit _ (omega arith) (omega arith)

pub returns-in_default : goal.returns-in_default
returns-in_default c = no_digit _ (λ low. omega arith)

pub returns-in_default-2 : goal.returns-in_default-2
returns-in_default-2 c = no_digit _ (λ low. omega arith)
