-- `two_digits` by its ranges.
use mathlib.Core.Path.{◌∙◌}
use native.Mathlib.Omega.{arith}
use Rattle.listing.proofs.Widths.{both_digits, not_both}
use Rattle.listing.proofs.fields.two_digits.Goals as goal

pub returns-in-49-to-57-48-to-57 : goal.returns-in-49-to-57-48-to-57
returns-in-49-to-57-48-to-57 c = c.at_most_32.ensures ∙ both_digits _ _ (omega arith) (omega arith) (omega arith) (omega arith)

pub returns-in_default : goal.returns-in_default
returns-in_default c = not_both _ _ (λ low high low'. omega arith)

pub returns-in_default-2 : goal.returns-in_default-2
returns-in_default-2 c = not_both _ _ (λ low high low'. omega arith)

pub returns-in_default-3 : goal.returns-in_default-3
returns-in_default-3 c = not_both _ _ (λ low high low'. omega arith)

pub returns-in_default-4 : goal.returns-in_default-4
returns-in_default-4 c = not_both _ _ (λ low high low'. omega arith)
