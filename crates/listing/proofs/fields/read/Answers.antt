-- `read` by the length of the line.
use mathlib.Core.Path.{◌∙◌}
use native.Mathlib.Omega.{arith}
use Rattle.listing.proofs.Widths.{of_one, of_two, of_others}
use Rattle.listing.proofs.fields.read.Goals as goal

pub returns-in-len1 : goal.returns-in-len1
returns-in-len1 c = c.one_digit.ensures ∙ of_one _ (omega arith)

pub returns-in-len2 : goal.returns-in-len2
returns-in-len2 c = c.two_digits.ensures ∙ of_two _ (omega arith)

pub returns-in_default : goal.returns-in_default
returns-in_default c = of_others _ (λ e. omega arith) (λ e. omega arith)

pub returns-in_default-2 : goal.returns-in_default-2
returns-in_default-2 c = of_others _ (λ e. omega arith) (λ e. omega arith)
