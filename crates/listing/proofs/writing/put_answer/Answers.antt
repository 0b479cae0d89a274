-- `put_answer` by the cases of an answer.
use native.Mathlib.Omega.{arith}
use mathlib.Core.Path.{sym, ap, ◌∙◌}
use Rattle.std.specs.Prelude.{Err}
use Rattle.policies.specs.declared.PolicyRefusal.{PolicyRefusal}
use Rattle.listing.specs.Listing.{shown}
use Rattle.listing.proofs.Adding.{adds_then, adds_as, few_as}
use Rattle.listing.proofs.Shown.{at_shown, store_shown}
use Rattle.listing.proofs.writing.put_answer.Goals as goal

pub returns-in-Ok : goal.returns-in-Ok
unfolding shown
returns-in-Ok c = few_as (ap shown (sym c.in-Ok.is)) (omega arith) c.put_number.ensures

pub returns-in-Err-At : goal.returns-in-Err-At
returns-in-Err-At c =
    let e = rw c.in-Err-At.is at c.in-Err-At.field-0-is in
    let a = c.put_number-from.ensures in
    let b = c.put_number-in-Err-At.ensures in record {
      adds = adds_as (at_shown (c.in-Err-At.is ∙ ap (λ (r : PolicyRefusal). Err r) e) c.from.ensures) (adds_then a.adds b.adds);
      few = omega (arith, b.few, a.few);
    }

pub returns-in-Err-Store : goal.returns-in-Err-Store
returns-in-Err-Store c =
    let e = rw c.in-Err-Store.is at c.in-Err-Store.field-0-is in
    few_as (store_shown (c.in-Err-Store.is ∙ ap (λ (r : PolicyRefusal). Err r) e) c.from-in-Err-Store.ensures) (omega arith)
    c.put_number-in-Err-Store.ensures
