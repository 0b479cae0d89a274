-- `list` by the length of the input and its first line.
use mathlib.Core.Path.{ap, ◌∙◌}
use mathlib.Core.List.{List}
use Prim.Native.Nat.{ℕ}
use Rattle.std.specs.Prelude.{Some}
use native.Mathlib.Omega.{arith}
use borrow.Author.Rules.{rules}
use Rattle.listing.proofs.Listed.{listing_of, listing_long, few_there, many_there, of_text}
use Rattle.listing.specs.Lines.{lines}
use Rattle.listing.specs.Listing.{listed}
use Rattle.listing.proofs.list.Goals as goal

pub returns-then-n-gt-MOST-clause-by_index : goal.returns-then-n-gt-MOST-clause-by_index
returns-then-n-gt-MOST-clause-by_index c t e =
    let x = c.args.input.now in
    let n = c.args.n in
    c.put.ensures.text ∙ (listing_long _ (many_there n x (search rules) c.if-n-gt-MOST.true) ∙ of_text n x t (search rules) e)

pub returns-in-None-clause-by_index : goal.returns-in-None-clause-by_index
unfolding listed
returns-in-None-clause-by_index c t e =
    let x = c.args.input.now in
    let n = c.args.n in
    c.put-in-None.ensures.text
    ∙ (listing_of _ _ _ (omega (arith, few_there n x (search rules) c.if-n-gt-MOST.false)) c.line_len-end.ensures.value c.in-None.ensures
    ∙ of_text n x t (search rules) e)

pub returns-in-Some-clause-by_index : goal.returns-in-Some-clause-by_index
returns-in-Some-clause-by_index c t e =
    let x = c.args.input.now in
    let n = c.args.n in
    c.write.ensures.out_after ∙ (ap (λ (l : List ℕ). listed (Some c.in-Some.k) (lines l)) c.text_after-policies.ensures
    ∙ (listing_of _ _ _ (omega (arith, few_there n x (search rules) c.if-n-gt-MOST.false)) c.line_len-end.ensures.value c.in-Some.ensures
    ∙ of_text n x t (search rules) e))
