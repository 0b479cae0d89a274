-- `line_len`: where the first newline stands, or the length.
use Rattle.std.proofs.Common.{◌≡◌, ◌==◌, ℕ, ◌≤◌, cond, ltb, length, arith, rules, refl, ap, ◌∙◌}
use Rattle.std.specs.Prelude.{Some, None}
use Rattle.std.specs.Option.{unwrap_or}
use Rattle.std.proofs.lemmas.Iterator.{YieldsList-from_slice}
use Rattle.std.proofs.lemmas.Iterator.Search.{position_from_yields_List}
use Rattle.std.proofs.lemmas.List.Sums.{prefix_len-le-length}
use borrow.Author.Tests.{tests, ltb-false}
use Rattle.model.proofs.Bools.{by_test}
use Rattle.listing.proofs.lines.line_len.Goals as goal

-- a place below n, or n
place_or : (i n : ℕ) → i ≤ n → unwrap_or (cond (ltb i n) (Some i) None) n ≡ i
place_or i n most = by_test (λ b. unwrap_or (cond b (Some i) None) n ≡ i) (ltb i n) (λ e. refl) (λ e. omega (arith, most, ltb-false i n e))

pub returns-clause-value : goal.returns-clause-value
returns-clause-value c =
    let t = c.args.text.now in
    let found = position_from_yields_List (λ b. b == 10) _ _ c.position.result c.position.ensures.ran (YieldsList-from_slice t cc)
    (λ x b q k. search (rules, tests)) in
    c.unwrap_or.ensures ∙ (ap (λ r. unwrap_or r (length t)) found ∙ place_or _ (length t) (prefix_len-le-length _ t))
