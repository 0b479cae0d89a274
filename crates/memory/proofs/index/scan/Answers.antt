-- `index::scan` meets its contract: `find` answers the first place whose node is x.
use mathlib.Core.Path.{◌≡◌}
use lib.ListN.{length}
use Rattle.std.proofs.Common.{rules, tests}
use Rattle.std.proofs.lemmas.Iterator.{first_from_Range, serves_from_Range}
use Rattle.memory.specs.Rows.{row}
use Rattle.memory.proofs.Chains.{finds_first}
use Rattle.memory.proofs.index.scan.Goals as goal

pub find-requires : goal.find-requires
find-requires g c = record { can = tt; finite = tt; callable = serves_from_Range (λ x q k. search (rules, tests)) (λ x low high. search rules) }

pub returns : goal.returns
returns g c =
    let x = g.X.Numbers.list c.args.x in
    let m = c.args.nodes.now in
    finds_first _ _ _ _ (first_from_Range _ _ _ _ (λ i. row (length x) m i ≡ x) (λ i. row (length x) m i ≡ x → ⊥) c.find.ensures.ran
    (λ y q k. search (rules, tests)) (λ y q k. (search rules, search (rules, tests))))
