-- `first_offending` is the first place of the test `does_offend`: what `find` gives of the offsets.
use Rattle.std.proofs.Common.{rules, tests, arith, length}
use Rattle.std.proofs.lemmas.Iterator.{YieldsList-from_range}
use Rattle.std.proofs.lemmas.Iterator.Search.{find_from_yields_List}
use Rattle.policy_text.specs.Reading.{does_offend}
use Rattle.policy_text.specs.XForms.{x_forms}
use Rattle.policy_text.proofs.Passes.{rest, search_is}
use Rattle.policy_text.proofs.negations.first_offending.Goals as goal

pub returns : goal.returns
returns c =
    let t = c.args.text.now in
    search_is (does_offend x_forms) t _
    (find_from_yields_List (λ i. does_offend x_forms (rest t i)) _ _ _ c.find.ensures.ran
    (YieldsList-from_range 0 (length t) (length t) (cc) (omega arith)) (λ x b q k. search (rules, tests)))
