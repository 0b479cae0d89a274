-- `first_without` is the first place of the test `is_no_field`: what `find` gives of the offsets.
use Rattle.std.proofs.Common.{rules, tests, arith, length}
use Rattle.std.proofs.lemmas.Iterator.{YieldsList-from_range}
use Rattle.std.proofs.lemmas.Iterator.Search.{find_from_yields_List}
use Rattle.policy_text.specs.XForms.{is_no_field}
use Rattle.policy_text.proofs.Passes.{rest, search_is}
use Rattle.policy_text.proofs.fields.first_without.Goals as goal

pub returns : goal.returns
returns c =
    let t = c.args.text.now in
    search_is (is_no_field c.args.k) t _
    (find_from_yields_List (λ i. is_no_field c.args.k (rest t i)) _ _ _ c.find.ensures.ran
    (YieldsList-from_range 0 (length t) (length t) (cc) (omega arith)) (λ x b q k. search (rules, tests)))
