-- `stars` moves the run over the `*` after an item: those that `take_while` takes.
use mathlib.Core.Path.{ap, ◌∙◌}
use Rattle.std.proofs.Common.{rules, tests}
use Rattle.std.specs.List.{prefix_len}
use Rattle.std.proofs.lemmas.Iterator.{YieldsList-from_slice}
use Rattle.std.proofs.lemmas.Iterator.Search.{YieldsList-from_take_while}
use Rattle.std.proofs.lemmas.Iterator.Consumers.{count_from_yields_List}
use Rattle.std.proofs.lemmas.List.Folds.{length-prefix_len}
use Rattle.policy_text.specs.Posts.{continues_starred}
use Rattle.policy_text.proofs.Moves.{stars_post}
use Rattle.policy_text.proofs.Passes.{rest, rest_is}
use Rattle.policy_text.proofs.syntax.stars.Goals as goal

pub returns : goal.returns
returns c =
    let t = c.args.text.now in
    let r = rest t c.args.at in
    stars_post _ t _ c.requires _
    (count_from_yields_List _ _ c.count.ensures.ran
    (YieldsList-from_take_while _ continues_starred (YieldsList-from_slice r cc) c.take_while.ensures.closure c.take_while.ensures.done
    (λ x b q k. search (rules, tests)))
    ∙ length-prefix_len continues_starred r
    ∙ ap (prefix_len continues_starred) (rest_is t c.args.at))
