-- `begin` from what clearing and `new` say.
use Rattle.call_rules.proofs.Counting.{without_counts}
use Rattle.listing.proofs.Listed.{begun}
use Rattle.listing.proofs.lines.begin.Goals as goal

pub returns : goal.returns
returns c =
    let a = c.args in begun _ _ _ _ a.relations.now a.sets.now _ _ (c.fill.ensures.after (λ y e. e)) (c.fill-2.ensures.after (λ y e. e))
    (without_counts c.new.ensures.0)
