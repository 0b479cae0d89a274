-- `keeps_rules` answers by the first `x` without a field, else by the first offending `!`: from the two searches.
use Rattle.policy_text.proofs.Order.{no_field_rules, not_predicate_rules, policy_rules}
use Rattle.policy_text.proofs.keeps_rules.Goals as goal

pub returns-in-Some : goal.returns-in-Some
returns-in-Some c = no_field_rules _ _ _ c.in-Some.ensures

pub returns-in-Some-first_offending : goal.returns-in-Some-first_offending
returns-in-Some-first_offending c = not_predicate_rules _ _ _ c.in_default.ensures c.in-Some-first_offending.ensures

pub returns : goal.returns
returns c = policy_rules _ _ c.in_default.ensures c.in_default-first_offending.ensures
