-- `new` has its outcome for any numbers in the memories, with the nodes that the new store holds, and leaves the working memory zero.
use Rattle.store_check.specs.Memory.{memories}
use Rattle.call_rules.specs.Added.{held_in}
use Rattle.call_rules.proofs.Counting.{new_given}
use Rattle.new_store.proofs.Creating.{new_accepted}
use Rattle.new_store.proofs.new.Goals as goal

pub returns-in-Ok : goal.returns-in-Ok
returns-in-Ok c =
    let a = c.args in (
      new_given held_in _ _ (new_accepted a.k _ (memories a.relations.now a.sets.now) _ _ _ c.in-Ok.ensures
          c.write_relations-top.ensures.0 c.write_sets.ensures c.write_relations-top.ensures.1)
          c.held.ensures,
      c.clear.ensures,
    )
