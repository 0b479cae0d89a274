-- `add_relations` has the call's outcome and what it added for any numbers in the memories, and leaves the working memory zero.
use mathlib.Core.Path.{◌≡◌, sym, ◌∙◌}
use Rattle.store_check.specs.Memory.{memories}
use Rattle.call_rules.specs.Outcome.{outcome}
use Rattle.call_rules.proofs.OnLent.{cleared, with_added}
use Rattle.call_rules.proofs.Running.{checked_ready}
use Rattle.call_rules.proofs.calls.add_relations.Goals.{then-is_store, else-is_store}
use Rattle.call_rules.proofs.calls.add_relations.Goals as goal

pub run_checked-answer-requires : goal.run_checked-answer-requires
run_checked-answer-requires g c = checked_ready c.is_store-is_store.ensures c.if-is_store.true

pub returns : goal.returns
returns g c =
    let a = c.args in
    let t = c.is_store-is_store.ensures in
    let M = memories a.relations.now a.sets.now in
    let M' = memories c.if-is_store.relations a.sets.now in
    let e : outcome c.if-is_store.answer M' ≡ g.C.AddsRelations.step a.call M = elim c.if-is_store.branch [
      | then-is_store w ↦ (λ i. outcome (w.answer-is i) (memories (w.relations-is i) a.sets.now)) ∙ w.run_checked-answer.ensures
      | else-is_store w ↦ (λ i. outcome ((w.answer-is ∙ w.refused-answer.ensures) i) (memories (w.relations-is i) a.sets.now))
          ∙ g.met.C.AddsRelations.declines a.call M (sym t.says ∙ w.if-is_store.false)
    ] in
    (with_added M M' c.held-before.ensures c.held.ensures c.since-added.ensures e, cleared t c.if-is_store.work c.if-is_store.auto.work c.clear.ensures)
