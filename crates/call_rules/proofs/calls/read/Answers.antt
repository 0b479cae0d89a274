-- `read` has the call's outcome for any numbers in the memories, and leaves the working memory zero.
use mathlib.Core.Path.{sym, ap, ◌∙◌, subst}
use Rattle.store_check.specs.Memory.{memories}
use Rattle.store_check.specs.StoreChecking.{kind_last}
use Rattle.call_rules.specs.Checking.{CheckedStore}
use Rattle.call_rules.specs.Outcome.{outcome}
use Rattle.call_rules.proofs.OnLent.{cleared}
use Rattle.call_rules.proofs.Running.{checked_ready}
use Rattle.call_rules.proofs.calls.read.Goals.{then-is_store, else-is_store}
use Rattle.call_rules.proofs.calls.read.Goals as goal

pub run_checked-answer-requires : goal.run_checked-answer-requires
run_checked-answer-requires g c =
    subst (λ b. CheckedStore (kind_last b) (memories c.args.relations.now c.args.sets.now) c.is_store-is_store.new.work) c.SETS_LAST.ensures
    (checked_ready c.is_store-is_store.ensures c.if-is_store.true)

pub returns : goal.returns
returns g c =
    let t = c.is_store-is_store.ensures in
    let M = memories c.args.relations.now c.args.sets.now in (
      elim c.if-is_store.branch [
        | then-is_store w ↦ ap (λ a. outcome a M) w.answer-is ∙ w.run_checked-answer.ensures
        | else-is_store w ↦ ap (λ a. outcome a M) w.answer-is ∙ g.met.C.Reads.declines c.args.call M (sym t.says ∙ w.if-is_store.false)
      ],
      cleared t c.if-is_store.work c.if-is_store.auto.work c.clear.ensures,
    )
