-- `run_checked` has the text's outcome: refused by its length or its reading, or built.
use mathlib.Core.Path.{◌≡◌, ap, sym, ◌∙◌}
use native.Mathlib.Omega.{arith}
use borrow.Author.Tests.{le-leb, lt-leb}
use Rattle.std.proofs.Common.{rules, Err}
use Rattle.model.specs.Store.{rel}
use Rattle.store_check.specs.Memory.{memories}
use Rattle.call_rules.specs.Outcome.{outcome}
use Rattle.policies.specs.Answers.{PolicyAnswer}
use Rattle.policies.specs.declared.PolicyRefusal.TheVariants.{At}
use Rattle.policies.proofs.BuiltTexts.{long_verdict, policy_refused, read_refused}
use Rattle.policies.proofs.TextAddsRelations.run_checked.Goals as goal

pub returns-then-self-gt-MOST_BYTES : goal.returns-then-self-gt-MOST_BYTES
returns-then-self-gt-MOST_BYTES c =
    let a = c.args in
    policy_refused a.self.text.now (memories a.relations.now a.sets.now) c.requires.store _ (long_verdict _ _ _ (lt-leb _ _ c.if-self-gt-MOST_BYTES.true))

pub bounds-relations-0 : goal.bounds-relations-0
bounds-relations-0 c = let h = (c.requires.store.room rel).headed in omega arith

pub returns-in_err-read : goal.returns-in_err-read
returns-in_err-read c =
    let a = c.args in
    let M = memories a.relations.now a.sets.now in
    let e : c.from_residual.result ≡ Err (At c.in_err-read.field-0.0) = search rules in
    ap (λ (r : PolicyAnswer). outcome r M) e
    ∙ read_refused a.self.text.now M a.work.now c.requires _ (le-leb _ _ c.if-self-gt-MOST_BYTES.false) (sym c.in_err-read.ensures)
