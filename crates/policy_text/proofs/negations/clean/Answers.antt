-- `clean` is the test `is_clean`: each step passes one `!`.
use native.Mathlib.Omega.{arith}
use mathlib.Core.Path.{sym, ◌∙◌}
use Rattle.policy_text.proofs.Passes.{clean_none, clean_paren, clean_name, clean_bang, clean_full, clean_leaf}
use Rattle.policy_text.proofs.negations.clean.Goals.{in_default, in_default-2}
use Rattle.policy_text.proofs.negations.clean.Goals as goal

pub loop-atom-preserved : goal.loop-atom-preserved
loop-atom-preserved c = c.loop-atom.invariant ∙ clean_bang _ c.in-33.len_at_least (omega arith)

pub returns-in-40 : goal.returns-in-40
returns-in-40 c = c.clean_inside.ensures ∙ sym (c.loop-atom.invariant ∙ clean_paren _ c.in-40.len_at_least (omega arith))

pub returns-in-120 : goal.returns-in-120
returns-in-120 c = c.is_test.ensures ∙ sym (c.loop-atom.invariant ∙ clean_name _ c.in-120.len_at_least (omega arith))

pub returns-in-84 : goal.returns-in-84
returns-in-84 c = sym (c.loop-atom.invariant ∙ clean_full _ c.in-84.len_at_least (omega arith))

pub returns-in_default-atom : goal.returns-in_default-atom
returns-in_default-atom c = sym (c.loop-atom.invariant ∙ clean_none _ c.in_default-atom.len_below)

pub returns-in_default-atom-2 : goal.returns-in_default-atom-2
returns-in_default-atom-2 c =
    sym (c.loop-atom.invariant ∙ clean_leaf _ c.in_default-atom.len_at_least (λ e. omega (arith, e)) (λ e. omega (arith, e)) (λ e. elim c.if-atom-lt1.branch [
      | in_default w ↦ omega (arith, w.in_default.len_below)
      | in_default-2 w ↦ omega (arith, e)
    ]) (λ e. omega (arith, e)))
