-- `read_field` moves the run over what follows `x`: by one or two digits, then `read_relation`.
use native.Mathlib.Omega.{arith}
use mathlib.Core.Path.{◌≡◌, refl, sym, ap, ◌∙◌}
use mathlib.Core.Bool.{true, false}
use mathlib.Core.Logic.{◌⊎◌, inl, inr}
use Prim.Native.Nat.{ℕ, ◌+◌, ◌<◌}
use mathlib.Core.List.{[], ◌∷◌}
use lib.ListN.{get_or}
use Rattle.std.proofs.Common.{rules, Err}
use Rattle.policy_text.specs.XForms.{does_x_begin, is_x_whole, is_digit_byte, has_tens, x_forms}
use Rattle.policy_text.specs.Posts.{RelationPost}
use Rattle.policy_text.specs.Machine.{inside, spelt, final, byte_step, mid_step, mid_go, after_name}
use Rattle.policy_text.proofs.Moves.{atom_end, atom_go, atom_stop}
use Rattle.policy_text.proofs.XLaws.{zero_whole, one_whole, two_whole, one_closed, digit_true, digit_false, tens_true}
use Rattle.policy_text.proofs.syntax.read_field.Goals.{in_default-via-then-this-lt48, in_default-via-else-this-lt48+else-this-lt58}
use Rattle.policy_text.proofs.syntax.read_field.Goals as goal

pub returns-in_err-byte : goal.returns-in_err-byte
unfolding final
returns-in_err-byte c =
    let e : c.from_residual.result ≡ Err c.in_err-byte.field-0.0 = search rules in
    λ d. atom_end _ _ d _ _ _ _ e c.in_err-byte.ensures (λ sa pa m σ. refl)

pub returns-in-48 : goal.returns-in-48
unfolding byte_step mid_step mid_go does_x_begin RelationPost
returns-in-48 c =
    let b = c.in_ok-byte.ensures in
    let e = b.1 ∙ c.in-48.is in
    λ d. atom_go _ _ d _ (inside (spelt (120 ∷ 48 ∷ []))) _ _ b.0
    (λ sa pa m σ. ap (λ (b : ℕ). byte_step x_forms 32 (inside (spelt (120 ∷ [])) sa pa m σ) b) e) (c.read_relation.ensures _ 0 d zero_whole (λ _. refl))

pub returns-in_err-byte-in-49-to-57 : goal.returns-in_err-byte-in-49-to-57
unfolding byte_step mid_step mid_go does_x_begin final
returns-in_err-byte-in-49-to-57 c =
    let a = get_or c.args.text.now c.args.at 0 in
    let b = c.in_ok-byte.ensures in
    let h : is_digit_byte a ≡ true = digit_true a (omega (arith, b.1)) (omega (arith, b.1)) in
    let e : c.from_residual-in_err-byte-in-49-to-57.result ≡ Err c.in_err-byte-in-49-to-57.field-0.0 = search rules in
    λ d. atom_go _ _ d _ (inside (spelt (120 ∷ a ∷ []))) _ _ b.0 (λ sa pa m σ. simp h)
    (atom_end _ _ d _ _ _ _ e c.in_err-byte-in-49-to-57.ensures (λ sa pa m σ. refl))

pub returns-then-is_ascii_digit : goal.returns-then-is_ascii_digit
unfolding byte_step mid_step mid_go does_x_begin RelationPost
returns-then-is_ascii_digit c =
    let a = get_or c.args.text.now c.args.at 0 in
    let z = get_or c.args.text.now (c.args.at + 1) 0 in
    let b = c.in_ok-byte.ensures in
    let b2 = c.in_ok-byte-in-49-to-57.ensures in
    let h : is_digit_byte a ≡ true = digit_true a (omega (arith, b.1)) (omega (arith, b.1)) in
    let l : has_tens a ≡ true = tens_true a (omega (arith, b.1)) (omega (arith, b.1)) in
    let k : is_digit_byte z ≡ true = ap is_digit_byte b2.1 ∙ sym c.is_ascii_digit.ensures.value ∙ c.if-is_ascii_digit.true in
    λ d. atom_go _ _ d _ (inside (spelt (120 ∷ a ∷ []))) _ _ b.0 (λ sa pa m σ. simp h)
    (atom_go _ _ d _ (inside (spelt (120 ∷ a ∷ z ∷ []))) _ _ b2.0 (λ sa pa m σ. simp (l, k))
    (c.read_relation-then-is_ascii_digit.ensures _ _ d (two_whole a z l k) (λ _. refl)))

pub returns-else-is_ascii_digit : goal.returns-else-is_ascii_digit
unfolding byte_step mid_step mid_go does_x_begin RelationPost
returns-else-is_ascii_digit c =
    let a = get_or c.args.text.now c.args.at 0 in
    let z = get_or c.args.text.now (c.args.at + 1) 0 in
    let b = c.in_ok-byte.ensures in
    let b2 = c.in_ok-byte-in-49-to-57.ensures in
    let h : is_digit_byte a ≡ true = digit_true a (omega (arith, b.1)) (omega (arith, b.1)) in
    let k : is_digit_byte z ≡ false = ap is_digit_byte b2.1 ∙ sym c.is_ascii_digit.ensures.value ∙ c.if-is_ascii_digit.false in
    λ d. atom_go _ _ d _ (inside (spelt (120 ∷ a ∷ []))) _ _ b.0 (λ sa pa m σ. simp h)
    (c.read_relation-in-49-to-57.ensures _ _ d (one_whole a h) (λ _. one_closed a z k))

pub returns-in_default : goal.returns-in_default
unfolding byte_step mid_step mid_go after_name does_x_begin is_x_whole
returns-in_default c =
    let a = get_or c.args.text.now c.args.at 0 in
    let b = c.in_ok-byte.ensures in
    let f : a < 48 ⊎ 57 < a = elim c.in_default.branch [
      | in_default-via-then-this-lt48 w ↦ inl (omega (arith, b.1))
      | in_default-via-else-this-lt48+else-this-lt58 w ↦ inr (omega (arith, b.1))
    ] in
    λ d. atom_stop _ _ d _ _ _ b.0 c.not_policy.ensures (λ sa pa m σ. simp (digit_false a f))
