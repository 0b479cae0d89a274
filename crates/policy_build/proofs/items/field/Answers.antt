-- `field` reads the number of the digits there: each return is one of the cases of `Digits`.
use mathlib.Core.Path.{ap, subst}
use Prim.Native.Nat.{◌-◌}
use native.Mathlib.Omega.{arith}
use Rattle.policy_text.specs.Lexicon.{Digit}
use Rattle.policy_build.proofs.Digits.{is_digit, no_digit, reads_none, reads_one, reads_two}
use Rattle.policy_build.proofs.items.field.Goals as goal

pub returns-then-not-is_digit : goal.returns-then-not-is_digit
returns-then-not-is_digit c =
    let n = no_digit c.byte-a.result c.is_digit.ensures (c.if-not-is_digit.true) in
    reads_none c.requires (subst (λ b. ¬ Digit b) c.byte-a.ensures.0 n)

pub returns-then-not-is_digit-2 : goal.returns-then-not-is_digit-2
returns-then-not-is_digit-2 c =
    let b = c.byte-a in
    let a = c.byte-b in
    let d = is_digit b.result c.is_digit.ensures (c.if-not-is_digit.false) in
    let n = no_digit a.result c.is_digit-2.ensures (c.if-not-is_digit-2.true) in
    let l = b.ensures.1 (omega (arith, d.0)) in
    reads_one (omega (arith, l)) (ap (λ x. x - 48) b.ensures.0) (subst (λ b. ¬ Digit b) a.ensures.0 n)

pub returns : goal.returns
returns c =
    let b = c.byte-a in
    let a = c.byte-b in
    let e = is_digit a.result c.is_digit-2.ensures (c.if-not-is_digit-2.false) in
    let l = a.ensures.1 (omega (arith, e.0)) in
    reads_two (omega (arith, l)) (let p = b.ensures.0 in let q = a.ensures.0 in cc)
    (subst Digit a.ensures.0 e)
