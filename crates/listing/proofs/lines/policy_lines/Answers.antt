-- One line more, or none that is left.
use mathlib.Core.Path.{◌≡◌, sym, ap, ◌∙◌}
use Prim.Native.Nat.{ℕ, ◌+◌}
use native.Mathlib.Omega.{arith}
use lib.Dec.{eqb}
use lib.ListN.{length, length-append}
use borrow.Author.Tests.{tests}
use Rattle.std.proofs.Common.{rules}
use Rattle.std.proofs.lemmas.Fn.{always_returns_same}
use Rattle.store_check.specs.Memory.{memories}
use Rattle.listing.specs.Lines.{lines}
use Rattle.listing.proofs.Listed.{rest, line_more, no_more}
use Rattle.listing.proofs.lines.policy_lines.Goals as goal

pub loop-i-init : goal.loop-i-init
loop-i-init c =
    let begun = c.into_iter-i-iterator.result in
    let all : begun.iter.rest.now ≡ c.args.text.now = cc in
    let none : begun.count ≡ 0 = cc in record {
      few = omega (arith, ap length all);
      text = λ i. rest c.args.begun c.args.out.now (sym none i + 1) (lines (sym all i)) (memories c.args.relations.now c.args.sets.now);
    }

pub loop-i-preserved : goal.loop-i-preserved
loop-i-preserved c =
    let now = c.loop-i in
    let s = c.in-Some.ensures.steps in
    let p = c.policy_line-at.ensures in
    let first = (s.0.1.2 (λ b. eqb b 10) (always_returns_same _ _ _ (λ a r q k. search (rules, tests)))).1 in
    let left = c.next.new.self.iter.rest.now in
    let M = memories now.relations c.args.sets.now in
    let M' = memories c.policy_line-at.new.relations c.args.sets.now in
    let next : c.in-Some.i + 1 ≡ c.next.new.self.count = omega (arith, s.1, s.2) in record {
      few = omega (arith, p.adds.few, ap length s.0.0, length-append c.in-Some.line.now left, s.0.1.1, s.0.2, now.invariant.few);
      text = now.invariant.text
          ∙ (ap (λ (n : ℕ). rest now.at now.out (n + 1) (lines now.i-iterator.iter.rest.now) M) (sym s.1)
          ∙ (line_more c.in-Some.line.now left s.0.0 s.0.1.1 first s.0.2 c.line_len.ensures.value p
          ∙ ap (λ (n : ℕ). rest c.policy_line-at.result c.policy_line-at.new.out (n + 1) (lines left) M') next));
    }

pub policy_line-at-requires : goal.policy_line-at-requires
policy_line-at-requires c = let s = c.in-Some.ensures.steps in omega (arith, s.0.2, c.loop-i.invariant.few, c.requires)

pub returns : goal.returns
returns c =
    let now = c.loop-i in
    let s = c.in-None.ensures.steps in record {
      text = now.invariant.text ∙ no_more _ (memories now.relations c.args.sets.now) now.at now.out now.i-iterator.iter.rest.now s.0.0;
      few = omega (arith, now.invariant.few);
    }
