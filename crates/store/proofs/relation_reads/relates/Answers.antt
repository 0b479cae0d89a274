-- `relates` walks down one field at a time: what is left of the walk ends where the whole does.
use mathlib.Core.Path.{◌≡◌, refl, subst}
use native.Mathlib.Omega.{arith}
use Prim.Native.Nat.{ℕ, ◌-◌, ◌<◌}
use Rattle.model.specs.Store.{rel, Store}
use Rattle.call_rules.proofs.Walking.{Walking, walking_within, walking_next, walking_ends}
use Rattle.store.proofs.relation_reads.relates.Goals as goal

at_level : {S : Store} {n a p q l l' h i o : ℕ} → l ≡ l' → Walking S n a p q l h i o → Walking S n a p q l' h i o
at_level {S} {n} {a} {p} {q} {l} {l'} {h} {i} {o} e W = subst (λ l. Walking S n a p q l h i o) e W

pub loop-step-init : goal.loop-step-init
loop-step-init c B n f A = at_level (omega arith) (record { held = A; same = refl })

pub loop-step-preserved : goal.loop-step-preserved
loop-step-preserved c B n f A =
    let W = c.loop-step.invariant B n f A in
    let g : 0 < c.args.level - c.loop-step._step = omega arith in
    at_level (omega arith) (walking_next _ _ g (c.child_of-h.ensures rel B n refl f (walking_within _ g W)) W)

pub returns : goal.returns
returns c B n f A = let e : c.args.level - c.loop-step._step ≡ 0 = omega arith in walking_ends _ e (c.loop-step.invariant B n f A)
