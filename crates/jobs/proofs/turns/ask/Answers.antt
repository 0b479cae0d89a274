-- `ask`: 12 where the number is of no operation, 11 where an operand stands for nothing, and else the call, by what `operands`, `stands_for` and `call` say.
use mathlib.Core.Bool.{◌&&◌, true}
use mathlib.Core.Path.{◌≡◌, sym, ap, ◌∙◌}
use Prim.Native.Nat.{ℕ, ◌<◌, ◌≤◌}
use native.Mathlib.Omega.{arith}
use borrow.Author.Tests.{lt-ltb, le-leb}
use Rattle.std.proofs.Common.{rules}
use Rattle.std.specs.Prelude.{Option, Some, None, Result, Ok, Err, ok_or}
use Rattle.store.specs.Calls.{Call}
use Rattle.jobs.specs.Operations.{is_known_operation, numbered}
use Rattle.jobs.specs.Jobs.{calls, refuses, stands_for, with_values, asks}
use Rattle.jobs.specs.ByValue.{as_asks}
use Rattle.jobs.specs.declared.Job.{Job}
use Rattle.jobs.specs.declared.operations.Slots.{Slots}
use Rattle.jobs.specs.declared.turns.JobRefusal.{JobRefusal}
use Rattle.jobs.specs.declared.turns.JobRefusal.TheVariants.{NoSuchAnswer}
use Rattle.jobs.proofs.turns.ask.Goals as goal

-- numbers of operations
is_known : (n : ℕ) → 0 < n → n ≤ 38 → is_known_operation n ≡ true
is_known n positive most = λ i. lt-ltb 0 n positive i && le-leb n 38 most i

-- what an operand stands for, by what `ok_or` makes of it
none_where : {o x : Option ℕ} {r : Result ℕ JobRefusal} {f : JobRefusal} (e : JobRefusal) → x ≡ o → r ≡ ok_or x e → r ≡ Err f → o ≡ None
none_where {x = None} e is made err = sym is
none_where {x = Some v} e is made err = cc

some_where : {o x : Option ℕ} {r : Result ℕ JobRefusal} {v : ℕ} (e : JobRefusal) → x ≡ o → r ≡ ok_or x e → r ≡ Ok v → o ≡ Some v
some_where {x = None} e is made ok = cc
some_where {x = Some v} e is made ok = cc

-- where the number n of the operation is known, whose operands s are
module _ (j a b c : Job) {s : Slots} (known : is_known_operation j.operation ≡ true) (is : s ≡ (numbered j.operation).operands) where
  abbrev x : Option ℕ
  x = stands_for s.a j.a a

  abbrev y : Option ℕ
  y = stands_for s.b j.b b

  abbrev z : Option ℕ
  z = stands_for s.c j.c c

  valued : with_values (numbered j.operation) x y z ≡ asks j a b c
  unfolding asks
  valued = rw known (ap (λ (s : Slots). with_values (numbered j.operation) (stands_for s.a j.a a) (stands_for s.b j.b b) (stands_for s.c j.c c)) is)

  no_first : x ≡ None → refuses 11 ≡ asks j a b c
  no_first e = sym (ap (λ (v : Option ℕ). with_values (numbered j.operation) v y z) e) ∙ valued

  no_second : {p : ℕ} → x ≡ Some p → y ≡ None → refuses 11 ≡ asks j a b c
  no_second e f = sym (λ i. with_values (numbered j.operation) (e i) (f i) z) ∙ valued

  no_third : {p q : ℕ} → x ≡ Some p → y ≡ Some q → z ≡ None → refuses 11 ≡ asks j a b c
  no_third e f g = sym (λ i. with_values (numbered j.operation) (e i) (f i) (g i)) ∙ valued

  called : {d : Call} {p q r : ℕ} → x ≡ Some p → y ≡ Some q → z ≡ Some r → d ≡ (numbered j.operation).call p q r → calls d ≡ asks j a b c
  called e f g h = ap calls h ∙ sym (λ i. with_values (numbered j.operation) (e i) (f i) (g i)) ∙ valued

pub returns-in_err-x : goal.returns-in_err-x
returns-in_err-x c =
    let args = c.args in
    let e : c.from_residual.result ≡ Err NoSuchAnswer = search rules in
    ap as_asks e
    ∙ no_first args.job args.a args.b args.c (is_known args.job.operation (omega arith) (omega arith)) c.operands-slots.ensures
    (none_where _ c.stands_for.ensures c.ok_or.ensures.value (c.in_err-x.was))

pub returns-in_err-y : goal.returns-in_err-y
returns-in_err-y c =
    let args = c.args in
    let e : c.from_residual-in_err-y.result ≡ Err NoSuchAnswer = search rules in
    ap as_asks e
    ∙ no_second args.job args.a args.b args.c (is_known args.job.operation (omega arith) (omega arith)) c.operands-slots.ensures
    (some_where _ c.stands_for.ensures c.ok_or.ensures.value (c.in_ok-x.was))
    (none_where _ c.stands_for-2.ensures c.ok_or-2.ensures.value (c.in_err-y.was))

pub returns-in_err-z : goal.returns-in_err-z
returns-in_err-z c =
    let args = c.args in
    let e : c.from_residual-in_err-z.result ≡ Err NoSuchAnswer = search rules in
    ap as_asks e
    ∙ no_third args.job args.a args.b args.c (is_known args.job.operation (omega arith) (omega arith)) c.operands-slots.ensures
    (some_where _ c.stands_for.ensures c.ok_or.ensures.value (c.in_ok-x.was))
    (some_where _ c.stands_for-2.ensures c.ok_or-2.ensures.value (c.in_ok-y.was))
    (none_where _ c.stands_for-3.ensures c.ok_or-3.ensures.value (c.in_err-z.was))

pub returns : goal.returns
returns c =
    let args = c.args in
    called args.job args.a args.b args.c (is_known args.job.operation (omega arith) (omega arith)) c.operands-slots.ensures
    (some_where _ c.stands_for.ensures c.ok_or.ensures.value (c.in_ok-x.was))
    (some_where _ c.stands_for-2.ensures c.ok_or-2.ensures.value (c.in_ok-y.was))
    (some_where _ c.stands_for-3.ensures c.ok_or-3.ensures.value (c.in_ok-z.was)) c.call.ensures
