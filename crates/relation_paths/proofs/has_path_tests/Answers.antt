-- `has_path_tests` knows what the properties and the memo say of whether a relation leads from a set to another.
use native.Mathlib.Omega.{arith}
use Rattle.memory.proofs.Remembering.{recalled}
use Rattle.memory.proofs.Shortcuts.{shortcuts}
use Rattle.memory.proofs.Steps.{begin, by, further}
use Rattle.memory.proofs.YesNo.{has_path_yes_no}
use Rattle.relation_paths.proofs.Asking.{yes_left}
use Rattle.relation_paths.proofs.Leading.{path_is, path_memo, path_known}
use Rattle.relation_paths.proofs.has_path_tests.Goals as goal

pub returns-then-pp : goal.returns-then-pp
returns-then-pp c j = path_known (search (shortcuts, c.set_properties-pp.ensures) depth 20)

pub returns-then-pq : goal.returns-then-pq
returns-then-pq c j = path_known (search (shortcuts, c.set_properties-pp.ensures, c.set_properties-pq.ensures) depth 20)

pub returns-then-pa : goal.returns-then-pa
returns-then-pa c j = path_known (search (shortcuts, c.set_properties-pp.ensures, c.set_properties-pq.ensures, c.relation_properties-pa.ensures) depth 20)

pub returns-then-pa-2 : goal.returns-then-pa-2
returns-then-pa-2 c j = path_known (search (shortcuts, c.set_properties-pp.ensures, c.set_properties-pq.ensures, c.relation_properties-pa.ensures) depth 20)

pub returns-then-pa-3 : goal.returns-then-pa-3
returns-then-pa-3 c j = path_known (search (shortcuts, c.set_properties-pp.ensures, c.set_properties-pq.ensures, c.relation_properties-pa.ensures) depth 20)

pub returns-then-pq-2 : goal.returns-then-pq-2
returns-then-pq-2 c j = path_known (search (shortcuts, c.set_properties-pp.ensures, c.set_properties-pq.ensures, c.relation_properties-pa.ensures) depth 20)

pub returns-in-Some : goal.returns-in-Some
returns-in-Some c j = record {
  reduces = yes_left (has_path_yes_no _ _ _ _)
      (recalled _ _ _ _ (path_memo c.args.level c.args.p c.args.a c.args.q (omega (arith, c.if-q-lt-NO_NUMBER.true)))
      (further (by begin (path_is _ _ _ _))
      (search (shortcuts, c.set_properties-pp.ensures, c.set_properties-pq.ensures, c.relation_properties-pa.ensures) depth 20))
      c.recall.ensures c.in-Some.is);
}

pub returns-in_default : goal.returns-in_default
returns-in_default c j =
    path_known (search (shortcuts, c.set_properties-pp.ensures, c.set_properties-pq.ensures, c.relation_properties-pa.ensures) depth 20)

pub returns-else-q-lt-NO_NUMBER : goal.returns-else-q-lt-NO_NUMBER
returns-else-q-lt-NO_NUMBER c j =
    path_known (search (shortcuts, c.set_properties-pp.ensures, c.set_properties-pq.ensures, c.relation_properties-pa.ensures) depth 20)
