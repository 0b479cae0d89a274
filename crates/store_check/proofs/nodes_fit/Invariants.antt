-- `nodes_fit` says whether all n nodes keep the rules: the loop keeps that those passed do, and that the working memory is right for them.
use mathlib.Core.Path.{◌≡◌}
use lib.ListN.{length}
use Rattle.store_check.proofs.Fitting.{AllGood}
use Rattle.store_check.proofs.nodes_fit.Given as goal

abbrev pub invariant-loop-i : goal.invariant-loop-i
invariant-loop-i l = (length l.work ≡ length l.initial.work) × AllGood l.c l.n l.k l.nodes l.initial.work l.work l.i
