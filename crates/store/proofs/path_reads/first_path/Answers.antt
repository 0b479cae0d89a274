-- `first_path` gives the first pair, or none where `has_path` says no.
use Rattle.store.proofs.FirstPaths.{no_path, first_found}
use Rattle.store.proofs.path_reads.first_path.Goals as goal

pub returns-then-not-has_path : goal.returns-then-not-has_path
returns-then-not-has_path c j n = no_path _ _ _ _ _ (c.has_path.ensures j n) c.if-not-has_path.true

pub returns : goal.returns
returns c j n =
    first_found _ _ _ _ _ (c.has_path.ensures j n) c.if-not-has_path.false (c.first_pair-pair.ensures.first j n)
    c.first_pair-pair.ensures.small.0 c.first_pair-pair.ensures.small.1
