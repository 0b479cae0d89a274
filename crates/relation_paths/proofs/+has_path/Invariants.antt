-- `has_path` runs its program; the measure is the level.
use Rattle.relation_paths.proofs.+has_path.Given as goal

abbrev pub decreases-has_path : goal.decreases-has_path
decreases-has_path l = l.level
