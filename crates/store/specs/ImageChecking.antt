-- What the code of the calls that add nothing asks, between relations and sets.
use Rattle.std.specs.Prelude.{ℕ}
use Rattle.model.specs.Store.{set, rel, Store}
use Rattle.model.specs.Images.{has_image, has_path}
use Rattle.model.specs.WellFormed.{Held}
use Rattle.model.specs.Safety.{Safe}
use Rattle.store.specs.declared.path_reads.PathRead.{PathRead}
use Rattle.store.specs.declared.path_reads.PathRead.TheVariants.{HasImage, HasPath, FirstPath}

-- what a call reads is there
abbrev pub PathSafe : Store → ℕ → PathRead → Type 0
PathSafe S l (HasImage p a) = Safe (has_image l p a) S
PathSafe S l (HasPath p a q) = Safe (has_path l p a q) S
PathSafe S l (FirstPath p a q) = Held set S l p × Held rel S l a × Held set S l q
