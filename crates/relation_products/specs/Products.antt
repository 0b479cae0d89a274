-- The part of `star` that is left when the star of a + b d* c is known.
use Rattle.std.specs.Prelude.{[], ◌∷◌, ℕ}
use Rattle.model.specs.Store.{rel}
use Rattle.model.specs.Programs.{Prog, mk, ◌>>=◌}
use Rattle.model.specs.Operations.{union}
use Rattle.model.specs.Relations.{sequence}

abbrev pub star_node : ℕ → ℕ → ℕ → ℕ → ℕ → Prog
star_node l res-a bd-star c d-star =
    sequence l res-a bd-star >>= λ res-b.
    sequence l c res-a >>= λ c-res-a.
    sequence l d-star c-res-a >>= λ res-c.
    sequence l res-c bd-star >>= λ res-c-bd-star.
    union rel l d-star res-c-bd-star >>= λ res-d.
    mk rel (res-a ∷ res-b ∷ res-c ∷ res-d ∷ [])
