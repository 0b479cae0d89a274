-- `test` and `assign` of relations where the identity and the empty relation of all fields are held: only the nodes from the named field up are made.
use Rattle.std.specs.Prelude.{◌≡◌, List, [], ◌∷◌, true, ℕ, zero, suc}
use Rattle.model.specs.Store.{rel, Store}
use Rattle.model.specs.Programs.{is_empty, is_identity, has, holds, Prog, look, mk, ◌>>=◌}
use Rattle.model.specs.Recursion.{x00, x01}
use Rattle.model.specs.WellFormed.{Held}

-- h is held at level l and is the identity, and the empty relation of level l is held too
pub record IdentityHeld (l : ℕ) (S : Store) (h : ℕ) : Type 0 where
  pub held : Held rel S l h
  pub identity : holds (has is_identity rel l h) S ≡ true
  pub empty : ℕ
  pub empty_held : Held rel S l empty
  pub empty_is : holds (has is_empty rel l empty) S ≡ true

-- the loop's nodes from field v up, of fields whose identity is one; its children are the identity and the empty relation of the fields after the first
unfoldable pub from_identity : (ℕ → ℕ → List ℕ) → ℕ → ℕ → Prog
from_identity at zero one = look rel one λ x. mk rel (at (x00 x) (x01 x))
from_identity at (suc v) one = look rel one λ x. from_identity at v (x00 x) >>= λ r. mk rel (r ∷ x01 x ∷ x01 x ∷ r ∷ [])
