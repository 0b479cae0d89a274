-- What the contracts of `test` and `assign` cite: the node at the field that they name, and what is known of the identity.
use Rattle.std.specs.Prelude.{◌≡◌, List, Option, Some, ℕ, length}
use Rattle.model.specs.FieldsFromIdentity.{IdentityHeld}
use Rattle.model.specs.Operations.{test_node, assign_node}
use Rattle.model.specs.Store.{Store}
use Rattle.model.specs.WellFormed.{WellFormed}
use Rattle.memory.specs.Working.{Words}
use Rattle.relations.specs.declared.fields.Naming.{Naming}
use Rattle.relations.specs.declared.fields.Naming.TheVariants.{Test, Assign}

abbrev pub field_node : Naming → ℕ → ℕ → List ℕ
field_node (Assign b) res z = assign_node b res z
field_node (Test b) res z = test_node b res z

-- in stores with n relations, of which the words of w say nothing wrong, the handle r is the identity of level l, and the empty relation of level l is held too
pub record KnowsIdentity (w : List ℕ) (n l : ℕ) (r : Option ℕ) : Type 0 where
  pub knows : (one : ℕ) → r ≡ Some one → (k : ℕ) (S : Store) → WellFormed k S → Words w S → length S.rels ≡ n → IdentityHeld l S one
