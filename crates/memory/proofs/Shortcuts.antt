-- What shortcuts know, for `search`: tests answered in their order, from numbers and from known properties.
use mathlib.Core.Path.{◌≡◌}
use mathlib.Core.Bool.{Bool, true, false}
use mathlib.Core.List.{List}
use Prim.Native.Nat.{ℕ}
use borrow.Author.Tests.{lt-ltb, le-ltb}
use Rattle.model.specs.Programs.{is_empty, is_universal, Test, has, Prog, ask}
use Rattle.model.specs.Store.{Kind, set, rel}
use Rattle.memory.specs.Performing.{Condition, OtherNodes, ReducesOn, KnowsProperties}
use Rattle.memory.specs.declared.Properties.{Properties}
use Rattle.memory.proofs.OtherNodes.{empty_of_other, universal_of_other, identity_of_other}
use Rattle.memory.proofs.Steps.{TestIs, begin, further, yes, no, less_says, empty_says, universal_says}

module _ {Q : Condition} {K : Kind} {m w : List ℕ} {t : Test} {p q r : Prog} where
  pub ask_yes : TestIs Q K m w t true → ReducesOn Q K p r m w → ReducesOn Q K (ask t p q) r m w
  ask_yes e u = further (yes begin e) u

  pub ask_no : TestIs Q K m w t false → ReducesOn Q K q r m w → ReducesOn Q K (ask t p q) r m w
  ask_no e u = further (no begin e) u

-- relations beside the sets that are added to
module _ {o m w : List ℕ} {j l h : ℕ} {r : Properties} {v : Bool} (k : KnowsProperties rel o w l h r) where
  pub empty_relation : r.empty ≡ v → TestIs (OtherNodes set o j) set m w (has is_empty rel l h) v
  empty_relation = empty_of_other k

  pub universal_relation : r.universal ≡ v → TestIs (OtherNodes set o j) set m w (has is_universal rel l h) v
  universal_relation = universal_of_other k

-- given with the properties that the code read
pub ruleset shortcuts = (ask_yes, ask_no, begin, less_says, empty_says, universal_says, empty_relation, universal_relation, identity_of_other, lt-ltb, le-ltb)
