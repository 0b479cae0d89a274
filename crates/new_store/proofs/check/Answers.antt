-- `check` declines as `new` does, or says that the constants fit.
use mathlib.Core.Path.{refl}
use Rattle.new_store.proofs.Creating.{new_range, short_relations, short_sets, full_relations, full_sets}
use Rattle.new_store.proofs.check.Goals.{then-relations-lt-RELATION_HEAD-via-then-relations-lt-RELATION_HEAD, then-n-places_of-via-then-n-places_of}
use Rattle.new_store.proofs.check.Goals.{then-relations-lt-RELATION_HEAD-via-else-relations-lt-RELATION_HEAD+then-sets-lt-SET_HEAD}
use Rattle.new_store.proofs.check.Goals.{then-n-places_of-via-else-n-places_of+then-n-places_of-2}
use Rattle.new_store.proofs.check.Goals as goal

pub returns-then-k-gt32 : goal.returns-then-k-gt32
returns-then-k-gt32 c = λ M e f. new_range _ M c.if-k-gt32.true

pub returns-then-relations-lt-RELATION_HEAD : goal.returns-then-relations-lt-RELATION_HEAD
returns-then-relations-lt-RELATION_HEAD c M e f = elim c.then-relations-lt-RELATION_HEAD.branch [
  | then-relations-lt-RELATION_HEAD-via-then-relations-lt-RELATION_HEAD w ↦
      short_relations _ _ _ M e f c.if-k-gt32.false w.if-relations-lt-RELATION_HEAD.true
  | then-relations-lt-RELATION_HEAD-via-else-relations-lt-RELATION_HEAD+then-sets-lt-SET_HEAD w ↦
      short_sets _ _ _ M e f c.if-k-gt32.false w.if-sets-lt-SET_HEAD.true
]

pub returns-then-n-places_of : goal.returns-then-n-places_of
returns-then-n-places_of c M e f = elim c.then-n-places_of.branch [
  | then-n-places_of-via-then-n-places_of w ↦
      full_relations _ _ _ M e f c.if-k-gt32.false c.if-relations-lt-RELATION_HEAD.false c.if-sets-lt-SET_HEAD.false _ _ refl c.places_of.ensures
      w.if-n-places_of.true
  | then-n-places_of-via-else-n-places_of+then-n-places_of-2 w ↦
      full_sets _ _ _ M e f c.if-k-gt32.false c.if-relations-lt-RELATION_HEAD.false c.if-sets-lt-SET_HEAD.false _ _ refl
      w.places_of-else-n-places_of.ensures w.if-n-places_of-2.true
]
