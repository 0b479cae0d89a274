-- `heads_fit` meets its contract: both rooms, then the number of fields.
use mathlib.Core.Path.{refl, sym, ◌∙◌, subst}
use native.Mathlib.Omega.{arith}
use Rattle.memory.proofs.Steps.{false≢true}
use Rattle.model.specs.Store.{set, rel}
use Rattle.store_check.specs.Memory.{memories}
use Rattle.store_check.specs.StoreChecking.{Tests, HeadsFit}
use Rattle.store_check.proofs.Whole.{no_room, heads_say, few_say, room_headed}
use Rattle.store_check.proofs.room.heads_fit.Goals.{then-has_room, else-has_room}
use Rattle.store_check.proofs.room.heads_fit.Goals as goal

pub bounds-relations-0 : goal.bounds-relations-0
bounds-relations-0 c = elim c.if-has_room.branch [
  | then-has_room w ↦ omega (arith, room_headed rel _ (c.has_room.ensures rel refl refl refl) w.if-has_room.true)
  | else-has_room w ↦ absurd (false≢true (sym w.if-has_room.false ∙ sym w.value-is ∙ c.if-has_room-2.true))
]

pub returns-then-has_room-2 : goal.returns-then-has_room-2
returns-then-has_room-2 c = elim c.if-has_room.branch [
  | then-has_room w ↦
      heads_say (c.has_room.ensures rel refl refl refl) (w.has_room-then-has_room.ensures set refl refl refl) w.if-has_room.true
      (sym w.value-is ∙ c.if-has_room-2.true) (few_say _)
  | else-has_room w ↦ absurd (false≢true (sym w.if-has_room.false ∙ sym w.value-is ∙ c.if-has_room-2.true))
]

pub returns-else-has_room-2 : goal.returns-else-has_room-2
returns-else-has_room-2 c =
    subst (λ r. Tests r (HeadsFit (memories c.args.relations.now c.args.sets.now))) (sym c.if-has_room-2.false) (elim c.if-has_room.branch [
      | then-has_room w ↦ no_room set (w.has_room-then-has_room.ensures set refl refl refl) (sym w.value-is ∙ c.if-has_room-2.false)
      | else-has_room w ↦ no_room rel (c.has_room.ensures rel refl refl refl) w.if-has_room.false
    ])
