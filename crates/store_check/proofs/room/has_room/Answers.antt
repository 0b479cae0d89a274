-- `has_room` is `has_room`: its tests in their order.
use mathlib.Core.Path.{refl, ◌∙◌}
use borrow.Author.Tests.{lt-leb}
use Rattle.store_check.proofs.Rooms.{no_head, too_many, room_is}
use Rattle.store_check.proofs.room.has_room.Goals as goal

pub returns-then-m-start : goal.returns-then-m-start
returns-then-m-start c = λ K e a b. no_head K _ _ _ _ e a b c.if-m-start.true

pub returns-then-n-p : goal.returns-then-n-p
returns-then-n-p c = λ K e a b. room_is K _ _ _ _ e a b _ _ c.places_of-p.ensures refl c.if-m-start.false c.if-n-p.true c.zeros.ensures

pub returns-else-n-p : goal.returns-else-n-p
returns-else-n-p c = λ K e a b. lt-leb _ _ c.if-n-p.false ∙ too_many K _ _ _ _ e a b _ _ c.places_of-p.ensures refl c.if-n-p.false
