-- What the code of the calls on sets asks of a call.
use Rattle.std.specs.Prelude.{ℕ, ◌+◌, ◌<◌, eqb}
use Rattle.model.specs.Store.{set, Store, pick}
use Rattle.model.specs.Packets.{packet}
use Rattle.model.specs.FieldOrder.{rank}
use Rattle.model.specs.Operations.{is_zero}
use Rattle.model.specs.Sets.{intersects}
use Rattle.model.specs.Safety.{Within, Safe}
use Rattle.model.specs.WellFormed.{Held}
use Rattle.store.specs.declared.set_calls.SetCall.{SetCall}
use Rattle.store.specs.declared.set_calls.SetCall.TheVariants.{Mk, Zero, One, Union, Intersect, Xor, Difference, Test, Ifelse}
use Rattle.store.specs.declared.set_reads.Cursor.{Cursor}
use Rattle.store.specs.declared.set_reads.SetRead.{SetRead}
use Rattle.store.specs.declared.set_reads.SetRead.TheVariants.{Get, Complement, IsZero, Intersects, Next}

-- the field that a call names is a number below 256
abbrev pub SetFieldFits : SetCall → Type 0
SetFieldFits (Mk a b) = Unit {0}
SetFieldFits Zero = Unit {0}
SetFieldFits One = Unit {0}
SetFieldFits (Union a b) = Unit {0}
SetFieldFits (Intersect a b) = Unit {0}
SetFieldFits (Xor a b) = Unit {0}
SetFieldFits (Difference a b) = Unit {0}
SetFieldFits (Test f b) = f < 256
SetFieldFits (Ifelse f t e) = f < 256

-- what a call that adds nothing reads is there
abbrev pub SetReadSafe : Store → ℕ → SetRead → Type 0
SetReadSafe S l (Get a) = Within set S a
SetReadSafe S l (Complement a) = Unit {0}
SetReadSafe S l (IsZero a) = Safe (is_zero set l a) S
SetReadSafe S l (Intersects a b) = Safe (intersects l a b) S
SetReadSafe S l (Next c) = Held set S l c.handle

-- the rank from which on members of level l are to come
abbrev pub from_rank : ℕ → Cursor → ℕ
from_rank l c = pick (eqb c.given 0) 0 (rank (packet l c.last) + 1)
