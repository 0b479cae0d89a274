-- What the code of the calls on relations asks of a call.
use Rattle.std.specs.Prelude.{◌≡◌, List, Bool, ℕ, ◌<◌, ◌≤◌, eqb}
use Rattle.model.specs.Store.{rel, Store}
use Rattle.model.specs.Operations.{is_zero}
use Rattle.model.specs.Packets.{packet, digits, walk}
use Rattle.model.specs.Safety.{Within, Safe}
use Rattle.model.specs.WellFormed.{Held}
use Rattle.memory.specs.Rows.{places, plain}
use Rattle.store.specs.declared.relation_calls.RelationCall.{RelationCall}
use Rattle.store.specs.declared.relation_calls.RelationCall.TheVariants.{Mk, Zero, One, Top, Union, Intersect, Xor, Difference, Complement}
use Rattle.store.specs.declared.relation_calls.RelationCall.TheVariants.{Sequence, Star, Flip, Test, Assign, NaiveForward, Backward}
use Rattle.store.specs.declared.relation_reads.RelationRead.{RelationRead}
use Rattle.store.specs.declared.relation_reads.RelationRead.TheVariants.{Get, IsZero, Relates}

-- the field that a call names is a number below 256
abbrev pub RelationFieldFits : RelationCall → Type 0
RelationFieldFits (Mk a b c d) = Unit {0}
RelationFieldFits Zero = Unit {0}
RelationFieldFits One = Unit {0}
RelationFieldFits Top = Unit {0}
RelationFieldFits (Union a b) = Unit {0}
RelationFieldFits (Intersect a b) = Unit {0}
RelationFieldFits (Xor a b) = Unit {0}
RelationFieldFits (Difference a b) = Unit {0}
RelationFieldFits (Complement a) = Unit {0}
RelationFieldFits (Sequence a b) = Unit {0}
RelationFieldFits (Star a) = Unit {0}
RelationFieldFits (Flip a) = Unit {0}
RelationFieldFits (Test f b) = f < 256
RelationFieldFits (Assign f b) = f < 256
RelationFieldFits (NaiveForward a) = Unit {0}
RelationFieldFits (Backward a) = Unit {0}

-- what a call that adds nothing reads is there
abbrev pub RelationReadSafe : Store → ℕ → RelationRead → Type 0
RelationReadSafe S l (Get a) = Within rel S a
RelationReadSafe S l (IsZero a) = Safe (is_zero rel l a) S
RelationReadSafe S l (Relates a p q) = Held rel S l a

-- whether the walk from a, of level l, along the fields of the packets p and q ends at 1
abbrev pub WalksPair : List ℕ → ℕ → ℕ → ℕ → ℕ → Bool → Type 0
WalksPair m l a p q r = (B : Store) (n : ℕ) → n ≤ places 4 m → Held rel (plain rel B m n) l a
    → r ≡ eqb (walk rel (plain rel B m n) a (digits (packet l p) (packet l q))) 1
