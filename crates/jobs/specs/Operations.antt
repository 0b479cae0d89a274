-- THE OPERATIONS that a job may name; 02, M-106: "docs/ numbers the jobs: 01's operations, `new` aside, of at most three operands and answering
-- a handle, yes or no." docs/JOBS.md has the same table.
use Rattle.std.specs.Prelude.{Bool, ◌&&◌, List, [], ◌∷◌, ℕ, ◌-◌, ltb, leb, length, get_or}
use Rattle.store.specs.Calls.{Call, set_call, set_read, relation_call, relation_read, image_call, filter_call, path_read}
use Rattle.store.specs.declared.set_calls.SetCall.TheVariants as S
use Rattle.store.specs.declared.set_reads.SetRead.TheVariants as SR
use Rattle.store.specs.declared.relation_calls.RelationCall.TheVariants as R
use Rattle.store.specs.declared.relation_reads.RelationRead.TheVariants as RR
use Rattle.store.specs.declared.image_calls.ImageCall.TheVariants as I
use Rattle.store.specs.declared.filter_calls.FilterCall.TheVariants as F
use Rattle.store.specs.declared.path_reads.PathRead.TheVariants as P
use Rattle.jobs.specs.declared.operations.StoreCall.{StoreCall}
use Rattle.jobs.specs.declared.operations.StoreCall.TheVariants.{AddsSet, ReadsSet, AddsRelation, ReadsRelation, AddsImage, AddsFilter, ReadsPath}
use Rattle.jobs.specs.declared.operations.Slot.{Slot}
use Rattle.jobs.specs.declared.operations.Slot.TheVariants.{Spare, Set, Relation, Number}
use Rattle.jobs.specs.declared.operations.Slots.{Slots}

-- what the three operands of a job are, spare ones among them, and the call that it is
pub record Operation : Type 0 where
  pub operands : Slots
  pub call : ℕ → ℕ → ℕ → Call

abbrev pub takes : Slot → Slot → Slot → Slots
takes a b c = record { a = a; b = b; c = c }

abbrev pub nullary : Call → Operation
nullary c = record { operands = takes Spare Spare Spare; call = λ x y z. c }

abbrev pub unary : Slot → (ℕ → Call) → Operation
unary a c = record { operands = takes a Spare Spare; call = λ x y z. c x }

abbrev pub binary : Slot → Slot → (ℕ → ℕ → Call) → Operation
binary a b c = record { operands = takes a b Spare; call = λ x y z. c x y }

abbrev pub ternary : Slot → Slot → Slot → (ℕ → ℕ → ℕ → Call) → Operation
ternary a b c d = record { operands = takes a b c; call = d }

-- numbered from 1 on
abbrev pub operations : List Operation
operations =
    -- 1 to 5
    nullary (set_call S.Zero) ∷ nullary (set_call S.One) ∷ nullary (relation_call R.Zero) ∷ nullary (relation_call R.One) ∷ nullary (relation_call R.Top)
    -- 6 to 10
    ∷ unary Set (λ a. set_read (SR.Complement a)) ∷ unary Set (λ a. set_read (SR.IsZero a)) ∷ unary Set (λ a. filter_call (F.Diagonal a))
    ∷ unary Set (λ a. filter_call (F.Ifwd a)) ∷ unary Set (λ a. filter_call (F.Ibwd a))
    -- 11 to 18
    ∷ unary Relation (λ a. relation_call (R.Complement a)) ∷ unary Relation (λ a. relation_call (R.Star a)) ∷ unary Relation (λ a. relation_call (R.Flip a))
    ∷ unary Relation (λ a. relation_call (R.NaiveForward a)) ∷ unary Relation (λ a. relation_call (R.Backward a)) ∷ unary Relation (λ a. image_call (I.Fwd a))
    ∷ unary Relation (λ a. image_call (I.Bwd a)) ∷ unary Relation (λ a. relation_read (RR.IsZero a))
    -- 19 to 24
    ∷ binary Set Set (λ a b. set_call (S.Mk a b)) ∷ binary Set Set (λ a b. set_call (S.Union a b)) ∷ binary Set Set (λ a b. set_call (S.Intersect a b))
    ∷ binary Set Set (λ a b. set_call (S.Xor a b)) ∷ binary Set Set (λ a b. set_call (S.Difference a b)) ∷ binary Set Set (λ a b. set_read (SR.Intersects a b))
    -- 25 to 29
    ∷ binary Relation Relation (λ a b. relation_call (R.Union a b)) ∷ binary Relation Relation (λ a b. relation_call (R.Intersect a b))
    ∷ binary Relation Relation (λ a b. relation_call (R.Xor a b)) ∷ binary Relation Relation (λ a b. relation_call (R.Difference a b))
    ∷ binary Relation Relation (λ a b. relation_call (R.Sequence a b))
    -- 30 to 32
    ∷ binary Set Relation (λ a b. image_call (I.Push a b)) ∷ binary Set Relation (λ a b. path_read (P.HasImage a b))
    ∷ binary Relation Set (λ a b. image_call (I.Pull a b))
    -- 33 to 35
    ∷ binary Number Number (λ f b. set_call (S.Test f b)) ∷ binary Number Number (λ f b. relation_call (R.Test f b))
    ∷ binary Number Number (λ f b. relation_call (R.Assign f b))
    -- 36 to 38
    ∷ ternary Number Set Set (λ f a b. set_call (S.Ifelse f a b)) ∷ ternary Relation Number Number (λ a p q. relation_read (RR.Relates a p q))
    ∷ ternary Set Relation Set (λ p a q. path_read (P.HasPath p a q)) ∷ []

-- 02: "12, unknown operation number"
abbrev pub is_known_operation : ℕ → Bool
is_known_operation n = ltb 0 n && leb n (length operations)

-- the operation of a known number; of any other it is the first
unfoldable pub numbered : ℕ → Operation
numbered n = get_or operations (n - 1) (nullary (set_call S.Zero))

-- the call that the code runs
abbrev pub as_call : StoreCall → Call
as_call (AddsSet c) = set_call c
as_call (ReadsSet c) = set_read c
as_call (AddsRelation c) = relation_call c
as_call (ReadsRelation c) = relation_read c
as_call (AddsImage c) = image_call c
as_call (AddsFilter c) = filter_call c
as_call (ReadsPath c) = path_read c
