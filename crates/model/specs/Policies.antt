-- Policies as trees: what they relate, the rules they keep, and the program that builds them; 01, "The text at the entry", and
-- 02, M-104.
use Rattle.std.specs.Prelude.{◌≡◌, ◌⊎◌, Bool, true, false, ◌&&◌, ℕ, ltb}
use Rattle.model.specs.Store.{rel}
use Rattle.model.specs.Programs.{Prog, ◌>>=◌}
use Rattle.model.specs.Operations.{zero_at_depth, one_at_depth, top_at_depth, test, assign, union, intersect, xor, difference}
use Rattle.model.specs.Relations.{sequence, star}
use Rattle.model.specs.Meaning.{Rel, Passes, Assign, Filter, Compose, Star, Both, Without, OneOf}

-- `&` (intersection), `-` (difference), `^` (exclusive or)
pub data Mix : Type 0 where
  both : Mix
  minus : Mix
  either : Mix

-- `0`, `1`, `T`, `xN=b`, `xN:=b`, `!p`, `p+q`, `p&q` with `p-q` and `p^q`, `p;q`, `p*`
pub data Policy : Type 0 where
  fail : Policy
  skip : Policy
  full : Policy
  tests : ℕ → Bool → Policy
  assigns : ℕ → Bool → Policy
  negates : Policy → Policy
  plus : Policy → Policy → Policy
  mixes : Mix → Policy → Policy → Policy
  seq : Policy → Policy → Policy
  stars : Policy → Policy

-- in both, in the left alone, in exactly one
abbrev pub Mixed : Mix → Type 0 → Type 0 → Type 0
Mixed both = Both
Mixed minus = Without
Mixed either = OneOf

-- NetKAT without `dup`, with 02's relation operations, for packets of k fields. The operand of a `!` is a predicate, which relates a packet to
-- itself or to nothing; so 01's "`!p` relates to themselves the packets p refuses" is what is said here: `negation_refuses` of proofs/Policies.
unfoldable pub meaning : ℕ → Policy → Rel
meaning k fail p q = ⊥
meaning k skip p q = p ≡ q
meaning k full p q = Unit {0}
meaning k (tests v b) p q = Filter (Passes v b) p q
meaning k (assigns v b) p q = Assign v b p q
meaning k (negates x) p q = Filter (λ r. ¬ meaning k x r r) p q
meaning k (plus x y) p q = meaning k x p q ⊎ meaning k y p q
meaning k (mixes m x y) p q = Mixed m (meaning k x p q) (meaning k y p q)
meaning k (seq x y) p q = Compose k (meaning k x) (meaning k y) p q
meaning k (stars x) p q = Star k (meaning k x) p q

-- neither `:=` nor `*`, nor `T`, which 02 counts with them
unfoldable pub is_predicate : Policy → Bool
is_predicate fail = true
is_predicate skip = true
is_predicate full = false
is_predicate (tests v b) = true
is_predicate (assigns v b) = false
is_predicate (negates x) = is_predicate x
is_predicate (plus x y) = is_predicate x && is_predicate y
is_predicate (mixes m x y) = is_predicate x && is_predicate y
is_predicate (seq x y) = is_predicate x && is_predicate y
is_predicate (stars x) = false

-- 01: "Its operand may contain neither `:=` nor `*`"; 02: "`T` may not stand under `!`"
unfoldable pub only_negates_predicates : Policy → Bool
only_negates_predicates fail = true
only_negates_predicates skip = true
only_negates_predicates full = true
only_negates_predicates (tests v b) = true
only_negates_predicates (assigns v b) = true
only_negates_predicates (negates x) = is_predicate x && only_negates_predicates x
only_negates_predicates (plus x y) = only_negates_predicates x && only_negates_predicates y
only_negates_predicates (mixes m x y) = only_negates_predicates x && only_negates_predicates y
only_negates_predicates (seq x y) = only_negates_predicates x && only_negates_predicates y
only_negates_predicates (stars x) = only_negates_predicates x

-- 01: "names only fields below k"
unfoldable pub has_fields_below : ℕ → Policy → Bool
has_fields_below k fail = true
has_fields_below k skip = true
has_fields_below k full = true
has_fields_below k (tests v b) = ltb v k
has_fields_below k (assigns v b) = ltb v k
has_fields_below k (negates x) = has_fields_below k x
has_fields_below k (plus x y) = has_fields_below k x && has_fields_below k y
has_fields_below k (mixes m x y) = has_fields_below k x && has_fields_below k y
has_fields_below k (seq x y) = has_fields_below k x && has_fields_below k y
has_fields_below k (stars x) = has_fields_below k x

-- the relation operations of src/spp.rs: `intersect`, `difference`, `xor`
unfoldable pub mix_program : Mix → ℕ → ℕ → ℕ → Prog
mix_program both k p q = intersect rel k p q
mix_program minus k p q = difference rel k p q
mix_program either k p q = xor rel k p q

-- operands first, left before right; `!p`: "p first, then one, then the difference"
unfoldable pub policy_program : ℕ → Policy → Prog
policy_program k fail = zero_at_depth rel k
policy_program k skip = one_at_depth rel k
policy_program k full = top_at_depth k
policy_program k (tests v b) = test rel k v b
policy_program k (assigns v b) = assign k v b
policy_program k (negates x) = policy_program k x >>= λ p. one_at_depth rel k >>= λ one. difference rel k one p
policy_program k (plus x y) = policy_program k x >>= λ p. policy_program k y >>= λ q. union rel k p q
policy_program k (mixes m x y) = policy_program k x >>= λ p. policy_program k y >>= λ q. mix_program m k p q
policy_program k (seq x y) = policy_program k x >>= λ p. policy_program k y >>= λ q. sequence k p q
policy_program k (stars x) = policy_program k x >>= λ p. star k p
