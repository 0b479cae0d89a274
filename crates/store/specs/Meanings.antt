-- What the handle that a call gives means, in terms of its operands' packets in the store S before it: document 01, "The operations".
use Rattle.std.specs.Prelude.{◌≡◌, [], ◌∷◌, ◌⊎◌, ℕ, suc, ◌+◌, ◌*◌, get_or, drop, eqb}
use Rattle.model.specs.Store.{set, rel, Store}
use Rattle.model.specs.Packets.{contains, relates}
use Rattle.model.specs.WellFormed.{level_of}
use Rattle.model.specs.Meaning.{Den, Relates, Both, OneOf, Without, Passes, Choice, Filter, Assign, Compose, Star, Range, Domain}
use Rattle.store.specs.declared.relation_calls.RelationCall.{RelationCall}
use Rattle.store.specs.declared.relation_calls.RelationCall.TheVariants as R
use Rattle.store.specs.declared.set_calls.SetCall.{SetCall}
use Rattle.store.specs.declared.set_calls.SetCall.TheVariants.{Mk, Zero, One, Union, Intersect, Xor, Difference, Test, Ifelse}

-- the set that a call gives, in a store of k fields; `mk` has its first child where field 0 is 0 and its second where it is 1
unfoldable pub set_meaning : ℕ → SetCall → Store → Store → ℕ → Type 0
set_meaning k (Mk a b) S = Den set (suc (level_of k set S a)) (λ p. contains S (get_or (a ∷ b ∷ []) (get_or p 0 0) 0) (drop 1 p))
set_meaning k Zero S = Den set k (λ p. ⊥)
set_meaning k One S = Den set k (λ p. Unit {0})
set_meaning k (Union a b) S = Den set (level_of k set S a) (λ p. contains S a p ⊎ contains S b p)
set_meaning k (Intersect a b) S = Den set (level_of k set S a) (λ p. Both (contains S a p) (contains S b p))
set_meaning k (Xor a b) S = Den set (level_of k set S a) (λ p. OneOf (contains S a p) (contains S b p))
set_meaning k (Difference a b) S = Den set (level_of k set S a) (λ p. Without (contains S a p) (contains S b p))
set_meaning k (Test v b) S = Den set k (Passes v (eqb b 1))
set_meaning k (Ifelse v t e) S = Den set (level_of k set S t) (Choice v (contains S t) (contains S e))

-- the relation that a call gives, in a store of k fields; `mk` has its child where field 0 of input and output are that child's digits
unfoldable pub relation_meaning : ℕ → RelationCall → Store → Store → ℕ → Type 0
relation_meaning k (R.Mk a b c d) S =
    Relates (suc (level_of k rel S a)) (λ p q. relates S (get_or (a ∷ b ∷ c ∷ d ∷ []) (2 * get_or p 0 0 + get_or q 0 0) 0) (drop 1 p) (drop 1 q))
relation_meaning k R.Zero S = Relates k (λ p q. ⊥)
relation_meaning k R.One S = Relates k (λ p q. p ≡ q)
relation_meaning k R.Top S = Relates k (λ p q. Unit {0})
relation_meaning k (R.Union a b) S = Relates (level_of k rel S a) (λ p q. relates S a p q ⊎ relates S b p q)
relation_meaning k (R.Intersect a b) S = Relates (level_of k rel S a) (λ p q. Both (relates S a p q) (relates S b p q))
relation_meaning k (R.Xor a b) S = Relates (level_of k rel S a) (λ p q. OneOf (relates S a p q) (relates S b p q))
relation_meaning k (R.Difference a b) S = Relates (level_of k rel S a) (λ p q. Without (relates S a p q) (relates S b p q))
relation_meaning k (R.Complement a) S = Relates (level_of k rel S a) (λ p q. ¬ relates S a p q)
relation_meaning k (R.Sequence a b) S = Relates (level_of k rel S a) (Compose (level_of k rel S a) (relates S a) (relates S b))
relation_meaning k (R.Star a) S = Relates (level_of k rel S a) (Star (level_of k rel S a) (relates S a))
relation_meaning k (R.Flip a) S = Relates (level_of k rel S a) (λ p q. relates S a q p)
relation_meaning k (R.Test f b) S = Relates k (Filter (Passes f (eqb b 1)))
relation_meaning k (R.Assign f b) S = Relates k (Assign f (eqb b 1))
relation_meaning k (R.NaiveForward a) S = Relates (level_of k rel S a) (λ p q. Range (level_of k rel S a) (relates S a) q)
relation_meaning k (R.Backward a) S = Relates (level_of k rel S a) (λ p q. Domain (level_of k rel S a) (relates S a) p)
