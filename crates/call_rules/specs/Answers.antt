-- Document 01's number and values for every case of an answer.
use Rattle.std.specs.Prelude.{List, [], ◌∷◌, true, false, ℕ, Result, Ok, Err}
use Rattle.call_rules.specs.declared.Refusal.{Refusal}
use Rattle.call_rules.specs.declared.Refusal.TheVariants.{NotStore, NotHeld, LevelsDiffer, NoChildren, OutOfRange, UsedUp, TooLong}
use Rattle.call_rules.specs.declared.Answer.{Answer}
use Rattle.call_rules.specs.declared.Answer.TheVariants.{Handle, Truth, SetNode, RelationNode, Pair, Nothing, Member}

-- 01, "What each operation declines, in order"
abbrev pub refusal_number : Refusal → ℕ
refusal_number NotStore = 1
refusal_number NotHeld = 2
refusal_number LevelsDiffer = 3
refusal_number NoChildren = 4
refusal_number OutOfRange = 5
refusal_number UsedUp = 6
refusal_number TooLong = 10

-- the refusal's number, or 0
abbrev pub refusal : Result Answer Refusal → ℕ
refusal (Ok a) = 0
refusal (Err r) = refusal_number r

-- a handle, yes or no as 1 or 0, the children, 1 and a pair or a member or else 0; nothing where the call is declined
abbrev pub values : Result Answer Refusal → List ℕ
values (Ok (Handle h)) = h ∷ []
values (Ok (Truth true)) = 1 ∷ []
values (Ok (Truth false)) = 0 ∷ []
values (Ok (SetNode x0 x1)) = x0 ∷ x1 ∷ []
values (Ok (RelationNode x00 x01 x10 x11)) = x00 ∷ x01 ∷ x10 ∷ x11 ∷ []
values (Ok (Pair x y)) = 1 ∷ x ∷ y ∷ []
values (Ok Nothing) = 0 ∷ []
values (Ok (Member x)) = 1 ∷ x ∷ []
values (Err r) = []
