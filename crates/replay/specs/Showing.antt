-- What is written of an answer, in the oracle's format.
use Rattle.std.specs.Prelude.{List, [], ◌∷◌, ◌++◌, ℕ, codes, decimal, Result, Ok, Err}
use Rattle.std.specs.List.{flat_map}
use Rattle.call_rules.specs.Answers.{refusal_number, values}
use Rattle.call_rules.specs.declared.Answer.{Answer}
use Rattle.call_rules.specs.declared.Answer.TheVariants.{Handle, Truth, SetNode, RelationNode, Pair, Nothing, Member}
use Rattle.call_rules.specs.declared.Refusal.{Refusal}
use Rattle.replay.specs.declared.answers.Said.{Said}
use Rattle.replay.specs.declared.answers.Said.TheVariants as said

-- `h` a handle, `b` yes or no, `c` children, `r` a refusal, `p` a pair, `m` a member, `n` none
abbrev pub letter_of : Result Answer Refusal → ℕ
letter_of (Ok (Handle h)) = 104
letter_of (Ok (Truth b)) = 98
letter_of (Ok (SetNode x0 x1)) = 99
letter_of (Ok (RelationNode x00 x01 x10 x11)) = 99
letter_of (Ok (Pair x y)) = 112
letter_of (Ok Nothing) = 110
letter_of (Ok (Member x)) = 109
letter_of (Err r) = 114

-- the values, or the refusal's number; of a pair the two packets, of a member the packet
abbrev pub numbers_of : Result Answer Refusal → List ℕ
numbers_of (Ok (Handle h)) = values (Ok (Handle h))
numbers_of (Ok (Truth b)) = values (Ok (Truth b))
numbers_of (Ok (SetNode x0 x1)) = values (Ok (SetNode x0 x1))
numbers_of (Ok (RelationNode x00 x01 x10 x11)) = values (Ok (RelationNode x00 x01 x10 x11))
numbers_of (Ok (Pair x y)) = x ∷ y ∷ []
numbers_of (Ok Nothing) = []
numbers_of (Ok (Member x)) = x ∷ []
numbers_of (Err r) = refusal_number r ∷ []

-- THE LINES. A space and a number
abbrev pub number_text : ℕ → List ℕ
number_text n = 32 ∷ decimal n

-- the counts of relation nodes and of set nodes, and the newline (10)
abbrev pub counts_text : ℕ → ℕ → List ℕ
counts_text n m = number_text n ++ (number_text m ++ (10 ∷ []))

abbrev pub answer_text : Result Answer Refusal → ℕ → ℕ → List ℕ
answer_text a n m = (letter_of a ∷ flat_map number_text (numbers_of a)) ++ counts_text n m

-- `o`, of an accepted `new`
abbrev pub opened_text : ℕ → ℕ → List ℕ
opened_text n m = 111 ∷ counts_text n m

abbrev pub said_text : Said → List ℕ
said_text (said.Answer a n m) = answer_text a n m
said_text (said.Opened n m) = opened_text n m

abbrev pub ended_text : ℕ → List ℕ
ended_text line = codes "no call in line " ++ (decimal line ++ (10 ∷ []))
