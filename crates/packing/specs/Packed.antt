-- An answer as one number, and its children as numbers.
use Rattle.std.specs.Prelude.{List, ℕ, ◌+◌, ◌*◌, ◌^◌, get_or, set as put, Result, Ok, Err}
use Rattle.call_rules.specs.Answers.{refusal, values}
use Rattle.packing.specs.declared.AddedReply.{AddedReply}
use Rattle.packing.specs.declared.PairReply.{PairReply}
use Rattle.call_rules.specs.declared.added.NodeCounts.{NodeCounts}
use Rattle.call_rules.specs.declared.Answer.{Answer}
use Rattle.call_rules.specs.declared.Answer.TheVariants.{Handle, Truth, SetNode, RelationNode, Pair, Nothing, Member}
use Rattle.call_rules.specs.declared.Refusal.{Refusal}

-- the refusal's number in the high half, the first value in the low half, 0 where there is none
abbrev pub halves : ℕ → List ℕ → ℕ
halves r vs = r * 2 ^ 32 + get_or vs 0 0

abbrev pub packed : Result Answer Refusal → ℕ
packed a = halves (refusal a) (values a)

-- a packed answer with the nodes that its call added
abbrev pub with_added : ℕ → NodeCounts → AddedReply
with_added a n = record { answer = a; relations = n.relations; sets = n.sets }

abbrev pub packed_reply : Result Answer Refusal × NodeCounts → AddedReply
packed_reply r = with_added (packed r.0) r.1

-- the pair in an answer, 0 and 0 where there is none
abbrev pub pair_in : Result Answer Refusal → ℕ × ℕ
pair_in (Ok (Handle h)) = (0, 0)
pair_in (Ok (Truth b)) = (0, 0)
pair_in (Ok (SetNode x0 x1)) = (0, 0)
pair_in (Ok (RelationNode x00 x01 x10 x11)) = (0, 0)
pair_in (Ok (Pair x y)) = (x, y)
pair_in (Ok Nothing) = (0, 0)
pair_in (Ok (Member x)) = (0, 0)
pair_in (Err r) = (0, 0)

abbrev pub packed_pair : Result Answer Refusal → PairReply
packed_pair a = record { answer = packed a; input = (pair_in a).0; output = (pair_in a).1 }

-- the two numbers lent for a set's children after a call: written where it gives them
abbrev pub filled_set : Result Answer Refusal → List ℕ → List ℕ
filled_set (Ok (Handle h)) c = c
filled_set (Ok (Truth b)) c = c
filled_set (Ok (SetNode x0 x1)) c = put (put c 0 x0) 1 x1
filled_set (Ok (RelationNode x00 x01 x10 x11)) c = c
filled_set (Ok (Pair x y)) c = c
filled_set (Ok Nothing) c = c
filled_set (Ok (Member x)) c = c
filled_set (Err r) c = c

-- the four numbers lent for a relation's children, likewise
abbrev pub filled_relation : Result Answer Refusal → List ℕ → List ℕ
filled_relation (Ok (Handle h)) c = c
filled_relation (Ok (Truth b)) c = c
filled_relation (Ok (SetNode x0 x1)) c = c
filled_relation (Ok (RelationNode x00 x01 x10 x11)) c = put (put (put (put c 0 x00) 1 x01) 2 x10) 3 x11
filled_relation (Ok (Pair x y)) c = c
filled_relation (Ok Nothing) c = c
filled_relation (Ok (Member x)) c = c
filled_relation (Err r) c = c
