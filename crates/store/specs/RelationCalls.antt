-- The calls on relations, after spp.rs: what each declines in document 01's order, what it runs, and what it answers.
use Rattle.std.specs.Prelude.{Result, Ok, Err, [], ◌∷◌, ℕ, eqb}
use Rattle.model.specs.Store.{rel, Store, get}
use Rattle.model.specs.Packets.{packet, digits, walk}
use Rattle.model.specs.Programs.{Prog, mk}
use Rattle.model.specs.Recursion.{x00, x01, x10, x11}
use Rattle.model.specs.Operations.{zero_at_depth, one_at_depth, top_at_depth, union, intersect, xor, difference, complement, is_zero, test, assign}
use Rattle.model.specs.Relations.{sequence, star, flip, naive_forward, backward}
use Rattle.call_rules.specs.Outcome.{Check, Verdict, gives, runs, unless_declined, as_handle, of_one, of_two, of_parent, of_four_children, of_field, of_packets}
use Rattle.call_rules.specs.Outcome.{yes_no}
use Rattle.call_rules.specs.declared.Answer.{Answer}
use Rattle.call_rules.specs.declared.Answer.TheVariants.{Truth, RelationNode}
use Rattle.store.specs.declared.relation_calls.RelationCall.{RelationCall}
use Rattle.store.specs.declared.relation_calls.RelationCall.TheVariants.{Mk, Zero, One, Top, Union, Intersect, Xor, Difference, Complement}
use Rattle.store.specs.declared.relation_calls.RelationCall.TheVariants.{Sequence, Star, Flip, Test, Assign, NaiveForward, Backward}
use Rattle.store.specs.declared.relation_reads.RelationRead.{RelationRead}
use Rattle.store.specs.declared.relation_reads.RelationRead.TheVariants.{Get, IsZero, Relates}
use Rattle.call_rules.specs.declared.Refusal.{Refusal}

-- CALLS THAT MAY ADD RELATIONS. What a call declines after 1, in a store S of k fields, or its operands' level.
abbrev pub relation_declines : ℕ → RelationCall → Store → Check
relation_declines k (Mk a b c d) S = of_four_children k rel S a b c d
relation_declines k Zero S = Ok k
relation_declines k One S = Ok k
relation_declines k Top S = Ok k
relation_declines k (Union a b) S = of_two k rel S a b
relation_declines k (Intersect a b) S = of_two k rel S a b
relation_declines k (Xor a b) S = of_two k rel S a b
relation_declines k (Difference a b) S = of_two k rel S a b
relation_declines k (Complement a) S = of_one k rel S a
relation_declines k (Sequence a b) S = of_two k rel S a b
relation_declines k (Star a) S = of_one k rel S a
relation_declines k (Flip a) S = of_one k rel S a
relation_declines k (Test f b) S = of_field k f b
relation_declines k (Assign f b) S = of_field k f b
relation_declines k (NaiveForward a) S = of_one k rel S a
relation_declines k (Backward a) S = of_one k rel S a

-- what it runs, l being that level
abbrev pub relation_program : ℕ → ℕ → RelationCall → Prog
relation_program k l (Mk a b c d) = mk rel (a ∷ b ∷ c ∷ d ∷ [])
relation_program k l Zero = zero_at_depth rel k
relation_program k l One = one_at_depth rel k
relation_program k l Top = top_at_depth k
relation_program k l (Union a b) = union rel l a b
relation_program k l (Intersect a b) = intersect rel l a b
relation_program k l (Xor a b) = xor rel l a b
relation_program k l (Difference a b) = difference rel l a b
relation_program k l (Complement a) = complement rel l a
relation_program k l (Sequence a b) = sequence l a b
relation_program k l (Star a) = star l a
relation_program k l (Flip a) = flip l a
relation_program k l (Test f b) = test rel k f (eqb b 1)
relation_program k l (Assign f b) = assign k f (eqb b 1)
relation_program k l (NaiveForward a) = naive_forward l a
relation_program k l (Backward a) = backward l a

abbrev pub relation_verdict : RelationCall → ℕ → Store → Verdict (Result Answer Refusal)
relation_verdict c k S = unless_declined Err (relation_declines k c S) (λ l. runs (relation_program k l c) as_handle)

-- CALLS THAT ADD NOTHING
abbrev pub relation_read_declines : ℕ → RelationRead → Store → Check
relation_read_declines k (Get a) S = of_parent k rel S a
relation_read_declines k (IsZero a) S = of_one k rel S a
relation_read_declines k (Relates a p q) S = of_packets k S a p q

abbrev pub relation_read_answer : Store → ℕ → RelationRead → Answer
relation_read_answer S l (Get a) = (let x = get rel S a in RelationNode (x00 x) (x01 x) (x10 x) (x11 x))
relation_read_answer S l (IsZero a) = yes_no (is_zero rel l a) S
relation_read_answer S l (Relates a p q) = Truth (eqb (walk rel S a (digits (packet l p) (packet l q))) 1)

abbrev pub relation_read_verdict : RelationRead → ℕ → Store → Verdict (Result Answer Refusal)
relation_read_verdict c k S = unless_declined Err (relation_read_declines k c S) (λ l. gives (Ok (relation_read_answer S l c)))
