-- The calls on sets, after sp.rs: what each declines in document 01's order, what it runs, and what it answers.
use Rattle.std.specs.Prelude.{Result, Ok, Err, [], ◌∷◌, ℕ, eqb}
use Rattle.model.specs.Store.{set, Store, signed, get}
use Rattle.model.specs.Programs.{Prog, mk}
use Rattle.model.specs.Recursion.{x0, x1}
use Rattle.model.specs.Operations.{zero_at_depth, one_at_depth, union, intersect, xor, difference, is_zero, test}
use Rattle.model.specs.Sets.{intersects, ifelse}
use Rattle.call_rules.specs.Outcome.{Check, Verdict, gives, runs, unless_declined, as_handle, of_one, of_two, of_parent, of_children, of_field, of_branches}
use Rattle.call_rules.specs.Outcome.{of_given, yes_no}
use Rattle.call_rules.specs.declared.Answer.{Answer}
use Rattle.call_rules.specs.declared.Answer.TheVariants.{Handle, SetNode}
use Rattle.store.specs.Cursors.{next_member, as_member}
use Rattle.store.specs.declared.set_calls.SetCall.{SetCall}
use Rattle.store.specs.declared.set_calls.SetCall.TheVariants.{Mk, Zero, One, Union, Intersect, Xor, Difference, Test, Ifelse}
use Rattle.store.specs.declared.set_reads.SetRead.{SetRead}
use Rattle.store.specs.declared.set_reads.SetRead.TheVariants.{Get, Complement, IsZero, Intersects, Next}
use Rattle.call_rules.specs.declared.Refusal.{Refusal}

-- CALLS THAT MAY ADD SETS. What a call declines after 1, in a store S of k fields, or its operands' level.
abbrev pub set_declines : ℕ → SetCall → Store → Check
set_declines k (Mk a b) S = of_children k set S a b
set_declines k Zero S = Ok k
set_declines k One S = Ok k
set_declines k (Union a b) S = of_two k set S a b
set_declines k (Intersect a b) S = of_two k set S a b
set_declines k (Xor a b) S = of_two k set S a b
set_declines k (Difference a b) S = of_two k set S a b
set_declines k (Test f b) S = of_field k f b
set_declines k (Ifelse f t e) S = of_branches k set S f t e

-- what it runs, l being that level
abbrev pub set_program : ℕ → ℕ → SetCall → Prog
set_program k l (Mk a b) = mk set (a ∷ b ∷ [])
set_program k l Zero = zero_at_depth set k
set_program k l One = one_at_depth set k
set_program k l (Union a b) = union set l a b
set_program k l (Intersect a b) = intersect set l a b
set_program k l (Xor a b) = xor set l a b
set_program k l (Difference a b) = difference set l a b
set_program k l (Test f b) = test set k f (eqb b 1)
set_program k l (Ifelse f t e) = ifelse l f t e

abbrev pub set_verdict : SetCall → ℕ → Store → Verdict (Result Answer Refusal)
set_verdict c k S = unless_declined Err (set_declines k c S) (λ l. runs (set_program k l c) as_handle)

-- CALLS THAT ADD NOTHING
abbrev pub set_read_declines : ℕ → SetRead → Store → Check
set_read_declines k (Get a) S = of_parent k set S a
set_read_declines k (Complement a) S = of_one k set S a
set_read_declines k (IsZero a) S = of_one k set S a
set_read_declines k (Intersects a b) S = of_two k set S a b
set_read_declines k (Next c) S = of_given k S c.handle c.given c.last

abbrev pub set_read_answer : Store → ℕ → SetRead → Answer
set_read_answer S l (Get a) = SetNode (x0 (get set S a)) (x1 (get set S a))
set_read_answer S l (Complement a) = Handle (signed 1 a)
set_read_answer S l (IsZero a) = yes_no (is_zero set l a) S
set_read_answer S l (Intersects a b) = yes_no (intersects l a b) S
set_read_answer S l (Next c) = as_member (next_member S l c)

abbrev pub set_read_verdict : SetRead → ℕ → Store → Verdict (Result Answer Refusal)
set_read_verdict c k S = unless_declined Err (set_read_declines k c S) (λ l. gives (Ok (set_read_answer S l c)))
