-- The outcome of a call, in document 01's order of refusals: one definition for memories and for the plain store.
use Rattle.std.specs.Prelude.{Bool, true, false, ◌&&◌, ◌||◌, ℕ, ◌^◌, ltb, eqb, Result, Ok, Err}
use Rattle.model.specs.Store.{Kind, set, rel, Store, pick}
use Rattle.model.specs.Programs.{Prog, Ran, run}
use Rattle.model.specs.Places.{fits_places}
use Rattle.model.specs.WellFormed.{is_held, level_of}
use Rattle.call_rules.specs.declared.Refusal.{Refusal}
use Rattle.call_rules.specs.declared.Refusal.TheVariants.{NotHeld, LevelsDiffer, NoChildren, OutOfRange}
use Rattle.call_rules.specs.declared.Answer.{Answer}
use Rattle.call_rules.specs.declared.Answer.TheVariants.{Handle, Truth}

-- WHAT A CALL DECLINES: the level of its operands, or a refusal
abbrev pub Check : Type 0
Check = Result ℕ Refusal

-- the check c where the test holds, and the refusal r where not
unfoldable pub guard : Refusal → Bool → Check → Check
guard r true c = c
guard r false c = Err r

-- after a check that passes one more test, of its level
unfoldable pub also : Check → Refusal → (ℕ → Bool) → Check
also (Ok l) r t = guard r (t l) (Ok l)
also (Err q) r t = Err q

-- 01: "2 handle not held"
unfoldable pub of_one : ℕ → Kind → Store → ℕ → Check
of_one k K S a = guard NotHeld (is_held K S a) (Ok (level_of k K S a))

-- 01: "3 levels differ", of an operand of kind K and one of kind J
unfoldable pub of_pair : ℕ → Store → Kind → ℕ → Kind → ℕ → Check
of_pair k S K a J b = (let l = level_of k K S a in
    guard NotHeld (is_held K S a) (guard NotHeld (is_held J S b) (guard LevelsDiffer (eqb (level_of k J S b) l) (Ok l))))

-- two operands of one kind
abbrev pub of_two : ℕ → Kind → Store → ℕ → ℕ → Check
of_two k K S a b = of_pair k S K a K b

-- 01, `get`: "4 for handles 0 and 1", which are at level 0
abbrev pub of_parent : ℕ → Kind → Store → ℕ → Check
of_parent k K S a = also (of_one k K S a) NoChildren (λ l. ltb 0 l)

-- 01, `mk`: "5 if the children are at level k"; of two children
abbrev pub of_children : ℕ → Kind → Store → ℕ → ℕ → Check
of_children k K S a b = also (of_two k K S a b) OutOfRange (λ l. ltb l k)

-- a field v and a value b for it. 01, `test`, `assign`: "5 if the field is k or more"; a value is 0 or 1
abbrev pub of_field : ℕ → ℕ → ℕ → Check
of_field k v b = guard OutOfRange (ltb v k) (guard OutOfRange (ltb b 2) (Ok k))

-- 01, `ifelse`: "5 likewise; 2; 3; 4 if the branches' level is not above the field"
abbrev pub of_branches : ℕ → Kind → Store → ℕ → ℕ → ℕ → Check
of_branches k K S v a b = guard OutOfRange (ltb v k) (also (of_two k K S a b) NoChildren (λ l. ltb v l))

-- 01, `relates`: "5 if a packet is 2^level or more"
abbrev pub of_packets : ℕ → Store → ℕ → ℕ → ℕ → Check
of_packets k S a p q = also (also (of_one k rel S a) OutOfRange (λ l. ltb p (2 ^ l))) OutOfRange (λ l. ltb q (2 ^ l))

-- a set a and a packet p, which counts where the mark g is not 0. 02, M-103: "5 where a header was given and is 2^level or more"
abbrev pub of_given : ℕ → Store → ℕ → ℕ → ℕ → Check
of_given k S a g p = also (of_one k set S a) OutOfRange (λ l. eqb g 0 || ltb p (2 ^ l))

-- 2 and 3 of a set p, a relation a and a set q: 2 of any comes before 3
unfoldable pub of_path : ℕ → Store → ℕ → ℕ → ℕ → Check
of_path k S p a q = guard NotHeld (is_held set S q) (also (of_pair k S rel a set p) LevelsDiffer (λ l. eqb (level_of k set S q) l))

-- 2 and 3 of four operands: 2 of any comes before 3
unfoldable pub of_four : ℕ → Kind → Store → ℕ → ℕ → ℕ → ℕ → Check
of_four k K S a b c d = (let l = level_of k K S a in
    guard NotHeld (is_held K S a && (is_held K S b && (is_held K S c && is_held K S d)))
    (guard LevelsDiffer (eqb (level_of k K S b) l && (eqb (level_of k K S c) l && eqb (level_of k K S d) l)) (Ok l)))

-- four children: 2, 3, and 5 as for two
abbrev pub of_four_children : ℕ → Kind → Store → ℕ → ℕ → ℕ → ℕ → Check
of_four_children k K S a b c d = also (of_four k K S a b c d) OutOfRange (λ l. ltb l k)

-- THE VERDICT on a call, with answers of type A: an answer, a refusal being one; or a program to run, and the answer made of its run
pub data Verdict (A : Type 0) : Type 0 where
  gives : A → Verdict A
  runs : Prog → (Ran → A) → Verdict A

-- the verdict at the check's level, or the call is declined; `refuse` makes an answer of a refusal
abbrev pub unless_declined : {A : Type 0} → (Refusal → A) → Check → (ℕ → Verdict A) → Verdict A
unless_declined refuse (Ok l) v = v l
unless_declined refuse (Err r) v = gives (refuse r)

-- the answer of a program that gives a handle
abbrev pub as_handle : Ran → Result Answer Refusal
as_handle R = Ok (Handle R.value)

-- the answer of a program that gives 1 or 0
abbrev pub yes_no : Prog → Store → Answer
yes_no p S = Truth (eqb (run p S).value 1)

-- an answer, and what the store or the memories are afterwards
pub record Outcome (A X : Type 0) : Type 0 where
  pub answer : A
  pub state : X

abbrev pub outcome : {A X : Type 0} → A → X → Outcome A X
outcome a x = record { answer = a; state = x }

-- an answer of another type, the state the same
abbrev pub map_answer : {A B X : Type 0} → (A → B) → Outcome A X → Outcome B X
map_answer f t = outcome (f t.answer) t.state

-- m places for sets and n for relations. 01: "6 is returned exactly when the call .. would end with more nodes of either kind
-- than there are places"; `six` is the answer then, and leaves x as it was, as any answer does that runs nothing
unfoldable pub finishes : {A X : Type 0} → A → ℕ → ℕ → Verdict A → Store → X → (Store → X) → Outcome A X
finishes six m n (gives a) S x put = outcome a x
finishes six m n (runs p f) S x put = pick (fits_places m n (run p S).store) (outcome (f (run p S)) (put (run p S).store)) (outcome six x)
