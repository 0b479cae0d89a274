-- The operation that a number names: a fact about all operations of a range of numbers, from that part of the table; and what no operation's number
-- names, the first.
use mathlib.Core.Path.{◌≡◌, refl, sym, ap, ◌∙◌}
use mathlib.Core.List.{List, [], ◌∷◌, map}
use Prim.Native.Nat.{ℕ, zero, suc, ◌+◌, ◌-◌, ◌≤◌, ◌<◌}
use native.Mathlib.Nat.{le_of_suc-le-suc, not-suc-le-zero}
use native.Mathlib.Omega.{arith}
use lib.ListN.{length, get_or, take, drop, get_or-eq_default}
use lib.Seq.{get_or-take, get_or-drop}
use lib.Dec.{ltb}
use borrow.Author.Tests.{ltb-true, ltb-false}
use Rattle.model.proofs.Bools.{by_test}
use Rattle.store.specs.Calls.{set_call}
use Rattle.store.specs.declared.set_calls.SetCall.TheVariants.{Zero}
use Rattle.jobs.specs.Operations.{Operation, takes, nullary, operations, numbered}
use Rattle.jobs.specs.declared.operations.Slot.TheVariants.{Spare}
use Rattle.jobs.specs.declared.operations.Slots.{Slots}

-- two functions that agree along a list agree on each of its elements
alike : {A B : Type 0} (f g : A → B) (l : List A) → map f l ≡ map g l → (i : ℕ) (d : A) → i < length l → f (get_or l i d) ≡ g (get_or l i d)
alike f g [] e i d h = absurd (not-suc-le-zero h)
alike f g (x ∷ xs) e zero d h = cc
alike f g (x ∷ xs) e (suc i) d h = alike f g xs (cc) i d (le_of_suc-le-suc h)

-- element i of a list, among the n that stand behind the first m
in_part : {A : Type 0} (l : List A) (m n i : ℕ) (d : A) → m ≤ i → i < m + n → get_or l i d ≡ get_or (take n (drop m l)) (i - m) d
in_part l m n i d from to =
    ap (λ (k : ℕ). get_or l k d) (omega arith) ∙ sym (get_or-drop m l (i - m) d) ∙ sym (get_or-take n (drop m l) (i - m) d (omega arith))

-- the n operations behind the first m
abbrev part : ℕ → ℕ → List Operation
part m n = take n (drop m operations)

-- two functions that agree along a part of the table agree on the operation of each number of that part
agree : {B : Type 0} (f g : Operation → B) (m n : ℕ) → map f (part m n) ≡ map g (part m n) → length (part m n) ≡ n → (i : ℕ) → m ≤ i - 1 → i - 1 < m + n
    → f (numbered i) ≡ g (numbered i)
unfolding numbered
agree f g m n e long i from to =
    let first = nullary (set_call Zero) in
    rw (in_part operations m n (i - 1) first from to) (alike f g (part m n) e (i - 1 - m) first (omega (arith, long)))

-- the operations of a range of numbers, from m + 1 to m + n, take these operands
pub in_range : {s : Slots} (m n : ℕ) → map (λ o. o.operands) (part m n) ≡ map (λ o. s) (part m n) → length (part m n) ≡ n → (i : ℕ) → m < i → i ≤ m + n
    → s ≡ (numbered i).operands
in_range {s} m n e long i from to = sym (agree (λ o. o.operands) (λ o. s) m n e long i (omega arith) (omega arith))

-- past the table
past_table : (i : ℕ) → 38 < i → numbered i ≡ nullary (set_call Zero)
unfolding numbered
past_table i h = get_or-eq_default operations (nullary (set_call Zero)) {n = i - 1} (omega arith)

-- a number that is none from 2 to 38
pub other_call : (i a b c : ℕ) → (1 < i → 38 < i) → set_call Zero ≡ (numbered i).call a b c
unfolding numbered
other_call zero a b c h = refl
other_call (suc zero) a b c h = refl
other_call (suc (suc i)) a b c h = sym (ap (λ (o : Operation). o.call a b c) (past_table (suc (suc i)) (h (omega arith))))

-- a number that is none from 6 to 38
pub no_operands : (i : ℕ) → (5 < i → 38 < i) → takes Spare Spare Spare ≡ (numbered i).operands
no_operands i h = by_test (λ b. takes Spare Spare Spare ≡ (numbered i).operands) (ltb 5 i)
    (λ e. sym (ap (λ (o : Operation). o.operands) (past_table i (h (ltb-true 5 i e)))))
    (λ e. sym (agree (λ o. o.operands) (λ o. takes Spare Spare Spare) 0 5 refl refl i (omega arith) (omega (arith, ltb-false 5 i e))))
