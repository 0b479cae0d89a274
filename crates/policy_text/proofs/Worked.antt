-- The texts of documents 01 and 02, and more, each with its number of fields and what it reads as: by computation.
use mathlib.Core.Path.{◌≡◌, refl}
use mathlib.Core.List.{List, [], ◌∷◌, ◌++◌, map}
use mathlib.Core.Bool.{true}
use Prim.Native.Nat.{ℕ}
use lib.ListN.{replicate}
use Rattle.model.specs.Policies.{Policy}
use Rattle.policy_text.specs.XForms.{does_x_begin, is_x_whole, field_number, is_no_field, x_forms}
use Rattle.policy_text.specs.Machine.{scan, final, byte_step, onward, mid_step, mid_go, after_name, close, join_seq, join_plus, join_mix}
use Rattle.policy_text.specs.Machine.{join_term, sum_before, mix_of, negs, nesting, leaf, reads}
use Rattle.policy_text.specs.Reading.{first, is_test, open_after, is_clean_inside, is_clean, does_offend, rules, reading_of, reading}
use Rattle.policy_text.specs.Answers.{tree_of, tree}
use Rattle.std.specs.Prelude.{Ok, Err}
use Rattle.policy_text.specs.Misreads.{misread, Reading}
use Rattle.policy_text.specs.declared.Fault.{Fault}

abbrev table : List (ℕ × List ℕ × Reading)
table =
    -- empty; `x00=1`; `!x0:=1`; `x0=5`: 01's own
    (1, [], Err (misread Fault.NotPolicy 0))
    ∷ (1, 120 ∷ 48 ∷ 48 ∷ 61 ∷ 49 ∷ [], Err (misread Fault.NotPolicy 2))
    ∷ (1, 33 ∷ 120 ∷ 48 ∷ 58 ∷ 61 ∷ 49 ∷ [], Err (misread Fault.NotPredicate 0))
    ∷ (1, 120 ∷ 48 ∷ 61 ∷ 53 ∷ [], Err (misread Fault.NotPolicy 3))
    -- `x0=0+x0=1`
    ∷ (1, 120 ∷ 48 ∷ 61 ∷ 48 ∷ 43 ∷ 120 ∷ 48 ∷ 61 ∷ 49 ∷ [], Ok tt)
    -- `(x0=1`: it ends too soon
    ∷ (1, 40 ∷ 120 ∷ 48 ∷ 61 ∷ 49 ∷ [], Err (misread Fault.NotPolicy 5))
    -- `x10=1` for 10 fields and for 11
    ∷ (10, 120 ∷ 49 ∷ 48 ∷ 61 ∷ 49 ∷ [], Err (misread Fault.NoField 0))
    ∷ (11, 120 ∷ 49 ∷ 48 ∷ 61 ∷ 49 ∷ [], Ok tt)
    -- `!x0:=1;x3=0`: 5 comes before 8
    ∷ (1, 33 ∷ 120 ∷ 48 ∷ 58 ∷ 61 ∷ 49 ∷ 59 ∷ 120 ∷ 51 ∷ 61 ∷ 48 ∷ [], Err (misread Fault.NoField 7))
    -- `!x0=1*`: the star is of the negation, not of its operand
    ∷ (1, 33 ∷ 120 ∷ 48 ∷ 61 ∷ 49 ∷ 42 ∷ [], Ok tt)
    -- `1;!(0;(1*))`
    ∷ (1, 49 ∷ 59 ∷ 33 ∷ 40 ∷ 48 ∷ 59 ∷ 40 ∷ 49 ∷ 42 ∷ 41 ∷ 41 ∷ [], Err (misread Fault.NotPredicate 2))
    -- 32 `!` and `1`; 33 `!` and `1`; 33 `(`
    ∷ (1, replicate 32 33 ++ (49 ∷ []), Ok tt)
    ∷ (1, replicate 33 33 ++ (49 ∷ []), Err (misread Fault.TooDeep 32))
    ∷ (1, replicate 33 40, Err (misread Fault.TooDeep 32))
    -- 32 `(`, `0` and `(`: 7 and 9 on one offset
    ∷ (1, replicate 32 40 ++ (48 ∷ 40 ∷ []), Err (misread Fault.NotPolicy 33))
    -- 02's: `!(x0=0&T)`; `!T`; `!(1;(0+T))`; `!x0=1&T`: the operand of the `!` is `x0=1`; `!x0=1&!T`; `x1=1-!T`: 5 comes before 8
    ∷ (1, 33 ∷ 40 ∷ 120 ∷ 48 ∷ 61 ∷ 48 ∷ 38 ∷ 84 ∷ 41 ∷ [], Err (misread Fault.NotPredicate 0))
    ∷ (1, 33 ∷ 84 ∷ [], Err (misread Fault.NotPredicate 0))
    ∷ (1, 33 ∷ 40 ∷ 49 ∷ 59 ∷ 40 ∷ 48 ∷ 43 ∷ 84 ∷ 41 ∷ 41 ∷ [], Err (misread Fault.NotPredicate 0))
    ∷ (1, 33 ∷ 120 ∷ 48 ∷ 61 ∷ 49 ∷ 38 ∷ 84 ∷ [], Ok tt)
    ∷ (1, 33 ∷ 120 ∷ 48 ∷ 61 ∷ 49 ∷ 38 ∷ 33 ∷ 84 ∷ [], Err (misread Fault.NotPredicate 6))
    ∷ (1, 120 ∷ 49 ∷ 61 ∷ 49 ∷ 45 ∷ 33 ∷ 84 ∷ [], Err (misread Fault.NoField 0))
    -- `!(x0=0&1-0^1)`: the three signs may stand under `!`
    ∷ (1, 33 ∷ 40 ∷ 120 ∷ 48 ∷ 61 ∷ 48 ∷ 38 ∷ 49 ∷ 45 ∷ 48 ∷ 94 ∷ 49 ∷ 41 ∷ [], Ok tt)
    -- `-1`; `1&-1`; `x0=1&`; `T=`; `t`
    ∷ (1, 45 ∷ 49 ∷ [], Err (misread Fault.NotPolicy 0))
    ∷ (1, 49 ∷ 38 ∷ 45 ∷ 49 ∷ [], Err (misread Fault.NotPolicy 2))
    ∷ (1, 120 ∷ 48 ∷ 61 ∷ 49 ∷ 38 ∷ [], Err (misread Fault.NotPolicy 5))
    ∷ (1, 84 ∷ 61 ∷ [], Err (misread Fault.NotPolicy 1))
    ∷ (1, 116 ∷ [], Err (misread Fault.NotPolicy 0))
    -- `T*`, and 31 `(` and `1&(T)`: a sign does not nest
    ∷ (1, 84 ∷ 42 ∷ [], Ok tt)
    ∷ (1, replicate 31 40 ++ ((49 ∷ 38 ∷ 40 ∷ 84 ∷ 41 ∷ []) ++ replicate 31 41), Ok tt)
    ∷ []

worked : map (λ c. reading x_forms c.0 c.1) table ≡ map (λ c. c.2) table
unfolding does_x_begin is_x_whole reading reading_of rules first field_number is_no_field is_test open_after is_clean_inside is_clean does_offend reads scan
    final byte_step
    onward
    mid_step mid_go
    after_name close join_seq join_plus join_mix join_term sum_before mix_of negs nesting leaf
worked = refl

-- `!x0=1;(1+0*)**`: joins group from the left, and a star is of what is before it
grouped : tree x_forms (33 ∷ 120 ∷ 48 ∷ 61 ∷ 49 ∷ 59 ∷ 40 ∷ 49 ∷ 43 ∷ 48 ∷ 42 ∷ 41 ∷ 42 ∷ 42 ∷ [])
    ≡ Policy.seq (Policy.negates (Policy.tests 0 true)) (Policy.stars (Policy.stars (Policy.plus Policy.skip (Policy.stars Policy.fail))))
unfolding does_x_begin is_x_whole tree tree_of reads scan final byte_step onward mid_step mid_go after_name close join_seq join_plus join_mix
    join_term sum_before mix_of negs nesting leaf
grouped = refl

-- `1+0+1;0;1`
from_left : tree x_forms (49 ∷ 43 ∷ 48 ∷ 43 ∷ 49 ∷ 59 ∷ 48 ∷ 59 ∷ 49 ∷ [])
    ≡ Policy.plus (Policy.plus Policy.skip Policy.fail) (Policy.seq (Policy.seq Policy.skip Policy.fail) Policy.skip)
unfolding does_x_begin is_x_whole tree tree_of reads scan final byte_step onward mid_step mid_go after_name close join_seq join_plus join_mix
    join_term sum_before mix_of negs nesting leaf
from_left = refl
