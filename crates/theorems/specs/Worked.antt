-- Document 01, "Calls with their handles": the calls in its order, each with its answer; and 02, M-100, M-101 and M-103 to M-105.
use Rattle.std.specs.Prelude.{◌≡◌, List, [], ◌∷◌, map, Bool, true, false, ℕ, length, Ok, Err}
use Rattle.store_check.specs.Memory.{Memories}
use Rattle.call_rules.specs.Added.{node_counts}
use Rattle.call_rules.specs.declared.Answer.{Answer}
use Rattle.call_rules.specs.declared.Answer.TheVariants.{Handle, Truth, SetNode, RelationNode, Pair, Nothing, Member}
use Rattle.call_rules.specs.declared.Refusal.{Refusal}
use Rattle.call_rules.specs.declared.Refusal.TheVariants.{NotHeld, LevelsDiffer, OutOfRange, UsedUp}
use Rattle.store.specs.Calls.{Call, new_store, set_call, set_read, relation_call, relation_read, image_call, filter_call, path_read}
use Rattle.store.specs.declared.relation_calls.RelationCall.TheVariants as R
use Rattle.store.specs.declared.relation_reads.RelationRead.TheVariants as RR
use Rattle.store.specs.declared.set_calls.SetCall.TheVariants as T
use Rattle.store.specs.declared.set_reads.SetRead.TheVariants as TR
use Rattle.store.specs.declared.image_calls.ImageCall.TheVariants.{Fwd, Bwd, Push, Pull}
use Rattle.store.specs.declared.filter_calls.FilterCall.TheVariants.{Diagonal, Ifwd, Ibwd}
use Rattle.store.specs.declared.path_reads.PathRead.TheVariants.{HasImage, HasPath, FirstPath}
use Rattle.policy_text.specs.Misreads.{misread}
use Rattle.policy_text.specs.declared.Fault.{Fault}
use Rattle.policy_text.specs.declared.Fault.TheVariants.{NotPolicy, NotPredicate}
use Rattle.policies.specs.declared.PolicyRefusal.TheVariants.{At, Store}
use Rattle.theorems.specs.AllCalls.{AnyCall, call, policy, AnyAnswer, answered, read, AnyReply, all_calls}
use Rattle.theorems.specs.Lists.{steps}

-- ROWS of a table: a call and its answer, which may be a handle, yes or no, or a refusal
abbrev pub Expected : Type 0
Expected = AnyCall × AnyAnswer

abbrev pub expects : Call → Answer → Expected
expects c a = (call c, answered (Ok a))

abbrev pub yields : Call → ℕ → Expected
yields c h = expects c (Handle h)

abbrev pub decides : Call → Bool → Expected
decides c b = expects c (Truth b)

abbrev pub refuses : Call → Refusal → Expected
refuses c r = (call c, answered (Err r))

-- a text with its handle, or with its fault and the offset
abbrev pub text_yields : List ℕ → ℕ → Expected
text_yields t h = (policy t, read (Ok h))

abbrev pub text_refused : List ℕ → Fault → ℕ → Expected
text_refused t f i = (policy t, read (Err (At (misread f i))))

-- a row that also has the relation nodes and the set nodes that its call adds
abbrev pub adding : Expected → ℕ → ℕ → AnyCall × AnyReply
adding w r s = (w.0, (w.1, node_counts r s))

-- WHAT IS CLAIMED of a table: its calls, made one after the other on a relation memory of a numbers and a set memory of b, whatever is in
-- them, have its replies, of which `see` is what its rows have
abbrev pub RowsRight : {B : Type 0} → (AnyReply → B) → ℕ → ℕ → List (AnyCall × B) → Type 0
RowsRight see a b t =
    (M : Memories) → length M.relations ≡ a → length M.sets ≡ b → map see (steps all_calls (map (λ w. w.0) t) M).answers ≡ map (λ w. w.1) t

-- of rows with answers alone, and of rows with the nodes added
abbrev pub TableRight : ℕ → ℕ → List Expected → Type 0
TableRight a b t = RowsRight (λ r. r.0) a b t

abbrev pub CountsRight : ℕ → ℕ → List (AnyCall × AnyReply) → Type 0
CountsRight a b t = RowsRight (λ r. r) a b t

-- THE TABLES. 01: "One store, k = 1, in this order."
abbrev pub one_field : List Expected
one_field =
    -- P1 `new`: zero 2, one 3, top 4
    yields (new_store 1) 4
    ∷ yields (relation_call R.Zero) 2
    ∷ yields (relation_call R.One) 3
    ∷ yields (relation_call R.Top) 4
    -- P2 `test(0,true)` 5, P3 `test(0,false)` 6
    ∷ yields (relation_call (R.Test 0 1)) 5
    ∷ yields (relation_call (R.Test 0 0)) 6
    -- P4 `assign(0,true)` 7, P5 `assign(0,false)` 8
    ∷ yields (relation_call (R.Assign 0 1)) 7
    ∷ yields (relation_call (R.Assign 0 0)) 8
    -- P6 `union(5,6)` 3
    ∷ yields (relation_call (R.Union 5 6)) 3
    -- P7 `sequence(5,8)` 9
    ∷ yields (relation_call (R.Sequence 5 8)) 9
    -- P8 `flip(9)` 10
    ∷ yields (relation_call (R.Flip 9)) 10
    -- P9 `star(9)` 11, node (1,0,1,1)
    ∷ yields (relation_call (R.Star 9)) 11
    ∷ expects (relation_read (RR.Get 11)) (RelationNode 1 0 1 1)
    -- P10 `complement(3)` 12
    ∷ yields (relation_call (R.Complement 3)) 12
    -- P11 `star(12)` 4
    ∷ yields (relation_call (R.Star 12)) 4
    -- Sets: P12 `test(0,true)` 4; P13 `push(4,8)` 5; P14 `pull(8,4)` 2
    ∷ yields (set_call (T.Test 0 1)) 4
    ∷ yields (image_call (Push 4 8)) 5
    ∷ yields (image_call (Pull 8 4)) 2
    -- Also `fwd(9)` 5, `bwd(9)` 4, `ifwd(5)` 8
    ∷ yields (image_call (Fwd 9)) 5
    ∷ yields (image_call (Bwd 9)) 4
    ∷ yields (filter_call (Ifwd 5)) 8
    ∷ []

-- 01: "k = 0: zero 0, one 1, top 1."
abbrev pub no_field : List Expected
no_field = yields (new_store 0) 1 ∷ yields (relation_call R.Zero) 0 ∷ yields (relation_call R.One) 1 ∷ yields (relation_call R.Top) 1 ∷ []

-- 01: "Texts at k = 1: empty is 7 at 0; `x00=1` is 7 at 2; `!x0:=1` is 8 at 0."
abbrev pub faults : List Expected
faults =
    yields (new_store 1) 4
    ∷ text_refused [] NotPolicy 0
    ∷ text_refused (120 ∷ 48 ∷ 48 ∷ 61 ∷ 49 ∷ []) NotPolicy 2
    ∷ text_refused (33 ∷ 120 ∷ 48 ∷ 58 ∷ 61 ∷ 49 ∷ []) NotPredicate 0
    ∷ []

-- the text `x0=0+x0=1`
abbrev pub either_value : List ℕ
either_value = 120 ∷ 48 ∷ 61 ∷ 48 ∷ 43 ∷ 120 ∷ 48 ∷ 61 ∷ 49 ∷ []

-- 01, the lister's lines: "For input lines `1`, `x0=0+x0=1`, `1`, `x0=5`": handle 3, handle 3, 7 at 3
abbrev pub lister_lines : List Expected
lister_lines =
    yields (new_store 1) 4
    ∷ text_yields either_value 3
    ∷ text_yields (49 ∷ []) 3
    ∷ text_refused (120 ∷ 48 ∷ 61 ∷ 53 ∷ []) NotPolicy 3
    ∷ []

-- 02, M-104, with the answers that the Rust gives (oracle/): the three signs are one level, from the left, between `+` and `;`
abbrev pub mixed_texts : List Expected
mixed_texts =
    yields (new_store 1) 4
    -- `T`, `T-1`
    ∷ text_yields (84 ∷ []) 4
    ∷ text_yields (84 ∷ 45 ∷ 49 ∷ []) 5
    -- `T-1&1` is `(T-1)&1`; `T-(1&1)`
    ∷ text_yields (84 ∷ 45 ∷ 49 ∷ 38 ∷ 49 ∷ []) 2
    ∷ text_yields (84 ∷ 45 ∷ 40 ∷ 49 ∷ 38 ∷ 49 ∷ 41 ∷ []) 5
    -- `0;T^T` is `(0;T)^T`; `1+T-1` is `1+(T-1)`
    ∷ text_yields (48 ∷ 59 ∷ 84 ∷ 94 ∷ 84 ∷ []) 4
    ∷ text_yields (49 ∷ 43 ∷ 84 ∷ 45 ∷ 49 ∷ []) 4
    -- `!(1&T)`, `!x0=1&!T`
    ∷ text_refused (33 ∷ 40 ∷ 49 ∷ 38 ∷ 84 ∷ 41 ∷ []) NotPredicate 0
    ∷ text_refused (33 ∷ 120 ∷ 48 ∷ 61 ∷ 49 ∷ 38 ∷ 33 ∷ 84 ∷ []) NotPredicate 6
    -- `x0=1&`, `1&-1`
    ∷ text_refused (120 ∷ 48 ∷ 61 ∷ 49 ∷ 38 ∷ []) NotPolicy 5
    ∷ text_refused (49 ∷ 38 ∷ 45 ∷ 49 ∷ []) NotPolicy 2
    ∷ []

-- calls at k = 2 with the answers that the Rust gives (oracle/), every call but `policy` in it or above: the order of creation and the shortcuts
-- decide the handles
abbrev pub two_fields : List Expected
two_fields =
    yields (new_store 2) 7
    ∷ yields (relation_call (R.Test 0 1)) 8
    ∷ yields (relation_call (R.Test 1 0)) 10
    ∷ yields (relation_call (R.Assign 0 1)) 11
    ∷ yields (relation_call (R.Assign 1 0)) 13
    ∷ yields (relation_call (R.Sequence 8 13)) 14
    ∷ yields (relation_call (R.Sequence 11 10)) 15
    ∷ yields (relation_call (R.Union 14 15)) 16
    ∷ yields (relation_call (R.Union 16 11)) 18
    ∷ yields (relation_call (R.Star 18)) 19
    ∷ yields (relation_call (R.Xor 19 10)) 22
    ∷ yields (relation_call (R.Difference 22 8)) 24
    ∷ yields (relation_call (R.Complement 16)) 27
    ∷ yields (relation_call (R.Intersect 24 27)) 28
    ∷ yields (relation_call (R.Flip 28)) 29
    ∷ yields (set_call (T.Test 1 1)) 8
    ∷ yields (set_call (T.Test 0 0)) 11
    ∷ yields (set_call (T.Union 8 11)) 13
    ∷ yields (set_call (T.Ifelse 0 13 8)) 8
    ∷ yields (set_call (T.Xor 13 11)) 14
    ∷ yields (set_call (T.Intersect 14 8)) 14
    ∷ yields (set_call (T.Difference 13 14)) 11
    ∷ yields (image_call (Fwd 28)) 16
    ∷ yields (image_call (Bwd 16)) 19
    ∷ yields (image_call (Push 8 22)) 16
    ∷ yields (image_call (Pull 24 11)) 18
    ∷ yields (filter_call (Diagonal 14)) 30
    ∷ yields (filter_call (Ibwd 11)) 32
    ∷ yields (relation_call (R.NaiveForward 16)) 33
    ∷ yields (relation_call (R.Backward 15)) 35
    ∷ yields (filter_call (Ifwd 14)) 36
    ∷ yields (relation_call R.Zero) 3
    ∷ yields (relation_call R.One) 5
    ∷ yields (relation_call R.Top) 7
    ∷ yields (relation_call (R.Mk 2 4 2 6)) 37
    ∷ yields (set_call T.Zero) 4
    ∷ yields (set_call T.One) 5
    ∷ yields (set_call (T.Mk 6 7)) 20
    -- and those that add nothing
    ∷ expects (relation_read (RR.Get 37)) (RelationNode 2 4 2 6)
    ∷ decides (relation_read (RR.IsZero 37)) false
    ∷ decides (relation_read (RR.Relates 37 0 1)) true
    ∷ decides (relation_read (RR.Relates 37 1 0)) false
    ∷ expects (set_read (TR.Get 19)) (SetNode 7 3)
    ∷ yields (set_read (TR.Complement 18)) 19
    ∷ decides (set_read (TR.IsZero 4)) true
    ∷ decides (set_read (TR.Intersects 14 8)) true
    ∷ decides (set_read (TR.Intersects 14 11)) false
    ∷ decides (path_read (HasImage 9 15)) true
    ∷ decides (path_read (HasImage 8 15)) false
    ∷ decides (path_read (HasPath 11 15 10)) true
    ∷ decides (path_read (HasPath 10 15 11)) false
    ∷ []

-- 02, M-100: the pairs (01, 00) and (00, 10) alone, field 0 first, as handle 10, of which the latter is first
abbrev pub first_pairs : List Expected
first_pairs =
    yields (new_store 2) 7
    ∷ yields (relation_call (R.Mk 0 0 1 0)) 8
    ∷ yields (relation_call (R.Mk 1 0 0 0)) 9
    ∷ yields (relation_call (R.Mk 8 9 2 2)) 10
    ∷ yields (set_call (T.Test 0 0)) 7
    ∷ expects (path_read (FirstPath 5 10 5)) (Pair 0 1)
    ∷ expects (path_read (FirstPath 5 10 7)) (Pair 2 0)
    ∷ expects (path_read (FirstPath 4 10 5)) Nothing
    ∷ refuses (path_read (FirstPath 3 10 99)) NotHeld
    ∷ refuses (path_read (FirstPath 3 10 5)) LevelsDiffer
    -- at level 0
    ∷ expects (path_read (FirstPath 1 1 1)) (Pair 0 0)
    ∷ expects (path_read (FirstPath 1 0 1)) Nothing
    ∷ []

-- a call of `next` with the set h, the last packet x and the marks g and e
abbrev pub next : ℕ → ℕ → ℕ → ℕ → Call
next h x g e = set_read (TR.Next (record { handle = h; last = x; given = g; ended = e }))

-- 02, M-103: the full set of two fields, packet by packet, and then the end; the set of the packets that begin with 1, as handle 6
abbrev pub members_in_turn : List Expected
members_in_turn =
    yields (new_store 2) 7
    ∷ yields (set_call (T.Test 0 1)) 6
    ∷ expects (next 5 0 0 0) (Member 0)
    ∷ expects (next 5 0 1 0) (Member 2)
    ∷ expects (next 5 2 1 0) (Member 1)
    ∷ expects (next 5 1 1 0) (Member 3)
    ∷ expects (next 5 3 1 0) Nothing
    -- the end was met: it stays, whatever was given; any number but 0 is a mark
    ∷ expects (next 5 0 1 1) Nothing
    ∷ expects (next 5 0 7 9) Nothing
    -- the last packet need not be a member, nor is it looked at where none was given
    ∷ expects (next 6 0 7 0) (Member 1)
    ∷ expects (next 6 2 1 0) (Member 1)
    ∷ expects (next 6 77 0 0) (Member 1)
    ∷ expects (next 4 77 0 0) Nothing
    -- 2 and 5 come before the end
    ∷ refuses (next 99 4 1 1) NotHeld
    ∷ refuses (next 5 4 1 1) OutOfRange
    -- at level 0
    ∷ expects (next 1 0 0 0) (Member 0)
    ∷ expects (next 1 0 1 0) Nothing
    ∷ expects (next 0 0 0 0) Nothing
    ∷ refuses (next 1 1 1 0) OutOfRange
    ∷ []

-- 02, M-105: "For k = 2, `x0=1` passes 1 and 3"
abbrev pub packet_numbers : List Expected
packet_numbers =
    yields (new_store 2) 7
    ∷ text_yields (120 ∷ 48 ∷ 61 ∷ 49 ∷ []) 8
    ∷ decides (relation_read (RR.Relates 8 0 0)) false
    ∷ decides (relation_read (RR.Relates 8 1 1)) true
    ∷ decides (relation_read (RR.Relates 8 2 2)) false
    ∷ decides (relation_read (RR.Relates 8 3 3)) true
    -- `x0:=1` leads from 2 to 3, and not from 0 to 2
    ∷ text_yields (120 ∷ 48 ∷ 58 ∷ 61 ∷ 49 ∷ []) 9
    ∷ decides (relation_read (RR.Relates 9 2 3)) true
    ∷ decides (relation_read (RR.Relates 9 0 2)) false
    -- the bound is that of the handle's own level: 4 is the identity of level 1
    ∷ refuses (relation_read (RR.Relates 9 4 0)) OutOfRange
    ∷ decides (relation_read (RR.Relates 4 1 1)) true
    ∷ refuses (relation_read (RR.Relates 4 2 2)) OutOfRange
    ∷ []

-- 02, M-101: a text whose handle was held before, and which adds two nodes; again, and it adds none
abbrev pub added : List (AnyCall × AnyReply)
added =
    adding (yields (new_store 1) 4) 3 1
    ∷ adding (text_yields either_value 3) 2 0
    ∷ adding (text_yields either_value 3) 0 0
    -- `mk` that appends, and `mk` of a node that is held; a set's node is held without its sign
    ∷ adding (yields (relation_call (R.Mk 0 1 1 0)) 7) 1 0
    ∷ adding (yields (relation_call (R.Mk 0 1 1 0)) 7) 0 0
    ∷ adding (yields (set_call (T.Mk 0 1)) 4) 0 1
    ∷ adding (yields (set_call (T.Mk 1 0)) 5) 0 0
    -- refused calls, and one that only reads
    ∷ adding (refuses (set_call (T.Mk 9 9)) NotHeld) 0 0
    ∷ adding (refuses (new_store 33) OutOfRange) 0 0
    ∷ adding (decides (set_read (TR.IsZero 4)) false) 0 0
    -- `new` over a used store
    ∷ adding (yields (new_store 1) 4) 3 1
    ∷ []

-- the same text where there are four places for relations: 6, and nothing is added
abbrev pub none_added : List (AnyCall × AnyReply)
none_added = adding (yields (new_store 1) 4) 3 1 ∷ adding (policy either_value, read (Err (Store UsedUp))) 0 0 ∷ []

-- WHAT IS CLAIMED of them. Numbers that 01 does not give are the least that hold the nodes of the table
pub record Worked : Type 0 where
  pub handles : TableRight 46 5 one_field
  pub no_fields : TableRight 2 1 no_field
  -- 01: "k 32 accepted, 33 declined with 5."
  pub most_fields : TableRight 386 65 (yields (new_store 32) 97 ∷ [])
  pub too_many_fields : (a b : ℕ) → TableRight a b (refuses (new_store 33) OutOfRange ∷ [])
  -- 01: "k = 1: relation memory of 14 numbers suffices, 13 gives 6; set memory 3, and 2 gives 6."
  pub suffices : TableRight 14 3 (yields (new_store 1) 4 ∷ [])
  pub short_relations : TableRight 13 3 (refuses (new_store 1) UsedUp ∷ [])
  pub short_sets : TableRight 14 2 (refuses (new_store 1) UsedUp ∷ [])
  pub policies : TableRight 14 3 faults
  pub listed : TableRight 22 3 lister_lines
  pub mixed : TableRight 18 3 mixed_texts
  pub ordered : TableRight 146 21 two_fields
  pub first : TableRight 38 7 first_pairs
  pub members : TableRight 26 7 members_in_turn
  pub numbered : TableRight 34 5 packet_numbers
  pub added_nodes : CountsRight 26 5 added
  pub used_up : CountsRight 18 3 none_added
