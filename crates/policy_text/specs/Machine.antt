-- The reader of policy texts, byte by byte: a state, what a byte does to it, and the scan of a text, which stops at the first
-- byte that cannot stand there (7) or the first `(` or `!` inside 32 others (9); 01, "What each operation declines, in order".
use Rattle.std.specs.Prelude.{ℕ, zero, suc, ◌+◌, List, [], ◌∷◌, ◌++◌, Bool, true, false, cond, ◌||◌, ltb, eqb}
use Rattle.model.specs.Policies.{Mix, Policy}
use Rattle.policy_text.specs.Lexicon.{Whole, unspelt, field, Lexicon}

-- the left operand of a join: none yet, or what was read so far
pub data Acc : Type 0 where
  nothing : Acc
  sofar : Policy → Acc

-- what stands before a product: the sum before its term and, where the product is not the term's first, the sign and what that joins it to
pub data Left : Type 0 where
  opening : Acc → Left
  joining : Acc → Mix → Policy → Left

-- an open parenthesis: the sum with the term, and the product, that it is in, and how many `!` are right before it
pub data Frame : Type 0 where
  paren : Left → Acc → ℕ → Frame

-- inside a test or an assignment: after these bytes of a spelling; after `:`; after `=`, of an assignment or not
pub data Mid : Type 0 where
  spelt : List ℕ → Mid
  colon : ℕ → Mid
  bit : Bool → ℕ → Mid

-- an atom has to begin, after n `!`; inside a test or an assignment; after a starred item
pub data State : Type 0 where
  need : Left → Acc → ℕ → List Frame → State
  inside : Mid → Left → Acc → ℕ → List Frame → State
  post : Policy → Left → Acc → List Frame → State

-- what a byte does inside a test or an assignment: the test or assignment is longer, it ends with the policy, or the byte cannot be there
pub data MidStep : Type 0 where
  more : Mid → MidStep
  whole : Policy → MidStep
  not_mid : MidStep

-- what a byte does: the next state, or 7, or 9
pub data ByteStep : Type 0 where
  go : State → ByteStep
  stop : ByteStep
  over : ByteStep

-- what a text reads as: a policy, or 7 or 9 at an offset
pub data Out : Type 0 where
  accept : Policy → Out
  bad : ℕ → Out
  deep : ℕ → Out

-- n `!` before an atom
unfoldable pub negs : ℕ → Policy → Policy
negs zero p = p
negs (suc n) p = negs n (Policy.negates p)

unfoldable pub join_seq : Acc → Policy → Policy
join_seq nothing q = q
join_seq (sofar p) q = Policy.seq p q

unfoldable pub join_plus : Acc → Policy → Policy
join_plus nothing q = q
join_plus (sofar p) q = Policy.plus p q

-- the sum before a term; the term, and the sum, that a product ends
unfoldable pub sum_before : Left → Acc
sum_before (opening sa) = sa
sum_before (joining sa m p) = sa

unfoldable pub join_mix : Left → Policy → Policy
join_mix (opening sa) q = q
join_mix (joining sa m p) q = Policy.mixes m p q

unfoldable pub join_term : Left → Policy → Policy
join_term l q = join_plus (sum_before l) (join_mix l q)

-- how many `(` and `!` are around what is in these parentheses
unfoldable pub nesting : List Frame → ℕ
nesting [] = 0
nesting (paren sa pa n ∷ σ) = suc (n + nesting σ)

-- an assignment or a test
unfoldable pub leaf : Bool → ℕ → Bool → Policy
leaf true n v = Policy.assigns n v
leaf false n v = Policy.tests n v

-- after a spelling: `=` or `:`
unfoldable pub after_name : Whole → ℕ → MidStep
after_name unspelt b = not_mid
after_name (field n) b = cond (eqb b 61) (more (bit false n)) (cond (eqb b 58) (more (colon n)) not_mid)

unfoldable pub mid_step : Lexicon → Mid → ℕ → MidStep
mid_step X (spelt s) b = cond (X.does_begin (s ++ (b ∷ []))) (more (spelt (s ++ (b ∷ [])))) (after_name (X.is_whole s) b)
mid_step X (colon n) b = cond (eqb b 61) (more (bit true n)) not_mid
mid_step X (bit k n) b = cond (eqb b 48) (whole (leaf k n false)) (cond (eqb b 49) (whole (leaf k n true)) not_mid)

unfoldable pub mid_go : MidStep → Left → Acc → ℕ → List Frame → ByteStep
mid_go (more m) sa pa n σ = go (inside m sa pa n σ)
mid_go (whole p) sa pa n σ = go (post (negs n p) sa pa σ)
mid_go not_mid sa pa n σ = stop

-- a `)` closes the innermost parenthesis
unfoldable pub close : Policy → Left → Acc → List Frame → ByteStep
close v sa pa [] = stop
close v sa pa (paren sb pb n ∷ σ) = go (post (negs n (join_term sa (join_seq pa v))) sb pb σ)

-- `&`, `-` or `^`; which of them
abbrev pub does_mix : ℕ → Bool
does_mix b = (eqb b 38 || eqb b 45) || eqb b 94

unfoldable pub mix_of : ℕ → Mix
mix_of b = cond (eqb b 38) Mix.both (cond (eqb b 45) Mix.minus Mix.either)

-- what a byte does, where an atom may nest L deep
unfoldable pub byte_step : Lexicon → ℕ → State → ℕ → ByteStep
byte_step X L (need sa pa n σ) b =
    cond (eqb b 48) (go (post (negs n Policy.fail) sa pa σ))
    (cond (eqb b 49) (go (post (negs n Policy.skip) sa pa σ))
    (cond (eqb b 84) (go (post (negs n Policy.full) sa pa σ))
    (cond (eqb b 33) (cond (ltb (n + nesting σ) L) (go (need sa pa (suc n) σ)) over)
    (cond (eqb b 40) (cond (ltb (n + nesting σ) L) (go (need (opening nothing) nothing 0 (paren sa pa n ∷ σ))) over)
    (cond (X.does_begin (b ∷ [])) (go (inside (spelt (b ∷ [])) sa pa n σ))
    stop)))))
byte_step X L (inside m sa pa n σ) b = mid_go (mid_step X m b) sa pa n σ
byte_step X L (post v sa pa σ) b =
    cond (eqb b 42) (go (post (Policy.stars v) sa pa σ))
    (cond (eqb b 59) (go (need sa (sofar (join_seq pa v)) 0 σ))
    (cond (does_mix b) (go (need (joining (sum_before sa) (mix_of b) (join_mix sa (join_seq pa v))) nothing 0 σ))
    (cond (eqb b 43) (go (need (opening (sofar (join_term sa (join_seq pa v)))) nothing 0 σ))
    (cond (eqb b 41) (close v sa pa σ)
    stop))))

-- where the text ends, at the offset
unfoldable pub final : State → ℕ → Out
final (need sa pa n σ) at = bad at
final (inside m sa pa n σ) at = bad at
final (post v sa pa []) at = accept (join_term sa (join_seq pa v))
final (post v sa pa (f ∷ σ)) at = bad at

unfoldable pub onward : ByteStep → (State → Out) → ℕ → Out
onward (go q) k at = k q
onward stop k at = bad at
onward over k at = deep at

-- the scan from an offset over the text that is left
unfoldable pub scan : Lexicon → ℕ → State → ℕ → List ℕ → Out
scan X L q at [] = final q at
scan X L q at (b ∷ s) = onward (byte_step X L q b) (λ r. scan X L r (at + 1) s) at

abbrev pub start : State
start = need (opening nothing) nothing 0 []

unfoldable pub reads : Lexicon → List ℕ → Out
reads X s = scan X 32 start 0 s
