-- What the functions of `syntax` promise: each moves the scan over the part of the text that it read, whatever is around it.
use Rattle.std.specs.Prelude.{◌≡◌, ℕ, ◌+◌, ◌≤◌, ◌<◌, List, [], ◌∷◌, ◌++◌, Bool, false, ◌||◌, length, drop, get_or, eqb, Result, Ok, Err}
use Rattle.model.specs.Policies.{Policy}
use Rattle.policy_text.specs.Lexicon.{field, Lexicon}
use Rattle.policy_text.specs.Machine.{Acc, Left, Frame, State, need, inside, spelt, post, Out, accept, bad, deep, nesting, does_mix, scan}
use Rattle.policy_text.specs.Misreads.{misread, Reading}
use Rattle.policy_text.specs.declared.Fault.{Fault}
use Rattle.policy_text.specs.declared.Misread.{Misread}
use Rattle.policy_text.specs.declared.Rank.{Rank}

-- the scan over what is left of the text from an offset on
unfoldable pub scan_at : Lexicon → List ℕ → State → ℕ → Out
scan_at X t q at = scan X 32 q at (drop at t)

-- what a text reads as by the grammar alone
unfoldable pub read_of : Out → Reading
read_of (accept p) = Ok tt
read_of (bad i) = Err (misread Fault.NotPolicy i)
read_of (deep i) = Err (misread Fault.TooDeep i)

-- the byte at an offset, or the refusal where the text ends before it
abbrev pub ByteAt : List ℕ → ℕ → Result ℕ Misread → Type 0
ByteAt t at (Ok b) = (at < length t) × (get_or t at 0 ≡ b)
ByteAt t at (Err m) = (length t ≤ at) × (m ≡ misread Fault.NotPolicy at)

-- the depth of what follows a `(` or a `!`, or the refusal inside 32 others
abbrev pub DeeperAt : ℕ → ℕ → Result ℕ Misread → Type 0
DeeperAt at d (Ok e) = (d < 32) × (e ≡ d + 1)
DeeperAt at d (Err m) = (32 ≤ d) × (m ≡ misread Fault.TooDeep at)

abbrev pub Open : Type 0
Open = Left → Acc → ℕ → List Frame → State

-- from the open state q at `at`, nested d deep, the text reads an atom up to e, or it is refused
unfoldable pub AtomPost : Lexicon → List ℕ → ℕ → Open → ℕ → Result ℕ Misread → Type 0
AtomPost X t d q at (Ok e) = (at ≤ e) × (e ≤ length t)
    × ((sa : Left) (pa : Acc) (n : ℕ) (σ : List Frame) → n + nesting σ ≡ d → (v : Policy) × (scan_at X t (q sa pa n σ) at ≡ scan_at X t (post v sa pa σ) e))
AtomPost X t d q at (Err m) = (sa : Left) (pa : Acc) (n : ℕ) (σ : List Frame) → n + nesting σ ≡ d → read_of (scan_at X t (q sa pa n σ) at) ≡ Err m

-- after a spelling that the next byte does not make longer
unfoldable pub RelationPost : Lexicon → List ℕ → ℕ → Result ℕ Misread → Type 0
RelationPost X t at r = (s : List ℕ) (n d : ℕ) → X.is_whole s ≡ field n → (at < length t → X.does_begin (s ++ (get_or t at 0 ∷ [])) ≡ false)
    → AtomPost X t d (inside (spelt s)) at r

-- the bytes that make a starred item, a product, a term or a sum longer
abbrev pub continues_starred : ℕ → Bool
continues_starred b = eqb b 42

abbrev pub continues_product : ℕ → Bool
continues_product b = eqb b 42 || eqb b 59

abbrev pub continues_term : ℕ → Bool
continues_term b = continues_product b || does_mix b

abbrev pub continues_sum : ℕ → Bool
continues_sum b = continues_term b || eqb b 43

-- the bytes that make a part of a rank longer, those that join its parts, and both: those that make the rank longer
abbrev pub continues_part : Rank → ℕ → Bool
continues_part Rank.Product = continues_starred
continues_part Rank.Term = continues_product
continues_part Rank.Sum = continues_term

abbrev pub does_join : Rank → ℕ → Bool
does_join Rank.Product b = eqb b 59
does_join Rank.Term b = does_mix b
does_join Rank.Sum b = eqb b 43

abbrev pub continues_rank : Rank → ℕ → Bool
continues_rank r b = continues_part r b || does_join r b

-- from the start of an operand at `at`, nested d deep, the text reads up to e, where no byte follows that makes it longer, or it is refused
unfoldable pub JoinPost : Lexicon → (ℕ → Bool) → List ℕ → ℕ → ℕ → Result ℕ Misread → Type 0
JoinPost X longer t d at (Ok e) = (at ≤ e) × (e ≤ length t) × (e < length t → longer (get_or t e 0) ≡ false)
    × ((sa : Left) (pa : Acc) (σ : List Frame) → nesting σ ≡ d
    → (sb : Left) × (pb : Acc) × (v : Policy) × (scan_at X t (need sa pa 0 σ) at ≡ scan_at X t (post v sb pb σ) e))
JoinPost X longer t d at (Err m) = (sa : Left) (pa : Acc) (σ : List Frame) → nesting σ ≡ d → read_of (scan_at X t (need sa pa 0 σ) at) ≡ Err m

-- the stars after an item
unfoldable pub StarsPost : Lexicon → List ℕ → ℕ → ℕ → Type 0
StarsPost X t at e = (at ≤ e) × (e ≤ length t) × (e < length t → continues_starred (get_or t e 0) ≡ false)
    × ((v : Policy) (sa : Left) (pa : Acc) (σ : List Frame) → (u : Policy) × (scan_at X t (post v sa pa σ) at ≡ scan_at X t (post u sa pa σ) e))
