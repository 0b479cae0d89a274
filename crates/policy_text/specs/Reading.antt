-- What a text reads as for k fields, from its bytes, in the order of 01, "What each operation declines, in order": "7 .. or 9 ..;
-- 5, at the first `x` whose N is k or more; 8, at the first offending `!`".
use Rattle.std.specs.Prelude.{ℕ, ◌+◌, ◌-◌, List, [], ◌∷◌, Bool, true, false, cond, not, ◌&&◌, eqb, Option, Some, None, Ok, Err}
use Rattle.policy_text.specs.Lexicon.{Lexicon}
use Rattle.policy_text.specs.Machine.{Out, accept, bad, deep, reads}
use Rattle.policy_text.specs.Misreads.{misread, Reading}
use Rattle.policy_text.specs.declared.Fault.{Fault}

-- the first offset, from i on, where the text that is left passes a test
unfoldable pub first : (List ℕ → Bool) → ℕ → List ℕ → Option ℕ
first test i [] = None
first test i (b ∷ s) = cond (test (b ∷ s)) (Some i) (first test (i + 1) s)

-- inside a spelling: a test, so `=` comes before any `:`
unfoldable pub is_test : List ℕ → Bool
is_test [] = true
is_test (b ∷ s) = cond (eqb b 58) false (cond (eqb b 61) true (is_test s))

-- how many parentheses are open after a byte
unfoldable pub open_after : ℕ → ℕ → ℕ
open_after b n = cond (eqb b 40) (n + 1) (cond (eqb b 41) (n - 1) n)

-- no `:`, `*` or `T` up to the `)` that closes the first of n parentheses
unfoldable pub is_clean_inside : List ℕ → ℕ → Bool
is_clean_inside [] n = true
is_clean_inside (b ∷ s) n =
    cond (eqb n 0) true (cond (eqb b 58) false (cond (eqb b 42) false (cond (eqb b 84) false (is_clean_inside s (open_after b n)))))

-- no `:`, `*` or `T` in the atom that a text begins with
unfoldable pub is_clean : Lexicon → List ℕ → Bool
is_clean X [] = true
is_clean X (b ∷ s) = cond (eqb b 40) (is_clean_inside s 1) (cond (X.does_start b) (is_test s) (cond (eqb b 33) (is_clean X s) (not (eqb b 84))))

-- `!` before an operand with `:`, `*` or `T`
unfoldable pub does_offend : Lexicon → List ℕ → Bool
does_offend X [] = false
does_offend X (b ∷ s) = eqb b 33 && not (is_clean X s)

-- 5, then 8
unfoldable pub rules : Option ℕ → Option ℕ → Reading
rules (Some i) found = Err (misread Fault.NoField i)
rules None (Some i) = Err (misread Fault.NotPredicate i)
rules None None = Ok tt

unfoldable pub reading_of : Lexicon → ℕ → List ℕ → Out → Reading
reading_of X k t (bad i) = Err (misread Fault.NotPolicy i)
reading_of X k t (deep i) = Err (misread Fault.TooDeep i)
reading_of X k t (accept p) = rules (first (X.is_outside k) 0 t) (first (does_offend X) 0 t)

unfoldable pub reading : Lexicon → ℕ → List ℕ → Reading
reading X k t = reading_of X k t (reads X t)
