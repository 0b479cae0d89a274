-- WHAT THE LISTER WRITES for the bytes that it reads: 01, "The lister reads standard input". Bytes are in ASCII, 10 the newline.
use Rattle.std.specs.Prelude.{not, ◌&&◌, List, [], ◌∷◌, ◌++◌, ℕ, ◌+◌, ◌-◌, ◌*◌, leb, eqb, length, replicate, Ok, Err, Option, Some, None}
use Rattle.model.specs.Store.{set, rel, arity, pick}
use Rattle.store_check.specs.Memory.{Memories, memories, head, count}
use Rattle.call_rules.specs.OnMemories.{new_step}
use Rattle.policy_text.specs.XForms.{is_digit_byte}
use Rattle.policies.specs.Answers.{PolicyAnswer, policy_number, policy_values}
use Rattle.policies.specs.Outcome.{policy_step}
use Rattle.listing.specs.Decimal.{decimal}
use Rattle.listing.specs.Lines.{lines}

-- THE FIRST LINE: k, "written as N is and at most 32"; "N is one or two decimal digits without a leading zero"
unfoldable pub at_most_32 : ℕ → Option ℕ
at_most_32 n = pick (leb n 32) (Some n) None

unfoldable pub one_digit : ℕ → Option ℕ
one_digit a = pick (is_digit_byte a) (at_most_32 (a - 48)) None

unfoldable pub two_digits : ℕ → ℕ → Option ℕ
two_digits a b = pick (not (eqb a 48) && (is_digit_byte a && is_digit_byte b)) (at_most_32 (10 * (a - 48) + (b - 48))) None

unfoldable pub width_of : List ℕ → Option ℕ
width_of [] = None
width_of (a ∷ []) = one_digit a
width_of (a ∷ b ∷ []) = two_digits a b
width_of (a ∷ b ∷ c ∷ l) = None

-- THE LINES WRITTEN. `k K`
unfoldable pub first_line : ℕ → List ℕ
first_line k = ((107 ∷ 32 ∷ []) ++ decimal k) ++ (10 ∷ [])

-- a space and the offset, where a refusal carries one
unfoldable pub shown_offset : List ℕ → List ℕ
shown_offset [] = []
shown_offset (i ∷ is) = (32 ∷ []) ++ decimal i

-- a space and `hH`, or `rR` and the offset
unfoldable pub shown : PolicyAnswer → List ℕ
shown (Ok h) = (32 ∷ 104 ∷ []) ++ decimal h
shown (Err r) = ((32 ∷ 114 ∷ []) ++ decimal (policy_number r)) ++ shown_offset (policy_values (Err r))

-- the number of a policy and its answer
unfoldable pub answer_line : ℕ → PolicyAnswer → List ℕ
answer_line i a = (decimal i ++ shown a) ++ (10 ∷ [])

-- `nodes n m`
unfoldable pub nodes_line : ℕ → ℕ → List ℕ
nodes_line n m = (((110 ∷ 111 ∷ 100 ∷ 101 ∷ 115 ∷ 32 ∷ []) ++ decimal n) ++ ((32 ∷ []) ++ decimal m)) ++ (10 ∷ [])

abbrev pub last_line : Memories → List ℕ
last_line M = nodes_line (count rel M.relations) (count set M.sets)

-- the policies from number i on, each on the memories as the one before left them
unfoldable pub policy_lines : ℕ → List (List ℕ) → Memories → List ℕ
policy_lines i [] M = last_line M
policy_lines i (t ∷ ts) M = answer_line i (policy_step t M).answer ++ policy_lines (i + 1) ts (policy_step t M).state

-- "It lends 2,048 places of each kind", all numbers zero
unfoldable pub zeroed : ℕ → ℕ → Memories
zeroed r s = memories (replicate r 0) (replicate s 0)

abbrev pub bad_k : List ℕ
bad_k = 98 ∷ 97 ∷ 100 ∷ 32 ∷ 107 ∷ 10 ∷ []

-- `bad k` alone, or all lines
unfoldable pub listed : Option ℕ → List (List ℕ) → List ℕ
listed (Some k) ts = first_line k ++ policy_lines 1 ts (new_step k (zeroed (head rel + arity rel * 2048) (head set + arity set * 2048))).state
listed None ts = bad_k

-- a policy a line after the first; where there is none, `bad k`
unfoldable pub of_lines : List (List ℕ) → List ℕ
of_lines [] = listed None []
of_lines (l ∷ ts) = listed (width_of l) ts

abbrev pub too_long : List ℕ
too_long = 116 ∷ 111 ∷ 111 ∷ 32 ∷ 108 ∷ 111 ∷ 110 ∷ 103 ∷ 10 ∷ []

-- "at most 16,384 bytes (else it prints only `too long`)"
unfoldable pub listing : List ℕ → List ℕ
listing t = pick (leb (length t) 16384) (of_lines (lines t)) too_long
