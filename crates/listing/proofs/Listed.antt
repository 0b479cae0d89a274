-- One policy's line more, and the whole listing, from what each function writes.
use mathlib.Core.Path.{◌≡◌, refl, sym, ap, ◌∙◌}
use mathlib.Core.List.{List, [], ◌∷◌, ◌++◌, append_assoc}
use Prim.Native.Nat.{ℕ, suc, ◌+◌, ◌*◌, ◌<◌, ◌≤◌}
use native.Mathlib.Omega.{arith}
use Rattle.std.specs.List.{IsFirstMatchOrLen}
use Rattle.std.specs.Prelude.{min, Option, Some}
use lib.ListN.{length, take, drop, replicate, length-take}
use lib.Seq.{take_all, take-nil, length-take-le}
use lib.Dec.{eqb, leb}
use borrow.Author.Tests.{leb-true, leb-false, le-leb, lt-leb}
use Rattle.model.specs.Store.{set, rel, arity, pick}
use Rattle.model.proofs.Bools.{by_test}
use Rattle.store_check.specs.Memory.{Memories, memories, head}
use Rattle.policies.specs.Outcome.{policy_step}
use Rattle.call_rules.specs.OnMemories.{new_step}
use Rattle.call_rules.specs.Outcome.{Outcome, outcome}
use Rattle.call_rules.specs.declared.Answer.{Answer}
use Rattle.call_rules.specs.declared.Refusal.{Refusal}
use Rattle.std.specs.Prelude.{Result}
use Rattle.listing.specs.Lines.{lines}
use Rattle.listing.specs.Listing.{answer_line, first_line, last_line, policy_lines, zeroed, listed, of_lines, width_of, too_long, listing}
use Rattle.listing.specs.Writing.{AddsFew, PolicyLine, PolicyLines}
use Rattle.listing.proofs.Splitting.{first_length, some_line, next_line}

-- what is written and what is left to write
abbrev pub rest : ℕ → List ℕ → ℕ → List (List ℕ) → Memories → List ℕ
rest at o i ts M = take at o ++ policy_lines i ts M

pub one_more : {t : List ℕ} {i : ℕ} {M M' : Memories} {at r : ℕ} {o o' : List ℕ} (ts : List (List ℕ)) → PolicyLine t i M M' at o o' r
    → rest at o i (t ∷ ts) M ≡ rest r o' (i + 1) ts M'
unfolding policy_lines
one_more {t} {i} {M} {M'} {at} {r} {o} {o'} ts p =
    let tail = policy_lines (i + 1) ts (policy_step t M).state in
    sym (append_assoc (take at o) (answer_line i (policy_step t M).answer) tail)
    ∙ (ap (λ (l : List ℕ). l ++ tail) (sym p.adds.adds.text) ∙ ap (λ (N : Memories). take r o' ++ policy_lines (i + 1) ts N) (sym p.state))

-- the next line of the policies that are left: the piece x has it, and r is what is left after that
pub line_more : {n i k : ℕ} {t : List ℕ} (x r : List ℕ) {M M' : Memories} {at at' : ℕ} {o o' : List ℕ} → t ≡ x ++ r
    → length x ≡ min (k + 1) (length t) → IsFirstMatchOrLen (λ b. eqb b 10) t k → 0 < length t → n ≡ first_length x
    → PolicyLine (take n x) i M M' at o o' at' → rest at o i (lines t) M ≡ rest at' o' (i + 1) (lines r) M'
line_more {i = i} x r {M = M} {at = at} {o = o} cut long first some is p =
    ap (λ (ls : List (List ℕ)). take at o ++ policy_lines i ls M) (next_line x r cut long first some is) ∙ one_more (lines r) p

-- no line is left
pub no_more : (i : ℕ) (M : Memories) (at : ℕ) (o t : List ℕ) → length t ≡ 0 → rest at o i (lines t) M ≡ take at o ++ last_line M
unfolding policy_lines lines
no_more i M at o [] none = refl
no_more i M at o (b ∷ t) none = absurd (omega arith)

-- THE WHOLE, where k is right
pub whole : (k n r s : ℕ) (ts : List (List ℕ)) (M M' : Memories) (a b e : ℕ) (o o' o'' o''' : List ℕ)
    → r ≡ head rel + arity rel * 2048 → s ≡ head set + arity set * 2048 → M ≡ (new_step k (zeroed r s)).state → AddsFew 64 0 (first_line k) o o' a
    → PolicyLines n ts M M' a o' o'' b → AddsFew 64 b (last_line M') o'' o''' e → take e o''' ≡ listed (Some k) ts
unfolding listed
whole k n r s ts M M' a b e o o' o'' o''' er es begun first all last =
    last.adds.text
    ∙ (sym all.text
    ∙ (ap (λ (l : List ℕ). l ++ policy_lines 1 ts M) first.adds.text
    ∙ (ap (λ (N : Memories). first_line k ++ policy_lines 1 ts N) begun
    ∙ λ i. first_line k ++ policy_lines 1 ts (new_step k (zeroed (er i) (es i))).state)))

-- the first line of the input, and the others
pub first_read : (x : List ℕ) (to : ℕ) → to ≡ first_length x → of_lines (lines x) ≡ listed (width_of (take to x)) (lines (drop (to + 1) x))
unfolding of_lines width_of lines listed
first_read [] to e = ap (λ (l : List ℕ). listed (width_of l) (lines (drop (to + 1) []))) (sym (take-nil to))
first_read (b ∷ t) to e =
    let past : suc to ≡ to + 1 = omega arith in
    ap of_lines (some_line (b ∷ t) to (omega arith) e) ∙ ap (λ (j : ℕ). listed (width_of (take to (b ∷ t))) (lines (drop j (b ∷ t)))) past

-- THE LISTING, of an input that is not too long
pub listing_of : (x : List ℕ) (to : ℕ) (v : Option ℕ) → length x ≤ 16384 → to ≡ first_length x → v ≡ width_of (take to x)
    → listed v (lines (drop (to + 1) x)) ≡ listing x
unfolding listing
listing_of x to v short e read = let ls = lines (drop (to + 1) x) in
    ap (λ (u : Option ℕ). listed u ls) read
    ∙ (sym (first_read x to e) ∙ ap (λ b. pick b (of_lines (lines x)) too_long) (sym (le-leb (length x) 16384 short)))

pub listing_long : (x : List ℕ) → 16384 < length x → too_long ≡ listing x
unfolding listing
listing_long x long = ap (λ b. pick b (of_lines (lines x)) too_long) (sym (lt-leb (length x) 16384 long))

-- one byte more than is listed tells whether a text is too long
listing_read : (t : List ℕ) → listing (take 16385 t) ≡ listing t
listing_read t =
    by_test (λ _. listing (take 16385 t) ≡ listing t) (leb (length t) 16384)
    (λ e. ap listing (take_all 16385 t (omega (arith, leb-true (length t) 16384 e))))
    (λ e.
    let long : 16384 < length t = leb-false (length t) 16384 e in
    sym (listing_long (take 16385 t) (rw (length-take-le 16385 t long) (omega arith))) ∙ listing_long t long)

-- of n bytes asked for so many are there, where they may be listed, and else more than may be
pub few_there : (n : ℕ) (b : List ℕ) → length b ≡ 16385 → n ≤ 16384 → length (take n b) ≡ n
few_there n b all few = length-take-le n b (omega (arith, all, few))

pub many_there : (n : ℕ) (b : List ℕ) → length b ≡ 16385 → 16384 < n → 16384 < length (take n b)
many_there n b all many = omega (arith, all, many, length-take n b)

-- of a text that begins with n bytes of b, or with all of them and goes on, the listing is that of the n bytes
pub of_text : (n : ℕ) (b t : List ℕ) → length b ≡ 16385 → take (length b) t ≡ take n b → listing (take n b) ≡ listing t
of_text n b t all e = ap listing (sym e) ∙ (ap (λ (m : ℕ). listing (take m t)) all ∙ listing_read t)

-- a new store in cleared memories
pub begun : (k : ℕ) (a : Result Answer Refusal) (r s r₀ s₀ r' s' : List ℕ) → r ≡ replicate (length r₀) 0 → s ≡ replicate (length s₀) 0
    → outcome a (memories r' s') ≡ new_step k (memories r s) → memories r' s' ≡ (new_step k (zeroed (length r₀) (length s₀))).state
unfolding zeroed
begun k a r s r₀ s₀ r' s' er es e = ap (λ (t : Outcome (Result Answer Refusal) Memories). t.state) e ∙ λ i. (new_step k (memories (er i) (es i))).state
