-- One number more of a line.
use mathlib.Core.Path.{◌≡◌, sym, ap, subst, ◌∙◌}
use mathlib.Core.List.{List, [], ◌∷◌, ◌++◌, append_assoc, append-nil}
use Prim.Native.Nat.{ℕ, ◌+◌, ◌<◌}
use native.Mathlib.Numerals.{add-one}
use lib.ListN.{length, take, set, get_or}
use lib.Seq.{take-suc-set}
use Rattle.replay.specs.Numbers.{Spells, Rest, none, more}

-- what is read so far is before whatever the rest of the line has
abbrev pub So_far : List ℕ → ℕ → ℕ → List ℕ → Type 0
So_far line from at xs = (ys : List ℕ) → Rest line at ys → Rest line from (xs ++ ys)

-- a number that is put in its place
put_next : (x ys : List ℕ) (n v : ℕ) → n < length x → take n x ++ (v ∷ ys) ≡ take (n + 1) (set x n v) ++ ys
put_next x ys n v within = sym (
    ap (λ (k : ℕ). take k (set x n v) ++ ys) (add-one n)
    ∙ (ap (λ (l : List ℕ). l ++ ys) (take-suc-set x n v within) ∙ append_assoc (take n x) (v ∷ []) ys))

pub one_more : (line : List ℕ) (from at v end n : ℕ) (x : List ℕ) → n < length x → get_or line at 0 ≡ 32 → Spells line (at + 1) v end
    → So_far line from at (take n x) → So_far line from end (take (n + 1) (set x n v))
one_more line from at v end n x within space read so ys rest = subst (Rest line from) (put_next x ys n v within) (so (v ∷ ys) (more space read rest))

pub all_read : (line : List ℕ) (from at : ℕ) (xs : List ℕ) → at ≡ length line → So_far line from at xs → Rest line from xs
all_read line from at xs end so = subst (Rest line from) (append-nil xs) (so [] (none end))
