-- What a part of the working memory says stays where that part does: from laws of `take` and `drop`.
use mathlib.Core.Path.{◌≡◌, sym, ap, ◌∙◌, subst}
use mathlib.Core.List.{List}
use Prim.Native.Nat.{ℕ, ◌+◌, ◌*◌, ◌<◌}
use native.Mathlib.Omega.{arith}
use lib.ListN.{length, get_or, take, drop}
use lib.Seq.{get_or-drop, get_or-take}
use Rattle.model.specs.Store.{Kind, set, rel, Store}
use Rattle.memory.specs.Working.{memo_size, words_at, Entry, index_size, part_size}

pub drop_at_same : (n : ℕ) (w w' : List ℕ) → drop n w' ≡ drop n w → (i : ℕ) → get_or w' (n + i) 0 ≡ get_or w (n + i) 0
drop_at_same n w w' e i = sym (get_or-drop n w' i 0) ∙ ap (λ l. get_or l i 0) e ∙ get_or-drop n w i 0

-- a word's place behind memo and index
abbrev spare : Kind → ℕ
spare rel = 0
spare set = part_size

word_place : (J : Kind) (l i : ℕ) → words_at J l + i ≡ memo_size l + index_size + (spare J + i)
word_place set l i = omega arith
word_place rel l i = omega arith

pub words_same : (w w' : List ℕ) → length w' ≡ length w → drop (memo_size (length w) + index_size) w' ≡ drop (memo_size (length w) + index_size) w
    → (J : Kind) (i : ℕ) → get_or w' (words_at J (length w') + i) 0 ≡ get_or w (words_at J (length w) + i) 0
words_same w w' long e J i =
    ap (λ k. get_or w' (words_at J k + i) 0) long ∙ ap (λ k. get_or w' k 0) (word_place J (length w) i)
    ∙ drop_at_same (memo_size (length w) + index_size) w w' e (spare J + i) ∙ ap (λ k. get_or w k 0) (sym (word_place J (length w) i))

memo_same : (w w' : List ℕ) → take (memo_size (length w)) w' ≡ take (memo_size (length w)) w → (i : ℕ) → i < memo_size (length w)
    → get_or w' i 0 ≡ get_or w i 0
memo_same w w' t i g = let m = memo_size (length w) in sym (get_or-take m w' i 0 g) ∙ ap (λ l. get_or l i 0) t ∙ get_or-take m w i 0 g

-- an entry is its two numbers
pub entry_same : (w w' : List ℕ) (S : Store) → take (memo_size (length w)) w' ≡ take (memo_size (length w)) w → (j : ℕ) → 2 * j + 1 < memo_size (length w)
    → Entry (get_or w (2 * j) 0) (get_or w (2 * j + 1) 0) S → Entry (get_or w' (2 * j) 0) (get_or w' (2 * j + 1) 0) S
entry_same w w' S t j g e =
    subst (λ x. Entry x (get_or w' (2 * j + 1) 0) S) (sym (memo_same w w' t (2 * j) (omega arith)))
    (subst (λ y. Entry (get_or w (2 * j) 0) y S) (sym (memo_same w w' t (2 * j + 1) g)) e)
