-- Four numbers side by side, read and written.
use mathlib.Core.Path.{◌≡◌}
use mathlib.Core.List.{List, [], ◌∷◌}
use Prim.Native.Nat.{ℕ, suc, ◌+◌, ◌<◌, ◌≤◌}
use native.Mathlib.Omega.{arith}
use lib.ListN.{length, get_or, set, take, drop}
use lib.Seq.{drop-cons, paste, sets-eq}

-- READING
pub four : (w : List ℕ) (i : ℕ) → i + 3 < length w → take 4 (drop i w) ≡ get_or w i 0 ∷ get_or w (i + 1) 0 ∷ get_or w (i + 2) 0 ∷ get_or w (i + 3) 0 ∷ []
four w i h =
    let e1 : i + 1 ≡ suc i = omega arith in
    let e2 : i + 2 ≡ suc (suc i) = omega arith in
    let e3 : i + 3 ≡ suc (suc (suc i)) = omega arith in
    let d : (n : ℕ) → n ≤ i + 3 → drop n w ≡ get_or w n 0 ∷ drop (suc n) w = λ n l. drop-cons w n 0 (omega arith) in
    rw (e1, e2, e3, d i (omega arith), d (suc i) (omega arith), d (suc (suc i)) (omega arith), d (suc (suc (suc i))) (omega arith))

-- WRITING
abbrev pub wrote : List ℕ → ℕ → ℕ → ℕ → ℕ → ℕ → List ℕ
wrote w i t a b h = set (set (set (set w i t) (i + 1) a) (i + 2) b) (i + 3) h

pub wrote_paste : (w : List ℕ) (i t a b h : ℕ) → i + 4 ≤ length w → wrote w i t a b h ≡ paste w i (t ∷ a ∷ b ∷ h ∷ []) 4
wrote_paste w i t a b h l =
    let e1 : i + 1 ≡ suc i = omega arith in
    let e2 : i + 2 ≡ suc (suc i) = omega arith in
    let e3 : i + 3 ≡ suc (suc (suc i)) = omega arith in
    rw (e1, e2, e3) (sets-eq (t ∷ a ∷ b ∷ h ∷ []) w i l)
