-- Nodes in a lent slice are the plain store's: the count and each node of `rows`, what they go by, and a node written after the others.
use mathlib.Core.Path.{◌≡◌, refl, sym, ap, ◌∙◌}
use mathlib.Core.List.{List, [], ◌∷◌, ◌++◌}
use Prim.Native.Nat.{ℕ, zero, suc, ◌+◌, ◌-◌, ◌*◌, ◌/◌, ◌<◌, ◌≤◌}
use native.Mathlib.Nat.{add-zero, zero-add, suc-add, mul-suc, mul-le-mul_left, mul-div-le}
use native.Mathlib.Numerals.{add-one}
use native.Mathlib.Omega.{arith}
use lib.ListN.{length, get_or, take, drop, length-drop}
use lib.Seq.{take-nil, take-take, take_at, drop_at, take_all, length-take-le, get_or-take, get_or-drop, paste, length-paste, take-paste, drop-paste}
use Rattle.model.specs.Store.{Kind, set, rel, arity, Nodes, Store, nodes}
use Rattle.memory.specs.Rows.{row, nodes_from, rows, places, plain}

-- NUMBERS: a node's are within those of n nodes, and nodes for which there are places are within the slice
pub row_within : (c i n : ℕ) → i < n → c * i + c ≤ c * n
row_within c i n h = omega (arith, mul-suc c i, mul-le-mul_left {m = suc i} {n = n} c h)

pub mul_add_one : (c n : ℕ) → c * (n + 1) ≡ c * n + c
mul_add_one c n = rw (add-one n) (mul-suc c n)

pub places_fit : (c : ℕ) (m : List ℕ) (n : ℕ) → n ≤ places c m → c * n ≤ length m
places_fit c m n h = let q : n ≤ length m / c = omega arith in omega (arith, mul-le-mul_left c q, mul-div-le (length m) c)

pub place_fits : (c : ℕ) (m : List ℕ) (n : ℕ) → n < places c m → c * n + c ≤ length m
place_fits c m n h = omega (arith, mul_add_one c n, places_fit c m (n + 1) (omega arith))

-- A ROW
pub row_at : (c : ℕ) (m : List ℕ) (i d : ℕ) → d < c → get_or (row c m i) d 0 ≡ get_or m (c * i + d) 0
row_at c m i d h = get_or-take c (drop (c * i) m) d 0 h ∙ get_or-drop (c * i) m d 0

-- the part of a slice that the code takes for a node
pub row_part : (c : ℕ) (m : List ℕ) (i : ℕ) → take (c * i + c - c * i) (drop (c * i) m) ≡ row c m i
row_part c m i = let e : c * i + c - c * i ≡ c = omega arith in rw e

pub row_length : (c : ℕ) (m : List ℕ) (i : ℕ) → c * i + c ≤ length m → length (row c m i) ≡ c
row_length c m i h = length-take-le c (drop (c * i) m) (omega (arith, length-drop (c * i) m))

part : (k c : ℕ) (l : List ℕ) → take c (drop k l) ≡ drop k (take (k + c) l)
part zero c l = rw zero-add
part (suc k) c [] = rw (suc-add k c) (take-nil c)
part (suc k) c (a ∷ l) = rw (suc-add k c) (part k c l)

pub row_agree : (c n : ℕ) (m m' : List ℕ) → take (c * n) m' ≡ take (c * n) m → (i : ℕ) → i < n → row c m' i ≡ row c m i
row_agree c n m m' e i h = from m' ∙ ap (λ l. drop (c * i) (take (c * i + c) l)) e ∙ sym (from m)
  where
    from : (m : List ℕ) → row c m i ≡ drop (c * i) (take (c * i + c) (take (c * n) m))
    from m = part (c * i) c m ∙ ap (drop (c * i)) (sym (take-take (c * i + c) (c * n) m (row_within c i n h)))

-- ROWS: nodes read one after the other
module _ (node : ℕ → List ℕ) where
  from_length : (i n : ℕ) → length (nodes_from node i n) ≡ n
  from_length i zero = refl
  from_length i (suc n) = ap suc (from_length (suc i) n)

  from_at : (i n j : ℕ) → j < n → get_or (nodes_from node i n) j [] ≡ node (i + j)
  from_at i zero j h = absurd (omega arith)
  from_at i (suc n) zero h = rw (add-zero i)
  from_at i (suc n) (suc j) h = from_at (suc i) n j (omega arith) ∙ ap node (omega arith)

  from_snoc : (i n : ℕ) → nodes_from node i (suc n) ≡ nodes_from node i n ++ (node (i + n) ∷ [])
  from_snoc i zero = rw (add-zero i)
  from_snoc i (suc n) = let e : suc i + n ≡ i + suc n = omega arith in ap (λ (l : Nodes). node i ∷ l) (rw (← e) (from_snoc (suc i) n))

from_agree : (node node' : ℕ → List ℕ) (i n : ℕ) → ((j : ℕ) → j < i + n → node j ≡ node' j) → nodes_from node i n ≡ nodes_from node' i n
from_agree node node' i zero h = refl
from_agree node node' i (suc n) h = rw (h i (omega arith), from_agree node node' (suc i) n (λ j l. h j (omega arith)))

pub rows_length : (c n : ℕ) (m : List ℕ) → length (rows c n m) ≡ n
unfolding rows
rows_length c n m = from_length (row c m) 0 n

pub rows_at : (c n : ℕ) (m : List ℕ) (i : ℕ) → i < n → get_or (rows c n m) i [] ≡ row c m i
unfolding rows
rows_at c n m i h = from_at (row c m) 0 n i h ∙ ap (row c m) (zero-add i)

pub rows_snoc : (c n : ℕ) (m : List ℕ) → rows c (n + 1) m ≡ rows c n m ++ (row c m n ∷ [])
unfolding rows
rows_snoc c n m = rw (add-one n) (from_snoc (row c m) 0 n ∙ ap (λ i. nodes_from (row c m) 0 n ++ (row c m i ∷ [])) (zero-add n))

pub rows_agree : (c n : ℕ) (m m' : List ℕ) → take (c * n) m' ≡ take (c * n) m → rows c n m' ≡ rows c n m
unfolding rows
rows_agree c n m m' e = from_agree (row c m') (row c m) 0 n (λ i h. row_agree c n m m' e i (omega arith))

-- of the plain store
pub plain_nodes : (K : Kind) (B : Store) (m : List ℕ) (n : ℕ) → nodes K (plain K B m n) ≡ rows (arity K) n m
plain_nodes set B m n = refl
plain_nodes rel B m n = refl

pub plain_length : (K : Kind) (B : Store) (m : List ℕ) (n : ℕ) → length (nodes K (plain K B m n)) ≡ n
plain_length K B m n = ap length (plain_nodes K B m n) ∙ rows_length (arity K) n m

pub plain_at : (K : Kind) (B : Store) (m : List ℕ) (n i : ℕ) → i < n → get_or (nodes K (plain K B m n)) i [] ≡ row (arity K) m i
plain_at K B m n i h = ap (λ N. get_or N i []) (plain_nodes K B m n) ∙ rows_at (arity K) n m i h

-- A NODE WRITTEN after n nodes: they stay, it is the next, what is beyond it stays
module _ (c n : ℕ) (m x : List ℕ) (sized : length x ≡ c) (fits : c * n + c ≤ length m) where
  pub paste_long : length (paste m (c * n) x c) ≡ length m
  paste_long = length-paste m (c * n) x c fits (omega arith)

  pub paste_head : take (c * n) (paste m (c * n) x c) ≡ take (c * n) m
  paste_head =
      let t : length (take (c * n) m) ≡ c * n = length-take-le (c * n) m (omega arith) in
      sym (take-take (c * n) (c * n + c) (paste m (c * n) x c) (omega arith))
      ∙ ap (take (c * n)) (take-paste m (c * n) x c (omega arith) (omega arith)) ∙ take_at (take (c * n) m) (take c x) (c * n) t

  pub paste_rest : drop (c * (n + 1)) (paste m (c * n) x c) ≡ drop (c * (n + 1)) m
  paste_rest = rw (mul_add_one c n) (drop-paste m (c * n) x c (omega arith) (omega arith))

  pub paste_row : row c (paste m (c * n) x c) n ≡ x
  paste_row =
      let t : length (take (c * n) m) ≡ c * n = length-take-le (c * n) m (omega arith) in
      part (c * n) c (paste m (c * n) x c) ∙ ap (drop (c * n)) (take-paste m (c * n) x c (omega arith) (omega arith))
      ∙ drop_at (take (c * n) m) (take c x) (c * n) t ∙ take_all c x (omega arith)

  pub rows_paste : rows c (n + 1) (paste m (c * n) x c) ≡ rows c n m ++ (x ∷ [])
  rows_paste = rows_snoc c n (paste m (c * n) x c) ∙ rw (rows_agree c n m (paste m (c * n) x c) paste_head, paste_row)
