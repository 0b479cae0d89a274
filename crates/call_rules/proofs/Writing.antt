-- Nodes written into a memory: `write` of the nodes that a body holds is that body again, and cleared places bring a memory back.
use mathlib.Core.Path.{◌≡◌, refl, sym, ap, ◌∙◌, subst}
use mathlib.Core.List.{List, [], ◌∷◌, ◌++◌, append_assoc, append-nil}
use Prim.Native.Nat.{ℕ, zero, suc, ◌+◌, ◌-◌, ◌*◌, ◌<◌, ◌≤◌}
use native.Mathlib.Omega.{arith}
use native.Mathlib.Nat.{mul-zero}
use native.Mathlib.Numerals.{add-one}
use lib.ListN.{length, get_or, take, drop, replicate, length-drop, length-replicate, get_or-replicate, take-append-drop, drop_of_length-le}
use lib.Seq.{take-add, drop-drop, get_or-take, get_or-drop, ext_get_or, length-take-le}
use borrow.Rule.Slice.PartMut.{put_mid}
use Rattle.model.specs.Store.{Kind, arity, Nodes}
use Rattle.memory.specs.Rows.{row, rows}
use Rattle.memory.proofs.Rows.{rows_snoc, rows_length, mul_add_one, places_fit}
use Rattle.store_check.specs.Commit.{cleared}
use Rattle.store_check.specs.Memory.{head, count, body, places_in, nodes_in, flat, write}
use Rattle.store_check.specs.Valid.{Room}

-- NUMBERS OF NODES
flat_snoc : (N : Nodes) (x : List ℕ) → flat (N ++ (x ∷ [])) ≡ flat N ++ x
unfolding flat
flat_snoc [] x = append-nil x
flat_snoc (y ∷ N) x = ap (λ r. y ++ r) (flat_snoc N x) ∙ sym (append_assoc y (flat N) x)

flat_rows : (c n : ℕ) (b : List ℕ) → flat (rows c n b) ≡ take (c * n) b
unfolding flat rows
flat_rows c zero b = rw (mul-zero c)
flat_rows c (suc n) b =
    let e : c * suc n ≡ c * n + c = subst (λ k. c * k ≡ c * n + c) (add-one n) (mul_add_one c n) in
    let s : rows c (suc n) b ≡ rows c n b ++ (row c b n ∷ []) = subst (λ k. rows c k b ≡ rows c n b ++ (row c b n ∷ [])) (add-one n) (rows_snoc c n b) in
    ap flat s ∙ flat_snoc (rows c n b) (row c b n) ∙ ap (λ r. r ++ row c b n) (flat_rows c n b) ∙ sym (take-add (c * n) c b) ∙ ap (λ j. take j b) (sym e)

-- A PART of zeros
zeros_part : (z : ℕ) (b : List ℕ) → z ≤ length b → ((j : ℕ) → j < z → get_or b j 0 ≡ 0) → replicate z 0 ≡ take z b
zeros_part z b h f = ext_get_or 0 (replicate z 0) (take z b) (length-replicate z 0 ∙ sym (length-take-le z b h)) (λ i l.
    let l' : i < z = omega (arith, length-replicate z zero) in get_or-replicate z i 0 0 l' ∙ sym (get_or-take z b i 0 l' ∙ f i l'))

pub spread : (c n p : ℕ) → n ≤ p → c * n + c * (p - n) ≡ c * p
spread c n p h = let e : n + (p - n) ≡ p = omega arith in sym (mul_add c n (p - n)) ∙ ap (λ j. c * j) e
  where
    mul_add : (c a b : ℕ) → c * (a + b) ≡ c * a + c * b
    mul_add c a zero = omega (arith, mul-zero c)
    mul_add c a (suc b) = omega (arith, mul_add c a b, mul_add_one c (a + b), mul_add_one c b)

-- the places fit into the memory after its head
pub places_end : (K : Kind) (m : List ℕ) → arity K * places_in K m ≤ length (body K m)
places_end K m = places_fit (arity K) (body K m) (places_in K m) (omega arith)

-- the places from q on are free
pub record Free (K : Kind) (m : List ℕ) (q : ℕ) : Type 0 where
  pub most : q ≤ places_in K m
  pub zeros : (j : ℕ) → j < arity K * (places_in K m - q) → get_or (body K m) (arity K * q + j) 0 ≡ 0

pub room_free : (K : Kind) (m : List ℕ) (q : ℕ) → Room K m → count K m ≤ q → q ≤ places_in K m → Free K m q
room_free K m q R a b = record {
  most = b;
  zeros = λ j l.
      let c = arity K in
      let n = count K m in
      let u = spread c n q a in
      let v = spread c n (places_in K m) R.within in
      let x = spread c q (places_in K m) b in
      let e : head K + c * n + (c * (q - n) + j) ≡ head K + (c * q + j) = omega arith in
      get_or-drop (head K) m (c * q + j) 0 ∙ ap (λ i. get_or m i 0) (sym e) ∙ R.blank (c * (q - n) + j) (omega arith);
}

-- b has q nodes, and then what the memory has there
pub record Body (K : Kind) (m b : List ℕ) (q : ℕ) : Type 0 where
  pub long : length b ≡ length (body K m)
  pub rest : drop (arity K * q) b ≡ drop (arity K * q) (body K m)

pub write_body : (K : Kind) (h m b : List ℕ) (q : ℕ) → Free K m q → Body K m b q → write K h (rows (arity K) q b) m ≡ h ++ b
unfolding write
write_body K h m b q F E =
    let c = arity K in
    let p = places_in K m in
    let z = c * (p - q) in
    let s = spread c q p F.most in
    let D = drop (c * q) (body K m) in
    let fit = places_end K m in
    let zs : replicate z 0 ≡ take z D
    = zeros_part z D (omega (arith, length-drop (c * q) (body K m))) (λ j l. get_or-drop (c * q) (body K m) j 0 ∙ F.zeros j l) in
    let e : head K + c * p ≡ head K + c * q + z = omega arith in
    let d : drop (head K + c * p) m ≡ drop z D
    = ap (λ j. drop j m) e ∙ sym (drop-drop z (head K + c * q) m) ∙ ap (drop z) (sym (drop-drop (c * q) (head K) m)) in
    ap (λ k. h ++ (flat (rows c q b) ++ (replicate (c * (p - k)) 0 ++ drop (head K + c * p) m))) (rows_length c q b)
    ∙ (λ i. h ++ (flat_rows c q b i ++ (zs i ++ d i)))
    ∙ ap (λ x. h ++ (take (c * q) b ++ x)) (take-append-drop z D ∙ sym E.rest) ∙ ap (λ x. h ++ x) (take-append-drop (c * q) b)

-- the nodes of a memory written into it again
pub write_back : (K : Kind) (m : List ℕ) → Room K m → write K (take (head K) m) (nodes_in K m) m ≡ m
write_back K m R =
    write_body K (take (head K) m) m (body K m) (count K m) (room_free K m (count K m) R (omega arith) R.within) (record { long = refl; rest = refl })
    ∙ take-append-drop (head K) m

-- the part after the head, given back
pub tail_put : (a : ℕ) (m b : List ℕ) → put_mid a (length m - a) m b ≡ take a m ++ b
tail_put a m b =
    let e : drop (length m - a) (drop a m) ≡ [] = drop_of_length-le (drop a m) {i = length m - a} (omega (arith, length-drop a m)) in
    rw (e, append-nil b)

-- numbers that were zero, made zero again
pub cleared_back : (m m₁ : List ℕ) (s e : ℕ) → s ≤ e → e ≤ length m → ((j : ℕ) → j < e - s → get_or m (s + j) 0 ≡ 0) → take s m₁ ≡ take s m
    → drop e m₁ ≡ drop e m → cleared s e m₁ ≡ m
cleared_back m m₁ s e h l z t d =
    let k = e - s in
    let zs : replicate k 0 ≡ take k (drop s m) = zeros_part k (drop s m) (omega (arith, length-drop s m)) (λ j g. get_or-drop s m j 0 ∙ z j g) in
    let a : s + k ≡ e = omega arith in
    let d₁ : drop k (drop s m₁) ≡ drop k (drop s m)
    = drop-drop k s m₁ ∙ ap (λ j. drop j m₁) a ∙ d ∙ sym (drop-drop k s m ∙ ap (λ j. drop j m) a) in
    (λ i. t i ++ (zs i ++ d₁ i)) ∙ ap (λ x. take s m ++ x) (take-append-drop k (drop s m)) ∙ take-append-drop s m
