-- A handle's children are numbers of the slice: what `child_among` reads, and what it says of all children of a handle.
use mathlib.Core.Path.{◌≡◌, refl, sym, ap, ◌∙◌, subst}
use mathlib.Core.List.{List, []}
use mathlib.Core.Bool.{Bool, true, false, ◌&&◌}
use Prim.Native.Nat.{ℕ, zero, suc, ◌+◌, ◌*◌, ◌/◌, ◌%◌, ◌<◌, ◌≤◌}
use native.Mathlib.Omega.{arith}
use lib.ListN.{length, get_or}
use Rattle.model.specs.Programs.{all_below}
use Rattle.model.specs.Safety.{Within}
use Rattle.model.specs.Store.{Kind, set, rel, arity, Store, nodes, signed, index, with_sign, get, child}
use Rattle.model.proofs.Signs.{get_d_map}
use Rattle.memory.specs.Rows.{row, places, plain}
use Rattle.memory.proofs.Rows.{row_within, places_fit, row_at, row_length, plain_length, plain_at}

-- a child seen through a handle of sign s
abbrev turned : Kind → ℕ → ℕ → ℕ
turned set s x = signed s x
turned rel s x = x

turned_at : (K : Kind) (s d : ℕ) (x : List ℕ) → d < length x → get_or (with_sign K s x) d 0 ≡ turned K s (get_or x d 0)
turned_at set s d x h = get_d_map (signed s) x d h
turned_at rel s d x h = refl

child_at : (K : Kind) (B : Store) (m : List ℕ) (n h d : ℕ) → n ≤ places (arity K) m → Within K (plain K B m n) h → d < arity K
    → child K (plain K B m n) h d ≡ turned K (h % 2) (get_or m (arity K * index K h + d) 0)
unfolding get
child_at K B m n h d room w p =
    let c = arity K in
    let i = index K h in
    let l : i < n = omega (arith, w.there, plain_length K B m n) in
    let e : get_or (nodes K (plain K B m n)) i [] ≡ row c m i = plain_at K B m n i l in
    let f : c * i + c ≤ length m = omega (arith, row_within c i n l, places_fit c m n room) in
    rw e (turned_at K (h % 2) d (row c m i) (omega (arith, row_length c m i f)) ∙ ap (turned K (h % 2)) (row_at c m i d p))

-- what `child_among` gives for the place i of h
module _ (K : Kind) (B : Store) (m : List ℕ) (c n h d i : ℕ) (a : c ≡ arity K) (room : n ≤ places c m) (w : Within K (plain K B m n) h)
    (p : d < c) (q : i ≡ index K h) where
  child_is : child K (plain K B m n) h d ≡ turned K (h % 2) (get_or m (c * i + d) 0)
  child_is =
      child_at K B m n h d (subst (λ c. n ≤ places c m) a room) w (omega arith)
      ∙ ap (λ j. turned K (h % 2) (get_or m (j + d) 0)) (sym (ap (λ c. c * i) a ∙ ap (λ i. arity K * i) q))

  pub child_there : length m / c ≤ i → ⊥
  child_there l = omega (arith, w.there, plain_length K B m n)

  pub child_odd : (r : ℕ) → c ≡ 2 → h % 2 ≡ 1 → r ≡ signed 1 (get_or m (c * i + d) 0) → r ≡ child K (plain K B m n) h d
  child_odd r two odd e = e ∙ sym (child_is ∙ go K a (h % 2) odd)
    where
      go : (K : Kind) → c ≡ arity K → (s : ℕ) → s ≡ 1 → turned K s (get_or m (c * i + d) 0) ≡ signed 1 (get_or m (c * i + d) 0)
      go set a s o = rw o
      go rel a s o = absurd (let z : ⊥ = omega arith in z)

  pub child_even : (h % 2 ≡ 1 → ⊥) → get_or m (c * i + d) 0 ≡ child K (plain K B m n) h d
  child_even even = sym (child_is ∙ go K (h % 2) (omega arith))
    where
      go : (K : Kind) (s : ℕ) → s ≡ 0 → turned K s (get_or m (c * i + d) 0) ≡ get_or m (c * i + d) 0
      go set s o = rw o
      go rel s o = refl

  pub child_rel : (c ≡ 2 → ⊥) → get_or m (c * i + d) 0 ≡ child K (plain K B m n) h d
  child_rel two = sym (child_is ∙ go K a)
    where
      go : (K : Kind) → c ≡ arity K → turned K (h % 2) (get_or m (c * i + d) 0) ≡ get_or m (c * i + d) 0
      go set a = absurd (two a)
      go rel a = refl

-- ALL CHILDREN: a test of each
pub all_true : (n : ℕ) (f : ℕ → Bool) → ((d : ℕ) → d < n → f d ≡ true) → all_below n f ≡ true
all_true zero f h = refl
all_true (suc n) f h = rw (h 0 (omega arith), all_true n (λ d. f (suc d)) (λ d l. h (suc d) (omega arith)))

pub all_false : (n : ℕ) (f : ℕ → Bool) (d : ℕ) → d < n → f d ≡ false → all_below n f ≡ false
all_false zero f d l e = absurd (omega arith)
all_false (suc n) f zero l e = rw e
all_false (suc n) f (suc d) l e = go (f 0) (all_false n (λ d. f (suc d)) d (omega arith) e)
  where
    go : (b : Bool) → all_below n (λ d. f (suc d)) ≡ false → (b && all_below n (λ d. f (suc d))) ≡ false
    go true e = e
    go false e = refl
