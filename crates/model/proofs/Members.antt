-- The packets that pass a test, in field order: that the list has exactly them, that the first packet is its head, and that what comes after its head is its
-- rest. By induction over the fields.
use mathlib.Core.Path.{◌≡◌, refl, sym, ap, ◌∙◌, subst}
use mathlib.Core.Logic.{inl, inr}
use mathlib.Core.List.{List, [], ◌∷◌, ◌++◌, map}
use mathlib.Core.Option.{Option, none, some}
use mathlib.Core.Bool.{Bool, true, false, ◌&&◌, and-true}
use Prim.Native.Nat.{ℕ, zero, suc, ◌<◌}
use native.Mathlib.Omega.{arith}
use borrow.Author.Tests.{ltb-true, lt-ltb}
use Rattle.model.specs.FieldOrder.{is_before, rank}
use Rattle.model.specs.FirstPair.{begun_with, or_if_none, first_packet}
use Rattle.model.specs.Members.{passing, In, Ordered, InOrder}
use Rattle.model.specs.Packets.{Packet}
use Rattle.model.specs.Packets as packets
use Rattle.model.specs.Store.{pick}
use Rattle.model.proofs.Bools.{by_test, no_true, on-bits}
use Rattle.model.proofs.FieldOrder.{before_rank}

-- LISTS of packets that begin with a bit, and of those that begin with 0 and then those with 1
abbrev begun : ℕ → List (List ℕ) → List (List ℕ)
begun b xs = map (λ p. b ∷ p) xs

abbrev halves : List (List ℕ) → List (List ℕ) → List (List ℕ)
halves xs ys = begun 0 xs ++ begun 1 ys

begun_in : (b : ℕ) (xs : List (List ℕ)) (p : List ℕ) → In p xs → In (b ∷ p) (begun b xs)
begun_in b [] p i = absurd i
begun_in b (x ∷ xs) p (inl e) = inl (ap (λ p. b ∷ p) e)
begun_in b (x ∷ xs) p (inr i) = inr (begun_in b xs p i)

-- what is in such a list
record Begun (b : ℕ) (xs : List (List ℕ)) (p : List ℕ) : Type 0 where
  rest : List ℕ
  is : p ≡ b ∷ rest
  inside : In rest xs

in_begun : (b : ℕ) (xs : List (List ℕ)) (p : List ℕ) → In p (begun b xs) → Begun b xs p
in_begun b [] p i = absurd i
in_begun b (x ∷ xs) p (inl e) = record { rest = x; is = e; inside = inl refl }
in_begun b (x ∷ xs) p (inr i) = let g = in_begun b xs p i in record { rest = g.rest; is = g.is; inside = inr g.inside }

in_left : (xs ys : List (List ℕ)) (p : List ℕ) → In p xs → In p (xs ++ ys)
in_left [] ys p i = absurd i
in_left (x ∷ xs) ys p (inl e) = inl e
in_left (x ∷ xs) ys p (inr i) = inr (in_left xs ys p i)

in_right : (xs ys : List (List ℕ)) (p : List ℕ) → In p ys → In p (xs ++ ys)
in_right [] ys p i = i
in_right (x ∷ xs) ys p i = inr (in_right xs ys p i)

in_either : (P : Type 0) (xs ys : List (List ℕ)) (p : List ℕ) → (In p xs → P) → (In p ys → P) → In p (xs ++ ys) → P
in_either P [] ys p f g i = g i
in_either P (x ∷ xs) ys p f g (inl e) = f (inl e)
in_either P (x ∷ xs) ys p f g (inr i) = in_either P xs ys p (λ i. f (inr i)) g i

same_bit : (b : ℕ) → b < 2 → (x y : List ℕ) → is_before x y ≡ true → is_before (b ∷ x) (b ∷ y) ≡ true
unfolding is_before
same_bit b j x y = on-bits (λ b. is_before x y ≡ true → is_before (b ∷ x) (b ∷ y) ≡ true) (λ e. e) (λ e. e) b j

ordered_begun : (b : ℕ) (xs : List (List ℕ)) → b < 2 → Ordered xs → Ordered (begun b xs)
ordered_begun b [] j o = tt
ordered_begun b (x ∷ xs) j o = (
  λ y i. let g = in_begun b xs y i in subst (λ y. is_before (b ∷ x) y ≡ true) (sym g.is) (same_bit b j x _ (o.0 _ g.inside)),
  ordered_begun b xs j o.1,
)

ordered_both : (xs ys : List (List ℕ)) → ((x y : List ℕ) → In x xs → In y ys → is_before x y ≡ true) → Ordered xs → Ordered ys → Ordered (xs ++ ys)
ordered_both [] ys f o q = q
ordered_both (x ∷ xs) ys f o q =
    (λ y i. in_either (is_before x y ≡ true) xs ys y (o.0 y) (f x y (inl refl)) i, ordered_both xs ys (λ x y i j. f x y (inr i) j) o.1 q)

-- THE LIST has exactly the packets that pass
halves_ordered : (xs ys : List (List ℕ)) → Ordered xs → Ordered ys → Ordered (halves xs ys)
unfolding is_before
halves_ordered xs ys o q = ordered_both (begun 0 xs) (begun 1 ys) across (ordered_begun 0 xs (omega arith) o) (ordered_begun 1 ys (omega arith) q)
  where
    across : (x y : List ℕ) → In x (begun 0 xs) → In y (begun 1 ys) → is_before x y ≡ true
    across x y i j =
        let g = in_begun 0 xs x i in
        let h = in_begun 1 ys y j in
        subst (λ x. is_before x y ≡ true) (sym g.is) (subst (λ y. is_before (0 ∷ g.rest) y ≡ true) (sym h.is) refl)

module _ (l : ℕ) (t : List ℕ → Bool) {xs ys : List (List ℕ)} (A : InOrder l (λ p. t (0 ∷ p) ≡ true) xs) (B : InOrder l (λ p. t (1 ∷ p) ≡ true) ys) where
  each_half : (p : List ℕ) → In p (halves xs ys) → Packet (suc l) p × (t p ≡ true)
  each_half p = in_either (Packet (suc l) p × (t p ≡ true)) (begun 0 xs) (begun 1 ys) p
      (λ i. let g = in_begun 0 xs p i in let d = A.each g.rest g.inside in
      subst (λ p. Packet (suc l) p × (t p ≡ true)) (sym g.is) (packets.more 0 (omega arith) d.0, d.1))
      (λ i. let g = in_begun 1 ys p i in let d = B.each g.rest g.inside in
      subst (λ p. Packet (suc l) p × (t p ≡ true)) (sym g.is) (packets.more 1 (omega arith) d.0, d.1))

  by_bit : (b : ℕ) → b < 2 → (p : List ℕ) → Packet l p → t (b ∷ p) ≡ true → In (b ∷ p) (halves xs ys)
  by_bit = on-bits (λ b. (p : List ℕ) → Packet l p → t (b ∷ p) ≡ true → In (b ∷ p) (halves xs ys))
      (λ p P e. in_left (begun 0 xs) (begun 1 ys) (0 ∷ p) (begun_in 0 xs p (A.all p P e)))
      (λ p P e. in_right (begun 0 xs) (begun 1 ys) (1 ∷ p) (begun_in 1 ys p (B.all p P e)))

  all_half : (p : List ℕ) → Packet (suc l) p → t p ≡ true → In p (halves xs ys)
  all_half p (packets.more {ds = q} b i Q) e = by_bit b i q Q e

  halves_in_order : InOrder (suc l) (λ p. t p ≡ true) (halves xs ys)
  halves_in_order = record { each = each_half; all = all_half; ordered = halves_ordered xs ys A.ordered B.ordered }

pub in_order : (l : ℕ) (t : List ℕ → Bool) → InOrder l (λ p. t p ≡ true) (passing l t)
unfolding passing
in_order zero t = by_test (λ b. t [] ≡ b → InOrder zero (λ p. t p ≡ true) (pick b ([] ∷ []) [])) (t [])
    (λ _ e. record {
      each = λ p. elim [ inl g ↦ subst (λ p. Packet zero p × (t p ≡ true)) (sym g) (packets.none, e) | inr i ↦ absurd i ];
      all = λ p P f. inl (only P);
      ordered = (λ y i. absurd i, tt);
    })
    (λ _ e. record { each = λ p i. absurd i; all = λ p P f. no_true e (subst (λ p. t p ≡ true) (only P) f); ordered = tt })
    refl
  where
    only : {p : List ℕ} → Packet zero p → p ≡ []
    only packets.none = refl
in_order (suc l) t = halves_in_order l t (in_order l (λ p. t (0 ∷ p))) (in_order l (λ p. t (1 ∷ p)))

-- tests that agree on the packets of l fields
pub passing_alike : (l : ℕ) (t u : List ℕ → Bool) → ((p : List ℕ) → Packet l p → t p ≡ u p) → passing l t ≡ passing l u
unfolding passing
passing_alike zero t u e = ap (λ b. pick b ([] ∷ []) []) (e [] packets.none)
passing_alike (suc l) t u e =
    let f = passing_alike l (λ p. t (0 ∷ p)) (λ p. u (0 ∷ p)) (λ p P. e (0 ∷ p) (packets.more 0 (omega arith) P)) in
    let g = passing_alike l (λ p. t (1 ∷ p)) (λ p. u (1 ∷ p)) (λ p P. e (1 ∷ p) (packets.more 1 (omega arith) P)) in
    λ i. halves (f i) (g i)

-- THE HEAD is the first packet
abbrev pub head : List (List ℕ) → Option (List ℕ)
head [] = none
head (x ∷ xs) = some x

head_begun : (b : ℕ) (xs : List (List ℕ)) → head (begun b xs) ≡ begun_with b (head xs)
head_begun b [] = refl
head_begun b (x ∷ xs) = refl

head_both : (xs ys : List (List ℕ)) → head (xs ++ ys) ≡ or_if_none (head xs) (head ys)
head_both [] ys = refl
head_both (x ∷ xs) ys = refl

pub first_head : (l : ℕ) (t : List ℕ → Bool) → first_packet l t ≡ head (passing l t)
unfolding passing first_packet
first_head zero t = by_test (λ b. pick b (some []) none ≡ head (pick b ([] ∷ []) [])) (t []) (λ e. refl) (λ e. refl)
first_head (suc l) t =
    let f : begun_with 0 (first_packet l (λ p. t (0 ∷ p))) ≡ head (begun 0 (passing l (λ p. t (0 ∷ p))))
    = ap (begun_with 0) (first_head l (λ p. t (0 ∷ p))) ∙ sym (head_begun 0 (passing l (λ p. t (0 ∷ p)))) in
    let g : begun_with 1 (first_packet l (λ p. t (1 ∷ p))) ≡ head (begun 1 (passing l (λ p. t (1 ∷ p))))
    = ap (begun_with 1) (first_head l (λ p. t (1 ∷ p))) ∙ sym (head_begun 1 (passing l (λ p. t (1 ∷ p)))) in
    (λ i. or_if_none (f i) (g i)) ∙ sym (head_both (begun 0 (passing l (λ p. t (0 ∷ p)))) (begun 1 (passing l (λ p. t (1 ∷ p)))))

pub first_alike : (l : ℕ) (t u : List ℕ → Bool) → ((p : List ℕ) → Packet l p → t p ≡ u p) → first_packet l t ≡ first_packet l u
first_alike l t u e = first_head l t ∙ ap head (passing_alike l t u e) ∙ sym (first_head l u)

-- THE REST is what passes after the head
abbrev after_head : List (List ℕ) → List ℕ → Bool
after_head [] p = false
after_head (x ∷ xs) p = is_before x p

abbrev tail : List (List ℕ) → List (List ℕ)
tail [] = []
tail (x ∷ xs) = xs

rest_halves : (l : ℕ) (t : List ℕ → Bool) (A B : List (List ℕ)) → passing l (λ p. t (1 ∷ p)) ≡ B
    → passing l (λ p. t (0 ∷ p) && after_head A p) ≡ tail A → passing l (λ p. t (1 ∷ p) && after_head B p) ≡ tail B
    → passing (suc l) (λ p. t p && after_head (halves A B) p) ≡ tail (halves A B)
unfolding passing is_before
rest_halves l t [] [] b f g = λ i. halves (f i) (g i)
rest_halves l t [] (y ∷ B) b f g = λ i. halves (f i) (g i)
rest_halves l t (x ∷ A) B b f g =
    let h : passing l (λ p. t (1 ∷ p) && true) ≡ B = (λ i. passing l (λ p. and-true (t (1 ∷ p)) i)) ∙ b in
    λ i. halves (f i) (h i)

rest : (l : ℕ) (t : List ℕ → Bool) → passing l (λ p. t p && after_head (passing l t) p) ≡ tail (passing l t)
unfolding passing is_before
rest zero t = by_test (λ b. pick (t [] && after_head (pick b ([] ∷ []) []) []) ([] ∷ []) [] ≡ tail (pick b ([] ∷ []) [])) (t [])
    (λ e. nothing (t [])) (λ e. nothing (t []))
  where
    nothing : (b : Bool) → pick {A = List (List ℕ)} (b && false) ([] ∷ []) [] ≡ []
    nothing true = refl
    nothing false = refl
rest (suc l) t = rest_halves l t (passing l (λ p. t (0 ∷ p))) (passing l (λ p. t (1 ∷ p))) refl (rest l (λ p. t (0 ∷ p))) (rest l (λ p. t (1 ∷ p)))

pub rest_passes : (l : ℕ) (t : List ℕ → Bool) {x : List ℕ} {xs : List (List ℕ)} → passing l t ≡ x ∷ xs → passing l (λ p. t p && is_before x p) ≡ xs
rest_passes l t e = subst (λ ys. passing l (λ p. t p && after_head ys p) ≡ tail ys) e (rest l t)

-- the head is a packet that passes
pub head_passes : (l : ℕ) (t : List ℕ → Bool) {x : List ℕ} {xs : List (List ℕ)} → passing l t ≡ x ∷ xs → Packet l x × (t x ≡ true)
head_passes l t {x} e = (subst (λ ys. InOrder l (λ p. t p ≡ true) ys) e (in_order l t)).each x (inl refl)

-- what is after a packet is after all that are before that
pub before_through : {l : ℕ} {p q r : List ℕ} → Packet l p → Packet l q → Packet l r → is_before p q ≡ true → is_before q r ≡ true → is_before p r ≡ true
before_through {p = p} {q} {r} P Q R e f =
    let i = ltb-true (rank p) (rank q) (sym (before_rank P Q) ∙ e) in
    let j = ltb-true (rank q) (rank r) (sym (before_rank Q R) ∙ f) in
    before_rank P R ∙ lt-ltb (rank p) (rank r) (omega arith)
