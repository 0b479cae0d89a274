-- The first digit of the first pair, by the ranks of first inputs: what follows it is the first pair of that child.
use mathlib.Core.Path.{◌≡◌, subst}
use mathlib.Core.List.{List, ◌∷◌}
use mathlib.Core.Bool.{false}
use mathlib.Core.Logic.{inl, inr}
use Prim.Native.Nat.{ℕ, suc, ◌+◌, ◌*◌, ◌/◌, ◌%◌, ◌^◌, ◌<◌, ◌≤◌, min}
use native.Mathlib.Omega.{arith}
use native.Mathlib.Decide.{dec_lt, ℕ_discrete}
use native.Mathlib.Nat.{one-mul, zero-mul}
use lib.Dec.{ltb→lt, nltb→le}
use borrow.Author.Tests.{eq-eqb, ne_eqb, le-ltb}
use Rattle.model.specs.FieldOrder.{is_before, rank, ranked}
use Rattle.model.specs.FirstInputs.{output_bit, first_digit}
use Rattle.model.specs.FirstPair.{LeastRank, FirstPair}
use Rattle.model.specs.Meaning.{Sem, Rel, Den, Relates, Domain}
use Rattle.model.specs.Packets.{more, Packet}
use Rattle.model.specs.Programs.{less, ret, ask}
use Rattle.model.specs.Store.{set, rel, Store}
use Rattle.model.specs.WellFormed.{WellFormed}
use Rattle.model.proofs.Bools.{on-bits}
use Rattle.model.proofs.FieldOrder.{rank_ranked, ranked_is}
use Rattle.model.proofs.FirstInputs.{From, first_input_does}
use Rattle.model.proofs.FirstPair.{not_before, rank_first}
use Rattle.model.proofs.Pairs.{relates_ext, block, relates_x00, relates_x01, relates_x10, relates_x11}
use Rattle.model.proofs.Ranks.{none_least, rank_more}
use Rattle.model.proofs.Rules.{Does, den_ext, den_child, held_within, ret_does, ask_does, look_does, bind_does}
use Rattle.model.proofs.YesNo.{Some2, some2_split}

-- WHICH OUTPUT, of the inputs D0 with output 0 and D1 with output 1: the one whose first input is before the other's, 0 where both are the same
pub data OutputBit (l : ℕ) (D0 D1 : Sem) : ℕ → Type 0 where
  bit_0 : (m : ℕ) → m < 2 ^ l → LeastRank l D0 m → ((x : List ℕ) → Packet l x → D1 x → m ≤ rank x) → OutputBit l D0 D1 0
  bit_1 : (n : ℕ) → n < 2 ^ l → LeastRank l D1 n → ((x : List ℕ) → Packet l x → D0 x → n < rank x) → OutputBit l D0 D1 1
  no_bit : ((x : List ℕ) → Packet l x → ¬ D0 x) → ((x : List ℕ) → Packet l x → ¬ D1 x) → OutputBit l D0 D1 2

which_output : {k l : ℕ} {D0 D1 : Sem} {S : Store} (m n : ℕ) → WellFormed k S → LeastRank l D0 m → LeastRank l D1 n
    → Does k S (ask (less n m) (ret 1) (ask (less m (2 ^ l)) (ret 0) (ret 2))) (λ S h. OutputBit l D0 D1 h)
which_output {l = l} m n F M N = ask_does (less n m) tt
    (λ t. let i = ltb→lt n m t in ret_does 1 F (bit_1 n (omega (arith, M.most)) N (λ x X d. omega (arith, M.first x X d))))
    (λ t. let i = nltb→le n m t in ask_does (less m (2 ^ l)) tt
    (λ u. ret_does 0 F (bit_0 m (ltb→lt m (2 ^ l) u) M (λ x X d. omega (arith, N.first x X d))))
    (λ u. let j = nltb→le m (2 ^ l) u in ret_does 2 F (no_bit (none_least j M) (none_least (omega arith) N))))

-- THE FIRST DIGIT of R's first pair: R has pairs in that child, and the first pair there is the rest of R's
pub record FirstDigit (l : ℕ) (R : Rel) (d : ℕ) : Type 0 where
  pub digit : d < 4
  pub some : Some2 l (block R (d / 2) (d % 2))
  pub next : (x y : List ℕ) → FirstPair l (block R (d / 2) (d % 2)) x y → FirstPair (suc l) R (d / 2 ∷ x) (d % 2 ∷ y)

-- the pair in block i o whose input has rank m is first, where no pair's input is before it, nor its output where the inputs are equal
module _ {l : ℕ} (R : Rel) (i o m : ℕ) (bi : i < 2) (bo : o < 2) (small : m < 2 ^ l) (M : LeastRank l (Domain l (block R i o)) m)
    (inputs : (j c : ℕ) → j < 2 → c < 2 → (x y : List ℕ) → Packet l x → Packet l y → block R j c x y → i * 2 ^ l + m ≤ j * 2 ^ l + rank x)
    (outputs : (c : ℕ) → c < o → (x y : List ℕ) → Packet l x → Packet l y → block R i c x y → m < rank x) where
  there : Some2 l (block R i o)
  there = let c = M.here small in (ranked l m, ranked_is l m, c)

  module _ (x y : List ℕ) (A : FirstPair l (block R i o) x y) where
    at_rank : rank x ≡ m
    at_rank =
        let c = M.here small in
        let u = rank_first (ranked_is l m) A.input (A.least_input _ _ (ranked_is l m) c.1 c.2) in
        let v = M.first x A.input (y, A.output, A.related) in
        let e = rank_ranked l m small in
        omega arith

    least_in : (x' y' : List ℕ) → Packet (suc l) x' → Packet (suc l) y' → R x' y' → is_before x' (i ∷ x) ≡ false
    least_in x' y' (more {ds = u} j bj U) (more {ds = v} c bc N) r = not_before (more j bj U) (more i bi A.input)
        (rw (rank_more i A.input, rank_more j U, at_rank) (inputs j c bj bc u v U N r))

    least_out : (y' : List ℕ) → Packet (suc l) y' → R (i ∷ x) y' → is_before y' (o ∷ y) ≡ false
    unfolding is_before
    least_out y' (more {ds = v} c bc N) r = elim (ℕ_discrete c o) [
      | yes e ↦ rw (eq-eqb c o e) (A.least_output v N (subst (λ c. R (i ∷ x) (c ∷ v)) e r))
      | no n ↦ elim (dec_lt c o) [
        | yes g ↦ absurd (let z : ⊥ = omega (arith, outputs c g x v A.input N r, at_rank) in z)
        | no g ↦ rw (ne_eqb c o n) (le-ltb c o (omega arith))
      ]
    ]

    first_next : FirstPair (suc l) R (i ∷ x) (o ∷ y)
    first_next = record {
      input = more i bi A.input;
      output = more o bo A.output;
      related = A.related;
      least_input = least_in;
      least_output = least_out;
    }

-- what is not before an input that begins with 0, and one that begins with 1
module _ {l : ℕ} (R : Rel) (m : ℕ) where
  from_0 : ((x : List ℕ) → Packet l x → Domain l (block R 0 0) x → m ≤ rank x) → ((x : List ℕ) → Packet l x → Domain l (block R 0 1) x → m ≤ rank x)
      → m < 2 ^ l → (j c : ℕ) → j < 2 → c < 2 → (x y : List ℕ) → Packet l x → Packet l y → block R j c x y → 0 * 2 ^ l + m ≤ j * 2 ^ l + rank x
  from_0 f g s j c bj bc = on-bits (λ j. (c : ℕ) → c < 2 → (x y : List ℕ) → Packet l x → Packet l y → block R j c x y → 0 * 2 ^ l + m ≤ j * 2 ^ l + rank x)
      (on-bits (λ c. (x y : List ℕ) → Packet l x → Packet l y → block R 0 c x y → 0 * 2 ^ l + m ≤ 0 * 2 ^ l + rank x)
      (λ x y X Y r. rw zero-mul (omega (arith, f x X (y, Y, r)))) (λ x y X Y r. rw zero-mul (omega (arith, g x X (y, Y, r)))))
      (λ c bc x y X Y r. rw (zero-mul, one-mul) (omega arith)) j bj c bc

  from_1 : ((x : List ℕ) → Packet l x → ¬ Domain l (block R 0 0) x) → ((x : List ℕ) → Packet l x → ¬ Domain l (block R 0 1) x)
      → ((x : List ℕ) → Packet l x → Domain l (block R 1 0) x → m ≤ rank x) → ((x : List ℕ) → Packet l x → Domain l (block R 1 1) x → m ≤ rank x)
      → (j c : ℕ) → j < 2 → c < 2 → (x y : List ℕ) → Packet l x → Packet l y → block R j c x y → 1 * 2 ^ l + m ≤ j * 2 ^ l + rank x
  from_1 n₀ n₁ f g j c bj bc = on-bits (λ j. (c : ℕ) → c < 2 → (x y : List ℕ) → Packet l x → Packet l y → block R j c x y → 1 * 2 ^ l + m ≤ j * 2 ^ l + rank x)
      (on-bits (λ c. (x y : List ℕ) → Packet l x → Packet l y → block R 0 c x y → 1 * 2 ^ l + m ≤ 0 * 2 ^ l + rank x)
      (λ x y X Y r. absurd (n₀ x X (y, Y, r))) (λ x y X Y r. absurd (n₁ x X (y, Y, r))))
      (on-bits (λ c. (x y : List ℕ) → Packet l x → Packet l y → block R 1 c x y → 1 * 2 ^ l + m ≤ 1 * 2 ^ l + rank x)
      (λ x y X Y r. omega (arith, f x X (y, Y, r))) (λ x y X Y r. omega (arith, g x X (y, Y, r)))) j bj c bc

-- an output before bit o of the same input: none before 0, and 0 before 1
module _ {l : ℕ} (R : Rel) (i m : ℕ) where
  before_0 : (c : ℕ) → c < 0 → (x y : List ℕ) → Packet l x → Packet l y → block R i c x y → m < rank x
  before_0 c h = absurd (let z : ⊥ = omega arith in z)

  before_1 : ((x : List ℕ) → Packet l x → Domain l (block R i 0) x → m < rank x) → (c : ℕ) → c < 1 → (x y : List ℕ) → Packet l x → Packet l y
      → block R i c x y → m < rank x
  before_1 f c h x y X Y r = f x X (y, Y, subst (λ c. block R i c x y) (let e : c ≡ 0 = omega arith in e) r)

module _ {l : ℕ} (R : Rel) where
  digit_from_0 : (d : ℕ) → d < 2 → OutputBit l (Domain l (block R 0 0)) (Domain l (block R 0 1)) d → FirstDigit l R d
  digit_from_0 d h (bit_0 m s M f) = let u = from_0 R m M.first f s in let v = before_0 {l = l} R 0 m in record {
    digit = omega arith;
    some = there R 0 0 m (omega arith) (omega arith) s M u v;
    next = first_next R 0 0 m (omega arith) (omega arith) s M u v;
  }
  digit_from_0 d h (bit_1 n s N f) = let u = from_0 R n (λ x X c. omega (arith, f x X c)) N.first s in let v = before_1 R 0 n f in record {
    digit = omega arith;
    some = there R 0 1 n (omega arith) (omega arith) s N u v;
    next = first_next R 0 1 n (omega arith) (omega arith) s N u v;
  }
  digit_from_0 d h (no_bit n₀ n₁) = absurd (let z : ⊥ = omega arith in z)

  digit_from_1 : (d : ℕ) → Some2 (suc l) R → ((x : List ℕ) → Packet l x → ¬ Domain l (block R 0 0) x) → ((x : List ℕ) → Packet l x → ¬ Domain l (block R 0 1) x)
      → OutputBit l (Domain l (block R 1 0)) (Domain l (block R 1 1)) d → FirstDigit l R (2 + min d 1)
  digit_from_1 d c n₀ n₁ (bit_0 m s M f) = let u = from_1 R m n₀ n₁ M.first f in let v = before_0 {l = l} R 1 m in record {
    digit = omega arith;
    some = there R 1 0 m (omega arith) (omega arith) s M u v;
    next = first_next R 1 0 m (omega arith) (omega arith) s M u v;
  }
  digit_from_1 d c n₀ n₁ (bit_1 n s N f) = let u = from_1 R n n₀ n₁ (λ x X c. omega (arith, f x X c)) N.first in let v = before_1 R 1 n f in record {
    digit = omega arith;
    some = there R 1 1 n (omega arith) (omega arith) s N u v;
    next = first_next R 1 1 n (omega arith) (omega arith) s N u v;
  }
  digit_from_1 d c n₀ n₁ (no_bit m₀ m₁) = absurd (elim ((some2_split l R).1 c) [
    | inl e ↦ n₀ e.0 e.1 e.2
    | inr e ↦ elim e [
      | inl e ↦ n₁ e.0 e.1 e.2
      | inr e ↦ elim e [ inl e ↦ m₀ e.0 e.1 e.2 | inr e ↦ m₁ e.0 e.1 e.2 ]
    ]
  ])

-- where no output bit was found there is no pair
no_outputs : {l : ℕ} {D0 D1 : Sem} (d : ℕ) → 2 ≤ d → OutputBit l D0 D1 d → ((x : List ℕ) → Packet l x → ¬ D0 x) × ((x : List ℕ) → Packet l x → ¬ D1 x)
no_outputs d h (bit_0 m s M f) = absurd (let z : ⊥ = omega arith in z)
no_outputs d h (bit_1 n s N f) = absurd (let z : ⊥ = omega arith in z)
no_outputs d h (no_bit n₀ n₁) = (n₀, n₁)

module _ {k : ℕ} where
  output_bit_does : {P Q Q' : Sem} {R R' : Rel} {S : Store} (l p a b q0 q1 : ℕ) → WellFormed k S → l ≤ k → Den set l P S p → Relates l R S a
      → Relates l R' S b → Den set l Q S q0 → Den set l Q' S q1
      → Does k S (output_bit l p a b q0 q1) (λ S h. OutputBit l (Domain l (From P R Q)) (Domain l (From P R' Q')) h)
  unfolding output_bit
  output_bit_does l p a b q0 q1 F i A B B' C C' = bind_does (first_input_does l p a q0 F i A B C) λ S₁ m E₁ F₁ M.
      bind_does (first_input_does l p b q1 F₁ i (den_ext E₁ A) (relates_ext E₁ B') (den_ext E₁ C')) λ S₂ n E₂ F₂ N. which_output m n F₂ M N

  pub first_digit_does : {P Q : Sem} {R : Rel} {S : Store} (l p a q : ℕ) → WellFormed k S → suc l ≤ k → Den set (suc l) P S p → Relates (suc l) R S a
      → Den set (suc l) Q S q → Some2 (suc l) (From P R Q) → Does k S (first_digit (suc l) p a q) (λ S d. FirstDigit l (From P R Q) d)
  unfolding first_digit
  first_digit_does {P} {Q} {R} {S} l p a q F i A B C c = look_does set p (held_within l A.held)
      (look_does set q (held_within l C.held) (look_does rel a (held_within l B.held)
      (let p1 = den_child A 1 (omega arith) in
      let q0 = den_child C 0 (omega arith) in
      let q1 = den_child C 1 (omega arith) in
      let W = From P R Q in
      bind_does (output_bit_does l _ _ _ _ _ F (omega arith) (den_child A 0 (omega arith)) (relates_x00 B) (relates_x01 B) q0 q1) λ S₁ d E₁ F₁ D.
      ask_does (less d 2) tt (λ t. ret_does d F₁ (digit_from_0 W d (ltb→lt d 2 t) D))
      (λ t. let n = no_outputs d (nltb→le d 2 t) D in
      bind_does (output_bit_does l _ _ _ _ _ F₁ (omega arith) (den_ext E₁ p1) (relates_ext E₁ (relates_x10 B)) (relates_ext E₁ (relates_x11 B))
      (den_ext E₁ q0) (den_ext E₁ q1)) λ S₂ e E₂ F₂ E. ret_does _ F₂ (digit_from_1 W e c n.0 n.1 E)))))
