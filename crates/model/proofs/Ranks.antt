-- The rank of the first packet in P, or 2^l where there is none: of a union it is the lesser, and of packets of one more field it is had from both halves.
use mathlib.Core.Path.{◌≡◌, refl, sym, ap, subst}
use mathlib.Core.List.{List, ◌∷◌}
use mathlib.Core.Logic.{◌⊎◌, inl, inr, ◌↔◌}
use Prim.Native.Nat.{ℕ, suc, ◌+◌, ◌*◌, ◌/◌, ◌%◌, ◌^◌, ◌<◌, ◌≤◌, zero-le, min}
use native.Mathlib.Omega.{arith}
use native.Mathlib.Decide.{dec_lt}
use native.Mathlib.Nat.{div-eq_of_lt, mul-add-div_right, one-mul, pow-suc, zero-mul}
use Rattle.model.specs.FieldOrder.{rank, ranked}
use Rattle.model.specs.FirstPair.{LeastRank}
use Rattle.model.specs.Meaning.{Sem}
use Rattle.model.specs.Packets.{more, Packet}
use Rattle.model.proofs.Bools.{on-bits}
use Rattle.model.proofs.FieldOrder.{packet_length, ranked_is, ranked_add, rank_below}
use Rattle.model.proofs.Powers.{pow_pos}

module _ {l : ℕ} where
  pub least_none : {P : Sem} → ((x : List ℕ) → Packet l x → ¬ P x) → LeastRank l P (2 ^ l)
  least_none n = record { most = omega arith; here = λ i. absurd (let z : ⊥ = omega arith in z); first = λ x X p. absurd (n x X p) }

  -- what is not there by its rank is not there
  pub none_least : {P : Sem} {h : ℕ} → 2 ^ l ≤ h → LeastRank l P h → (x : List ℕ) → Packet l x → ¬ P x
  none_least i A x X p = let z : ⊥ = omega (arith, i, A.first x X p, rank_below X) in z

  pub least_zero : {P : Sem} → ((x : List ℕ) → Packet l x → P x) → LeastRank l P 0
  least_zero f = record { most = zero-le; here = λ i. f _ (ranked_is l 0); first = λ x X p. zero-le }

  pub least_iff : {P Q : Sem} {h : ℕ} → ((x : List ℕ) → Packet l x → P x ↔ Q x) → LeastRank l P h → LeastRank l Q h
  least_iff {h = h} e A = record {
    most = A.most;
    here = λ i. (e _ (ranked_is l h)).0 (A.here i);
    first = λ x X q. A.first x X ((e x X).1 q);
  }

  -- nothing is before rank 0
  pub least_either_zero : {P Q : Sem} → LeastRank l P 0 → LeastRank l (λ x. P x ⊎ Q x) 0
  least_either_zero A = record { most = zero-le; here = λ i. inl (A.here i); first = λ x X p. zero-le }

  pub least_either : {P Q : Sem} {m n : ℕ} → LeastRank l P m → LeastRank l Q n → LeastRank l (λ x. P x ⊎ Q x) (min m n)
  least_either {P} {Q} {m} {n} A B = record {
    most = omega (arith, A.most);
    here = λ i. elim (dec_lt n m) [
      | yes g ↦ (let e : min m n ≡ n = omega arith in rw e (inr (B.here (omega arith))))
      | no g ↦ (let e : min m n ≡ m = omega arith in rw e (inl (A.here (omega arith))))
    ];
    first = λ x X. elim [ inl p ↦ omega (arith, A.first x X p) | inr q ↦ omega (arith, B.first x X q) ];
  }

-- packets of one more field: the first of those that begin with 0, else of those that begin with 1
pub rank_more : {l : ℕ} {p : List ℕ} (b : ℕ) → Packet l p → rank (b ∷ p) ≡ b * 2 ^ l + rank p
unfolding rank
rank_more {l} {p} b X = ap (λ n. b * 2 ^ n + rank p) (packet_length X)

first_ranked : (l m : ℕ) → m < 2 ^ l → ranked (suc l) m ≡ 0 ∷ ranked l m
unfolding ranked
first_ranked l m i = let e : m / 2 ^ l % 2 ≡ 0 = rw (div-eq_of_lt i) refl in rw e

second_ranked : (l n : ℕ) → n < 2 ^ l → ranked (suc l) (2 ^ l + n) ≡ 1 ∷ ranked l n
unfolding ranked
second_ranked l n i =
    let f : 1 * 2 ^ l + n ≡ 2 ^ l + n = rw one-mul refl in
    let e : (1 * 2 ^ l + n) / 2 ^ l % 2 ≡ 1 = rw (mul-add-div_right (pow_pos l) 1 n, div-eq_of_lt i) (omega arith) in
    subst (λ k. k / 2 ^ l % 2 ∷ ranked l k ≡ 1 ∷ ranked l n) f (cc (e, ranked_add l n 1))

module _ {l : ℕ} {P : Sem} where
  pub least_first_half : {m : ℕ} → m < 2 ^ l → LeastRank l (λ p. P (0 ∷ p)) m → LeastRank (suc l) P m
  least_first_half {m} i A = record {
    most = rw pow-suc (omega (arith, A.most));
    here = λ j. subst P (sym (first_ranked l m i)) (A.here i);
    first = go;
  }
    where
      by_bit : (b : ℕ) → b < 2 → (x : List ℕ) → Packet l x → P (b ∷ x) → m ≤ rank (b ∷ x)
      by_bit = on-bits (λ b. (x : List ℕ) → Packet l x → P (b ∷ x) → m ≤ rank (b ∷ x))
          (λ x X p. rw (rank_more 0 X, zero-mul) (omega (arith, A.first x X p)))
          (λ x X p. rw (rank_more 1 X, one-mul) (omega arith))

      go : (x : List ℕ) → Packet (suc l) x → P x → m ≤ rank x
      go x (more {ds = y} b j Y) p = by_bit b j y Y p

  pub least_second_half : {m n : ℕ} → 2 ^ l ≤ m → LeastRank l (λ p. P (0 ∷ p)) m → LeastRank l (λ p. P (1 ∷ p)) n → LeastRank (suc l) P (2 ^ l + min n (2 ^ l))
  least_second_half {m} {n} i A B = let e : min n (2 ^ l) ≡ n = omega (arith, B.most) in rw e (record {
    most = rw pow-suc (omega (arith, B.most));
    here = λ j. let g : n < 2 ^ l = (let h : 2 ^ l + n < 2 ^ l * 2 = rw pow-suc at j in omega arith) in subst P (sym (second_ranked l n g)) (B.here g);
    first = go;
  })
    where
      by_bit : (b : ℕ) → b < 2 → (x : List ℕ) → Packet l x → P (b ∷ x) → 2 ^ l + n ≤ rank (b ∷ x)
      by_bit = on-bits (λ b. (x : List ℕ) → Packet l x → P (b ∷ x) → 2 ^ l + n ≤ rank (b ∷ x))
          (λ x X p. absurd (none_least i A x X p))
          (λ x X p. rw (rank_more 1 X, one-mul) (omega (arith, B.first x X p)))

      go : (x : List ℕ) → Packet (suc l) x → P x → 2 ^ l + n ≤ rank x
      go x (more {ds = y} b j Y) p = by_bit b j y Y p
