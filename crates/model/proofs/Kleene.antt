-- Ways by steps of a relation: the ways of a matrix through those of its last block, as `star` computes them.
-- a way from p to q by steps of R
use mathlib.Core.Path.{refl, subst}
use mathlib.Core.Logic.{◌⊎◌, inl, inr, ◌↔◌}
use mathlib.Core.List.{List, ◌∷◌}
use Prim.Native.Nat.{ℕ, zero, suc, ◌<◌}
use native.Mathlib.Omega.{arith}
use Rattle.model.specs.Meaning.{Rel, Same, Compose, Steps, Star}
use Rattle.model.specs.Packets.{more, Packet}
use Rattle.model.proofs.Bools.{on-bits}
use Rattle.model.proofs.Pairs.{block, Matrix}

pub data Way (l : ℕ) (R : Rel) (q : List ℕ) : List ℕ → Type 0 where
  stop : Way l R q q
  step : {p m : List ℕ} → Packet l m → R p m → Way l R q m → Way l R q p

abbrev pub Ways : ℕ → Rel → Rel
Ways l R p q = Way l R q p

pub join_ways : {l : ℕ} {R : Rel} {q p r : List ℕ} → Ways l R p q → Ways l R q r → Ways l R p r
join_ways stop t = t
join_ways (step M r s) t = step M r (join_ways s t)

lift : {l l' : ℕ} {R R' : Rel} (f : List ℕ → List ℕ) → ((p q : List ℕ) → Packet l q → R p q → Ways l' R' (f p) (f q)) → {q p : List ℕ} → Ways l R p q
    → Ways l' R' (f p) (f q)
lift f g stop = stop
lift f g (step {p = p} {m = m} M r s) = join_ways (g p m M r) (lift f g s)

-- the blocks of a Ways, as the Rust computes them
module _ (l : ℕ) (R : Rel) where
  abbrev pub via : Rel
  via = Compose l (block R 0 1) (Ways l (block R 1 1))

  abbrev pub once_round : Rel
  once_round p q = block R 0 0 p q ⊎ Compose l via (block R 1 0) p q

  abbrev pub ra : Rel
  ra = Ways l once_round

  abbrev pub rc : Rel
  rc = Compose l (Ways l (block R 1 1)) (Compose l (block R 1 0) ra)

  abbrev pub way_blocks : ℕ → ℕ → Rel
  way_blocks zero zero = ra
  way_blocks zero (suc o) = Compose l ra via
  way_blocks (suc i) zero = rc
  way_blocks (suc i) (suc o) = λ p q. Ways l (block R 1 1) p q ⊎ Compose l rc via p q

  -- a step before a way
  abbrev Before : ℕ → ℕ → ℕ → Type 0
  Before i m o = (p n q : List ℕ) → Packet l p → Packet l n → block R i m p n → way_blocks m o n q → way_blocks i o p q

  c010 : Before 0 1 0
  c010 p n q P N r s = step s.3.1 (inr (s.0, s.1, (n, N, r, s.2), s.3.2)) s.3.3

  c011 : Before 0 1 1
  c011 p n q P N r (inl s) = (p, P, stop, (n, N, r, s))
  c011 p n q P N r (inr s) = (s.0, s.1, c010 p n s.0 P N r s.2, s.3)

  c100 : Before 1 0 0
  c100 p n q P N r s = (p, P, stop, (n, N, r, s))

  c110 : Before 1 1 0
  c110 p n q P N r s = (s.0, s.1, step N r s.2, s.3)

  c111 : Before 1 1 1
  c111 p n q P N r (inl s) = inl (step N r s)
  c111 p n q P N r (inr s) = inr (s.0, s.1, c110 p n s.0 P N r s.2, s.3)

  before : (i : ℕ) → i < 2 → (m : ℕ) → m < 2 → (o : ℕ) → o < 2 → Before i m o
  before = on-bits (λ i. (m : ℕ) → m < 2 → (o : ℕ) → o < 2 → Before i m o)
      (on-bits (λ m. (o : ℕ) → o < 2 → Before 0 m o)
      (on-bits (Before 0 0) (λ p n q P N r s. step N (inl r) s) (λ p n q P N r s. (s.0, s.1, step N (inl r) s.2, s.3)))
      (on-bits (Before 0 1) c010 c011))
      (on-bits (λ m. (o : ℕ) → o < 2 → Before 1 m o)
      (on-bits (Before 1 0) c100 (λ p n q P N r s. inr (s.0, s.1, c100 p n s.0 P N r s.2, s.3)))
      (on-bits (Before 1 1) c110 c111))

  into : {q p : List ℕ} → Packet (suc l) p → Packet (suc l) q → Ways (suc l) R p q → Matrix way_blocks p q
  into P Q stop = nothing P
    where
      nothing : {p : List ℕ} → Packet (suc l) p → Matrix way_blocks p p
      nothing (more {ds = p} i a P) = on-bits (λ i. (p : List ℕ) → way_blocks i i p p) (λ p. stop) (λ p. inl stop) i a p
  into P Q (step N r s) = prepend P N Q r (into N Q s)
    where
      prepend : {p n q : List ℕ} → Packet (suc l) p → Packet (suc l) n → Packet (suc l) q → R p n → Matrix way_blocks n q → Matrix way_blocks p q
      prepend (more i a P) (more m b N) (more o c Q) r s = before i a m b o c _ _ _ P N r s

  -- and back
  from_d : {p q : List ℕ} → Ways l (block R 1 1) p q → Ways (suc l) R (1 ∷ p) (1 ∷ q)
  from_d = lift (λ p. 1 ∷ p) (λ p q Q r. step (more 1 (omega arith) Q) r stop)

  from_via : {p q : List ℕ} → via p q → Ways (suc l) R (0 ∷ p) (1 ∷ q)
  from_via s = step (more 1 (omega arith) s.1) s.2 (from_d s.3)

  from_a : {p q : List ℕ} → ra p q → Ways (suc l) R (0 ∷ p) (0 ∷ q)
  from_a = lift (λ p. 0 ∷ p) (λ p q Q. elim [
    | inl r ↦ step (more 0 (omega arith) Q) r stop
    | inr s ↦ join_ways (from_via s.2) (step (more 0 (omega arith) Q) s.3 stop)
  ])

  from_c : {p q : List ℕ} → rc p q → Ways (suc l) R (1 ∷ p) (0 ∷ q)
  from_c s = join_ways (from_d s.2) (step (more 0 (omega arith) s.3.1) s.3.2 (from_a s.3.3))

  out : (i : ℕ) → i < 2 → (o : ℕ) → o < 2 → (p q : List ℕ) → way_blocks i o p q → Ways (suc l) R (i ∷ p) (o ∷ q)
  out = on-bits (λ i. (o : ℕ) → o < 2 → (p q : List ℕ) → way_blocks i o p q → Ways (suc l) R (i ∷ p) (o ∷ q))
      (on-bits (λ o. (p q : List ℕ) → way_blocks 0 o p q → Ways (suc l) R (0 ∷ p) (o ∷ q)) (λ p q s. from_a s)
      (λ p q s. join_ways (from_a s.2) (from_via s.3)))
      (on-bits (λ o. (p q : List ℕ) → way_blocks 1 o p q → Ways (suc l) R (1 ∷ p) (o ∷ q)) (λ p q s. from_c s)
      (λ p q. elim [ inl s ↦ from_d s | inr s ↦ join_ways (from_c s.2) (from_via s.3) ]))

  pub ways_blocks : Same (suc l) (Matrix way_blocks) (Ways (suc l) R)
  ways_blocks p q P Q = (outwards P Q, into P Q)
    where
      outwards : {p q : List ℕ} → Packet (suc l) p → Packet (suc l) q → Matrix way_blocks p q → Ways (suc l) R p q
      outwards (more {ds = p} i a P) (more {ds = q} o b Q) s = out i a o b p q s

-- a way is a finite number of steps
pub ways_steps : (l : ℕ) (R : Rel) (p q : List ℕ) → Ways l R p q ↔ Star l R p q
ways_steps l R p q = (count, λ c. way c.0 p c.1)
  where
    count : {p : List ℕ} → Ways l R p q → (n : ℕ) × Steps l n R p q
    count stop = (0, refl)
    count (step {m = m} M r s) = let c = count s in (suc c.0, (m, M, r, c.1))

    way : (n : ℕ) (p : List ℕ) → Steps l n R p q → Ways l R p q
    way zero p e = subst (λ r. Ways l R p r) e stop
    way (suc n) p c = step c.1 c.2 (way n c.0 c.3)
