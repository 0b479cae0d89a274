-- Walking down first children finds a handle's level.
use mathlib.Core.Path.{◌≡◌, sym, subst}
use Prim.Native.Nat.{ℕ, zero, suc, ◌+◌, ◌<◌, ◌≤◌}
use native.Mathlib.Omega.{arith}
use lib.ListN.{get_or}
use Rattle.model.specs.Safety.{Within}
use Rattle.model.specs.Store.{Kind, Store, get}
use Rattle.model.specs.WellFormed.{Held}
use Rattle.model.proofs.Levels.{arity_pos}
use Rattle.model.proofs.Tests.{low_level}

-- of a handle of level l, walked down by cur children, g is left
pub record Descended (K : Kind) (S : Store) (l cur g : ℕ) : Type 0 where
  pub rest : ℕ
  pub sum : l ≡ cur + rest
  pub held : Held K S rest g

pub descended_low : {K : Kind} {S : Store} {l cur g : ℕ} → g < 2 → Descended K S l cur g → cur ≡ l
descended_low {K} {S} {l} {cur} {g} b G = omega (arith, G.sum, low_level K S G.rest g G.held b)

pub descended_within : {K : Kind} {S : Store} {l cur g : ℕ} → 2 ≤ g → Descended K S l cur g → Within K S g
descended_within {K} {S} {l} {cur} {g} o G = go G.rest G.held
  where
    go : (e : ℕ) → Held K S e g → Within K S g
    go zero A = absurd (omega arith)
    go (suc e) A = record { big = A.big; there = A.there }

pub descended_next : {K : Kind} {S : Store} {l cur g r : ℕ} → 2 ≤ g → r ≡ get_or (get K S g) 0 0 → Descended K S l cur g → Descended K S l (cur + 1) r
descended_next {K} {S} {l} {cur} {g} {r} o q G = go G.rest G.sum G.held
  where
    go : (e : ℕ) → l ≡ cur + e → Held K S e g → Descended K S l (cur + 1) r
    go zero s A = absurd (omega arith)
    go (suc e) s A = record { rest = e; sum = omega arith; held = subst (Held K S e) (sym q) (A.below 0 (arity_pos K)) }
