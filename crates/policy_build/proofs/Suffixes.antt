-- What a text has from an offset on.
use mathlib.Core.Path.{◌≡◌, sym, ap, ◌∙◌}
use mathlib.Core.List.{List, ◌∷◌}
use Prim.Native.Nat.{ℕ, ◌+◌}
use native.Mathlib.Omega.{arith}
use lib.ListN.{get_or, drop}
use lib.Seq.{drop-drop, get_or-drop}

module _ (t : List ℕ) (at : ℕ) where
  -- the byte there is the first of the rest
  pub first_of : {r : List ℕ} → drop at t ≡ r → get_or t at 0 ≡ get_or r 0 0
  first_of h = ap (λ n. get_or t n 0) (let e : at ≡ at + 0 = omega arith in e) ∙ sym (get_or-drop at t 0 0) ∙ ap (λ x. get_or x 0 0) h

  pub first_is : {b : ℕ} {r : List ℕ} → drop at t ≡ b ∷ r → get_or t at 0 ≡ b
  first_is h = first_of h

  pub next : {b : ℕ} {r : List ℕ} → drop at t ≡ b ∷ r → drop (at + 1) t ≡ r
  next h = sym (drop-drop 1 at t) ∙ ap (λ x. drop 1 x) h
