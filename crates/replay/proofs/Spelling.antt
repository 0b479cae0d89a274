-- One digit more, and a number whose digits end.
use mathlib.Core.Path.{◌≡◌, refl, sym, ap, ◌∙◌}
use mathlib.Core.List.{List, [], ◌∷◌, ◌++◌}
use Prim.Native.Nat.{ℕ, suc, ◌+◌, ◌-◌, ◌*◌, ◌<◌, ◌≤◌}
use native.Mathlib.Omega.{arith}
use lib.Dec.{ltb}
use lib.ListN.{length, take, drop, get_or, length-drop}
use lib.Seq.{take-suc}
use borrow.Author.Tests.{ltb-true}
use Rattle.std.specs.Prelude.{Option, IfSome}
use Rattle.std.specs.Bool.{then_some}
use Rattle.model.proofs.Bools.{by_test}
use Rattle.replay.specs.Numbers.{spelt, Spells, ReadsNumber}

-- the last digit counts once, those before it ten times
spelt_last : (v d : ℕ) (ds : List ℕ) → spelt v (ds ++ (d ∷ [])) ≡ 10 * spelt v ds + (d - 48)
unfolding spelt
spelt_last v d [] = refl
spelt_last v d (e ∷ ds) = spelt_last (10 * v + (e - 48)) d ds

-- the first k digits and the next
pub spelt_more : (ds : List ℕ) (k v : ℕ) → k < length ds → v ≡ spelt 0 (take k ds) → 10 * v + (get_or ds k 0 - 48) ≡ spelt 0 (take (k + 1) ds)
spelt_more ds k v within so =
    let next : k + 1 ≡ suc k = omega arith in
    let whole : spelt 0 (take (k + 1) ds) ≡ 10 * spelt 0 (take k ds) + (get_or ds k 0 - 48)
    = ap (λ (j : ℕ). spelt 0 (take j ds)) next ∙ (ap (λ (l : List ℕ). spelt 0 l) (take-suc ds k 0 within) ∙ spelt_last 0 (get_or ds k 0) (take k ds)) in
    sym (whole ∙ ap (λ (w : ℕ). 10 * w + (get_or ds k 0 - 48)) (sym so))

-- no digit yet
pub spelt_none : 0 ≡ spelt 0 []
unfolding spelt
spelt_none = refl

-- the first k bytes from a place on are digits that say v
pub read_there : {r : Option (ℕ × ℕ)} (line : List ℕ) (from v end k : ℕ) → r ≡ then_some (ltb from end) (v, end) → end ≡ from + k
    → k ≤ length (drop from line) → from ≤ length line → v ≡ spelt 0 (take k (drop from line)) → ReadsNumber line from r
read_there line from v end k is there few begun so = rw is
    (by_test (λ b. ltb from end ≡ b → IfSome {T = ℕ × ℕ} (then_some b (v, end)) (λ p. Spells line from p.0 p.1)) (ltb from end)
    (λ _ e. record {
      some = ltb-true from end e;
      within = omega (arith, length-drop from line);
      value = so ∙ ap (λ (n : ℕ). spelt 0 (take n (drop from line))) (let n : k ≡ end - from = omega arith in n);
    }) (λ _ e. tt) refl)
