-- Texts written one after the other, and the digits of a number. From what `put` and `io::decimal` say.
use mathlib.Core.Path.{◌≡◌, ap, ◌∙◌}
use mathlib.Core.List.{List, ◌++◌, append_assoc}
use Prim.Native.Nat.{ℕ, ◌+◌, ◌^◌, ◌<◌, ◌≤◌}
use native.Mathlib.Omega.{arith}
use lib.ListN.{length, take, length-append}
use Rattle.io.specs.Digits.{last_digits, IsDigitCount}
use Rattle.listing.specs.Decimal.{decimal}
use Rattle.listing.specs.Writing.{Adds, AddsFew}
use Rattle.listing.proofs.Sizes.{few_digits, decimal_is}

pub adds_then : {at r r' : ℕ} {s t o o' o'' : List ℕ} → Adds at s o o' r → Adds r t o' o'' r' → Adds at (s ++ t) o o'' r'
adds_then {at} {r} {r'} {s} {t} {o} {o'} {o''} a b = record {
  end = b.end ∙ (ap (λ (n : ℕ). n + length t) a.end ∙ (omega (arith, length-append s t)));
  text = b.text ∙ (ap (λ (l : List ℕ). l ++ t) a.text ∙ append_assoc (take at o) s t);
}

-- the same text in other words
pub adds_as : {at r : ℕ} {s t o o' : List ℕ} → s ≡ t → Adds at s o o' r → Adds at t o o' r
adds_as {at} {r} {s} {t} {o} {o'} e a = record {
  end = a.end ∙ ap (λ (l : List ℕ). at + length l) e;
  text = a.text ∙ ap (λ (l : List ℕ). take at o ++ l) e;
}

pub few_as : {m n at r : ℕ} {s t o o' : List ℕ} → s ≡ t → m ≤ n → AddsFew m at s o o' r → AddsFew n at t o o' r
few_as e more a = record { adds = adds_as e a.adds; few = let f = a.few in omega arith }

-- bytes s, and the digits of n
pub number_adds : {at from r : ℕ} {s u o o' o'' : List ℕ} (n k : ℕ) → n < 10 ^ 20 → Adds at s o o' from → IsDigitCount 10 1 n k
    → k ≡ length u → u ≡ last_digits 10 k n → Adds from u o' o'' r → AddsFew (length s + 20) at (s ++ decimal n) o o'' r
number_adds {at} {from} {r} {s} n k small a F long is b =
    let few = few_digits n k small F in record {
      adds = adds_then a (adds_as (is ∙ decimal_is n k F few) b);
      few = let p = a.end in let q = b.end in omega arith;
    }
