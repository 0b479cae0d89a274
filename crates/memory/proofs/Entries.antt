-- The entries of the memo: one that is read answers, and one that is written leaves the others as they were.
use mathlib.Core.Path.{◌≡◌, refl, ap, ◌∙◌, subst}
use mathlib.Core.List.{List}
use Prim.Native.Nat.{ℕ, ◌+◌, ◌*◌, ◌/◌, ◌%◌, ◌<◌}
use native.Mathlib.Omega.{arith}
use lib.ListN.{length, get_or}
use Rattle.model.specs.Store.{Store}
use Rattle.model.specs.Programs.{ran, run}
use Rattle.model.specs.Safety.{Settled}
use Rattle.model.proofs.Extends.{ext_refl}
use Rattle.memory.specs.Memo.{memo_program, op_limit}
use Rattle.memory.specs.Working.{memo_size, operand_limit, entry_result, first_number, key_number, Entry, Remembers}
use Rattle.memory.specs.Performing.{Recalls, Says}
use Rattle.std.specs.Prelude.{Some}

-- what the two numbers of an entry say
says : (x y op l a b : ℕ) → op < op_limit → a < operand_limit → b < operand_limit → x ≡ first_number op a b → y / operand_limit ≡ key_number op l
    → Says x y op l a b (entry_result y)
says x y op l a b o i j e f = record {
  number = omega (arith, o, i, j, e, f);
  level = omega (arith, o, f);
  left = omega (arith, i, j, e);
  right = omega (arith, i, j, e);
  result = refl;
}

-- an entry that says what is settled is right, and a right one answers
pub says_entry : (x y op l a b h : ℕ) {S : Store} → Says x y op l a b h → Settled (memo_program op l a b) S h → Entry x y S
unfolding Entry
says_entry x y op l a b h t s p = rw (t.number, t.level, t.left, t.right, t.result) s

says_settled : (x y op l a b h : ℕ) {S : Store} → Says x y op l a b h → 0 < y → Entry x y S → Settled (memo_program op l a b) S h
unfolding Entry
says_settled x y op l a b h t p e = rw (t.number, t.level, t.left, t.right, t.result) at (e p)

-- READING: the entry at place i answers
pub hit : (w : List ℕ) (S : Store) (i op l a b r : ℕ) → op < op_limit → a < operand_limit → b < operand_limit → i % 2 ≡ 0 → i + 1 < memo_size (length w)
    → get_or w i 0 ≡ first_number op a b → get_or w (i + 1) 0 ≡ r → r / operand_limit ≡ key_number op l → 0 < r → Remembers w S
    → run (memo_program op l a b) S ≡ ran S (r % operand_limit)
hit w S i op l a b r o u v even lt ex ey k p R =
    let at : 2 * (i / 2) ≡ i = omega (arith, even) in
    let e : Entry (get_or w i 0) (get_or w (i + 1) 0) S
    = subst (λ n. n + 1 < memo_size (length w) → Entry (get_or w n 0) (get_or w (n + 1) 0) S) at (R (i / 2)) lt in
    let f : Entry (get_or w i 0) r S = subst (λ y. Entry (get_or w i 0) y S) ey e in
    (says_settled _ _ _ _ _ _ _ (says (get_or w i 0) r op l a b o u v ex k) p f).again S ext_refl

pub recalls_hit : {w : List ℕ} {op l a b h : ℕ} → ((S : Store) → Remembers w S → run (memo_program op l a b) S ≡ ran S h)
    → Recalls w op l a b (Some h)
recalls_hit {h = h} f = record { recalls = λ S g R e. let eh : h ≡ g = cc in f S R ∙ ap (ran S) eh }
