-- `memory::property_words::handle_word` meets its contract: the constants' words are known, a node's is at its place, and a set's odd handle has the
-- opposite word.
use mathlib.Core.Path.{◌≡◌, subst}
use mathlib.Core.List.{List}
use Prim.Native.Nat.{ℕ, ◌<◌}
use native.Mathlib.Omega.{arith}
use lib.ListN.{length, get_or}
use Rattle.model.specs.Store.{Kind, set, Store, index, handle_of}
use Rattle.memory.specs.Working.{Known}
use Rattle.memory.specs.Noting.{WordsOf}
use Rattle.memory.proofs.Known.{known_constant, known_at, is_set, is_rel}
use Rattle.memory.proofs.property_words.handle_word.Goals.{else-c-eq2-via-then-c-eq2+else-h-eq1, else-c-eq2-via-else-c-eq2}
use Rattle.memory.proofs.property_words.handle_word.Goals as goal

-- the word at the handle's place
placed : (K : Kind) (S : Store) (ws : List ℕ) (h i : ℕ) → i ≡ index K h → i < length ws → WordsOf K ws S
    → Known K S (handle_of K 0 (index K h)) (get_or ws i 0)
placed K S ws h i e b W = rw (← e) (known_at K S ws i W b)

pub returns-then-h-lt2 : goal.returns-then-h-lt2
returns-then-h-lt2 c = λ K k S e F W. known_constant K S _ _ c.if-h-lt2.true (λ p. c.constant_word.ensures)

pub returns-then-h-eq1 : goal.returns-then-h-eq1
returns-then-h-eq1 c =
    let a = c.args in
    let v = get_or a.words.now c.place_of-i.result 0 in
    λ K k S e F W. is_set (λ (K : Kind). Known K S (handle_of K 0 (index K a.h)) v → Known K S a.h c.opposite_word.result)
    (λ o. subst (λ (g : ℕ). Known set S g c.opposite_word.result) (omega arith)
    (c.opposite_word.ensures k S (handle_of set 0 (index set a.h)) F o))
    K (omega arith) (placed K S a.words.now a.h _ (c.place_of-i.ensures K e) (omega arith) W)

pub returns-else-c-eq2 : goal.returns-else-c-eq2
returns-else-c-eq2 c =
    let a = c.args in
    let v = get_or a.words.now c.place_of-i.result 0 in
    let p = c.place_of-i.ensures in
    elim c.else-c-eq2.branch [
      | else-c-eq2-via-then-c-eq2+else-h-eq1 b ↦
          λ K k S e F W. subst (λ (g : ℕ). Known K S g v) (is_set (λ (K : Kind). handle_of K 0 (index K a.h) ≡ a.h) (omega arith) K (omega arith))
          (placed K S a.words.now a.h _ (p K e) (omega arith) W)
      | else-c-eq2-via-else-c-eq2 b ↦
          λ K k S e F W. subst (λ (g : ℕ). Known K S g v)
          (is_rel (λ (K : Kind). handle_of K 0 (index K a.h) ≡ a.h) _ b.if-c-eq2.false (omega arith) K e)
          (placed K S a.words.now a.h _ (p K e) (omega arith) W)
    ]
