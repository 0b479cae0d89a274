-- `walked` has the word of the handle's nodes; the measure is the level.
use mathlib.Core.Path.{◌≡◌, sym, ap, ◌∙◌, subst}
use mathlib.Core.List.{List}
use mathlib.Core.Bool.{Bool, false}
use Prim.Native.Nat.{ℕ, ◌-◌, ◌<◌, ◌≤◌}
use native.Mathlib.Omega.{arith}
use Rattle.model.specs.Store.{Kind, rel, arity, Store, child}
use Rattle.model.specs.Programs.{is_identity, ending, agrees}
use Rattle.model.specs.WellFormed.{Held, WellFormed}
use Rattle.memory.specs.Rows.{places, plain}
use Rattle.memory.specs.Working.{Has}
use Rattle.memory.proofs.Known.{zero_has}
use Rattle.memory.proofs.Walks.{level_within, first_held, walked_has}
use Rattle.memory.proofs.property_words.+walked.Goals as goal

-- the places of a kind, and the identity where the kind is that of relations
room : (K : Kind) (c n : ℕ) (m : List ℕ) → c ≡ arity K → n ≤ places (arity K) m → n ≤ places c m
room K c n m a r = subst (λ c. n ≤ places c m) (sym a) r

of_rel : (K : Kind) (k : ℕ) (B : Store) (m : List ℕ) (c n l h x : ℕ) (q i : Bool) → c ≡ arity K → WellFormed k (plain K B m n) → Held K (plain K B m n) l h
    → n ≤ places (arity K) m → x ≡ child K (plain K B m n) h 0 → (K ≡ rel → agrees (ending is_identity) K (l - 1) x (plain K B m n) ≡ q)
    → (c ≡ arity rel → n ≤ places 4 m → WellFormed k (plain rel B m n) → Held rel (plain rel B m n) l h → x ≡ child rel (plain rel B m n) h 0
    → q ≡ agrees (ending is_identity) rel (l - 1) x (plain rel B m n) → i ≡ agrees (ending is_identity) rel l h (plain rel B m n))
    → K ≡ rel → agrees (ending is_identity) K l h (plain K B m n) ≡ i
of_rel K k B m c n l h x q i a F A r e H I z =
    subst (λ K. WellFormed k (plain K B m n) → Held K (plain K B m n) l h → n ≤ places (arity K) m → x ≡ child K (plain K B m n) h 0
    → agrees (ending is_identity) K (l - 1) x (plain K B m n) ≡ q → agrees (ending is_identity) K l h (plain K B m n) ≡ i) (sym z)
    (λ F A r e H. sym (I (a ∙ ap arity z) r F A e (sym H))) F A r e (H z)

pub returns-then-level-eq0 : goal.returns-then-level-eq0
returns-then-level-eq0 t c = λ K w a. record { knows = λ k B n r F W A. zero_has K _ _ _ _ c.if-level-eq0.true c.constant_word.ensures A }

pub returns : goal.returns
returns t c =
    let s = c.args in
    let x = c.child_of-x.result in
    let p = c.properties_in-p in
    let pos : 0 < s.level = omega (arith, c.if-level-eq0.false) in
    λ K w a. record {
      knows = λ k B n r F W A.
          let r' = room K s.c n s.nodes.now a r in
          let S = plain K B s.nodes.now n in
          let v = level_within K S s.level s.h pos A in
          let e = c.child_of-x.ensures K B n a r' v in
          let all = c.children_are-same.ensures K B n a r' v in
          let D = first_held K s.c s.level s.h x _ false p.result a F pos A e all in
          let H = subst (Has K S _ _) (sym p.ensures) ((c.walked.ensures K w a).knows k B n r F W D) in
          let is = c.word_of.ensures.0 (c.word_of.ensures.1 (omega arith)) in
          subst (Has K S _ _) (sym is) (walked_has K s.c s.level s.h x _ c.is_identity.result p.result a F pos A e all H
          (of_rel K k B s.nodes.now s.c n s.level s.h x _ _ a F A r e H.identity (c.is_identity.ensures k B n)));
    }
