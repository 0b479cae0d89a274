-- Property words: what the words of the constants, of a set's other handle, of a node at its place and of a node from its children's say.
use mathlib.Core.Path.{◌≡◌, refl, sym, ap, ◌∙◌, subst}
use mathlib.Core.Logic.{◌⊎◌, inl, inr}
use mathlib.Core.List.{List}
use mathlib.Core.Bool.{Bool, true, false, ◌&&◌}
use Prim.Native.Nat.{ℕ, zero, suc, ◌+◌, ◌-◌, ◌/◌, ◌<◌, ◌≤◌, min}
use native.Mathlib.Omega.{arith}
use lib.ListN.{length, get_or, take, drop, length-drop}
use lib.Seq.{get_or-take, get_or-drop, length-take-le}
use lib.Dec.{eqb, T}
use Rattle.model.specs.Store.{Kind, set, rel, arity, Store, handle_of, get, child, signed}
use Rattle.model.specs.Programs.{agrees}
use Rattle.model.specs.WellFormed.{Held, WellFormed}
use Rattle.model.proofs.Bools.{on_digits}
use Rattle.model.proofs.Signs.{signed_twice, index_handle}
use Rattle.model.proofs.Canonical.{walk_bit}
use Rattle.model.proofs.Canonical.{formed_sized}
use Rattle.model.proofs.Complements.{signed_held, signed_walk}
use Rattle.model.proofs.Tests.{agrees_walk, walk_agrees}
use Rattle.memory.specs.Working.{words_at, properties_in, Has, Known, Words, part_size}
use Rattle.memory.specs.Noting.{WordsOf, properties, in_both, Gathers}
use Rattle.memory.specs.declared.Properties.{Properties}

-- a kind by its child count
pub is_set : (P : Kind → Type 0) → P set → (K : Kind) → 2 ≡ arity K → P K
is_set P p set e = p
is_set P p rel e = absurd (omega arith)

pub is_rel : (P : Kind → Type 0) (c : ℕ) → (c ≡ 2 → ⊥) → P rel → (K : Kind) → c ≡ arity K → P K
is_rel P c n p set e = absurd (n e)
is_rel P c n p rel e = p

-- THE CONSTANTS
constant_has : (K : Kind) (S : Store) (h : ℕ) → h < 2 → Has K S 0 h (properties (eqb h 0) (eqb h 1) (eqb h 1) 0)
unfolding agrees
constant_has K S zero b = record { empty = refl; universal = refl; identity = λ k. refl; level = refl }
constant_has K S (suc zero) b = record { empty = refl; universal = refl; identity = λ k. refl; level = refl }
constant_has K S (suc (suc h)) b = absurd (omega arith)

pub known_constant : (K : Kind) (S : Store) (h v : ℕ) → h < 2 → (0 < v → properties_in v ≡ properties (eqb h 0) (eqb h 1) (eqb h 1) 0) → Known K S h v
known_constant K S h v b e p zero A = rw (e p) (constant_has K S h b)
known_constant K S h v b e p (suc l) A = absurd (omega (arith, A.big))

-- a handle of level 0
pub zero_has : (K : Kind) (S : Store) (l h v : ℕ) → l ≡ 0 → properties_in v ≡ properties (eqb h 0) (eqb h 1) (eqb h 1) 0 → Held K S l h
    → Has K S l h (properties_in v)
zero_has K S zero h v z e A = rw e (constant_has K S h A)
zero_has K S (suc l) h v z e A = absurd (omega arith)

pub known_nothing : {K : Kind} {S : Store} {h : ℕ} (v : ℕ) → v ≡ 0 → Known K S h v
known_nothing v e p = absurd (omega arith)

-- A SET'S OTHER HANDLE
both_ways : (a b : Bool) → (T a → T b) → (T b → T a) → a ≡ b
both_ways true true f g = refl
both_ways true false f g = absurd (f tt)
both_ways false true f g = absurd (g tt)
both_ways false false f g = refl

other_agrees : {k : ℕ} {S : Store} (l h b : ℕ) → b < 2 → WellFormed k S → Held set S l h
    → agrees (λ ds. 1 - b) set l (signed 1 h) S ≡ agrees (λ ds. b) set l h S
other_agrees {S = S} l h b i F A = both_ways _ _
    (λ t. walk_agrees set l h S (λ ds. b) (λ ds D.
    let o = agrees_walk S (λ ds. 1 - b) (signed 1 h) t D in omega (arith, o, signed_walk h F A D, walk_bit S h A D)))
    (λ t. walk_agrees set l (signed 1 h) S (λ ds. 1 - b) (λ ds D.
    let o = agrees_walk S (λ ds. b) h t D in omega (arith, o, signed_walk h F A D)))

pub known_other : (k : ℕ) (S : Store) (h v r : ℕ) → 0 < v
    → (0 < r → properties_in r ≡ properties (properties_in v).universal (properties_in v).empty false (properties_in v).level)
    → WellFormed k S → Known set S h v → Known set S (signed 1 h) r
known_other k S h v r i e F W p l A =
    let B : Held set S l h = subst (λ (g : ℕ). Held set S l g) (signed_twice 1 h) (signed_held (formed_sized set F) l 1 (signed 1 h) A) in
    let H = W i l B in
    rw (e p) (record {
      empty = other_agrees l h 1 (omega arith) F B ∙ H.universal;
      universal = other_agrees l h 0 (omega arith) F B ∙ H.empty;
      identity = λ z. absurd (let z : ◌≡◌ {A = ℕ} 0 1 = cc in omega arith);
      level = H.level;
    })

-- THE WORD AT A PLACE, of the handle without a sign
handle_big : (K : Kind) (i : ℕ) → 2 ≤ handle_of K 0 i
handle_big set i = omega arith
handle_big rel i = omega arith

pub known_at : (K : Kind) (S : Store) (ws : List ℕ) (i : ℕ) → WordsOf K ws S → i < length ws → Known K S (handle_of K 0 i) (get_or ws i 0)
known_at K S ws i W b p zero A = absurd (omega (arith, handle_big K i))
known_at K S ws i W b p (suc l) A = W i b (rw (index_handle K 0 i) at A.there) p (suc l) A

-- the words of one kind, as a part of the working memory
pub words_part : (K : Kind) (w : List ℕ) (S : Store) (s e : ℕ) → s ≡ min (words_at K (length w)) (length w) → e ≤ length w → e ≤ s + part_size → Words w S
    → WordsOf K (take (e - s) (drop s w)) S
words_part K w S s e q a b W i l t =
    let z : length (take (e - s) (drop s w)) ≡ e - s = length-take-le (e - s) (drop s w) (omega (arith, length-drop s w)) in
    let j : s ≡ words_at K (length w) = omega arith in
    subst (Known K S (handle_of K 0 i)) (sym (get_or-take (e - s) (drop s w) i 0 (omega arith) ∙ get_or-drop s w i 0 ∙ ap (λ s. get_or w (s + i) 0) j))
    (W K i (omega arith) t)

pub gathers_in : {K : Kind} (w x : List ℕ) (s e r : ℕ) → s ≡ min (words_at K (length w)) (length w) → e ≤ length w → e ≤ s + part_size
    → Gathers K (WordsOf K (take (e - s) (drop s w))) x r → Gathers K (Words w) x r
gathers_in {K} w x s e r q a b G = record {
  known = λ k S h F W. G.known k S h F (words_part K w S s e q a b W);
  level = λ k S F W. G.level k S F (words_part K w S s e q a b W);
}

-- A NODE, from its children
and_two : {a b a' b' : Bool} → a ≡ a' → b ≡ b' → (a && (b && true)) ≡ (a' && b')
and_two {a} {b} p q = go a b ∙ cc
  where
    go : (a b : Bool) → (a && (b && true)) ≡ (a && b)
    go true true = refl
    go true false = refl
    go false b = refl

and_four : {a b c d a' b' c' d' : Bool} → a ≡ a' → b ≡ b' → c ≡ c' → d ≡ d' → (a && (b && (c && (d && true)))) ≡ ((a' && d') && (b' && c'))
and_four {a} {b} {c} {d} p q r s = go a b c d ∙ cc
  where
    go : (a b c d : Bool) → (a && (b && (c && (d && true)))) ≡ ((a && d) && (b && c))
    go false b c d = refl
    go true b c false = none b c
      where
        none : (b c : Bool) → (b && (c && false)) ≡ false
        none true true = refl
        none true false = refl
        none false c = refl
    go true true true true = refl
    go true true false true = refl
    go true false c true = refl

set_has : (S : Store) (l h : ℕ) (a b : Properties) → Has set S l (child set S h 0) a → Has set S l (child set S h 1) b
    → Has set S (suc l) h (properties (a.empty && b.empty) (a.universal && b.universal) false (a.level + 1))
unfolding agrees
set_has S l h a b A B = record {
  empty = and_two A.empty B.empty;
  universal = and_two A.universal B.universal;
  identity = λ z. absurd (let z : ◌≡◌ {A = ℕ} 0 1 = cc in omega arith);
  level = omega (arith, A.level);
}

-- on the diagonal the identity's child is the identity, off it the empty relation
relation_has : (S : Store) (l h : ℕ) (a b c d : Properties) → Has rel S l (child rel S h 0) a → Has rel S l (child rel S h 1) b
    → Has rel S l (child rel S h 2) c → Has rel S l (child rel S h 3) d
    → (let on = in_both a d in let off = in_both b c in
    Has rel S (suc l) h (properties (on.empty && off.empty) (on.universal && off.universal) (on.identity && off.empty) (a.level + 1)))
unfolding agrees
relation_has S l h a b c d A B C D = record {
  empty = and_four A.empty B.empty C.empty D.empty;
  universal = and_four A.universal B.universal C.universal D.universal;
  identity = λ z. and_four (A.identity refl) B.empty C.empty (D.identity refl);
  level = omega (arith, A.level);
}

-- v says nothing wrong of g in stores whose words have W
abbrev pub WordKnown : (Store → Type 0) → Kind → ℕ → ℕ → Type 0
WordKnown W K g v = (k : ℕ) (S : Store) → WellFormed k S → W S → Known K S g v

-- the child's level, where its word says the same level as the first child's
shared_level : (K : Kind) (S : Store) (g a v l : ℕ) → 8 ≤ a → v / 8 ≡ a / 8 → Known K S g v → Held K S l g → a / 16 ≡ l
shared_level K S g a v l o e f A = let h = (f (omega arith) l A).level in omega arith

-- what is known of child d of h, where x are its children
at_child : {K : Kind} {S : Store} {x : List ℕ} (h d v l : ℕ) → 0 < v → Held K S (suc l) h → get K S h ≡ x → d < arity K → Known K S (get_or x d 0) v
    → Has K S l (child K S h d) (properties_in v)
at_child {K} {S} h d v l p A g i f = subst (λ x. Known K S (get_or x d 0) v) (sym g) f p l (A.below d i)

pub set_gathers : (W : Store → Type 0) (x : List ℕ) (v0 v1 r : ℕ) → WordKnown W set (get_or x 0 0) v0 → WordKnown W set (get_or x 1 0) v1 → 8 ≤ v0
    → v1 / 8 ≡ v0 / 8
    → (let p = in_both (properties_in v0) (properties_in v1) in 0 < r → properties_in r ≡ properties p.empty p.universal false (p.level + 1))
    → Gathers set W x r
set_gathers W x v0 v1 r f0 f1 o e1 q = record {
  known = λ k S h F w b g p. elim [
    | zero ↦ λ A. absurd (omega arith)
    | suc l ↦ λ A. rw (q p) (set_has S l h (properties_in v0) (properties_in v1) (at_child h 0 v0 l (omega arith) A g (omega arith) (f0 k S F w))
        (at_child h 1 v1 l (omega arith) A g (omega arith) (f1 k S F w)))
  ];
  level = λ k S F w p d l i A. ap (λ (r : Properties). r.level) (q p) ∙ ap (λ n. n + 1) (elim (pair d i) [
    | inl z ↦ shared_level set S (get_or x 0 0) v0 v0 l o refl (f0 k S F w) (subst (λ d. Held set S l (get_or x d 0)) z A)
    | inr z ↦ shared_level set S (get_or x 1 0) v0 v1 l o e1 (f1 k S F w) (subst (λ d. Held set S l (get_or x d 0)) z A)
  ]);
}
  where
    pair : (d : ℕ) → d < 2 → (d ≡ 0) ⊎ (d ≡ 1)
    pair zero i = inl refl
    pair (suc zero) i = inr refl
    pair (suc (suc d)) i = absurd (omega arith)

pub relation_gathers : (W : Store → Type 0) (x : List ℕ) (v00 v01 v10 v11 r : ℕ) → WordKnown W rel (get_or x 0 0) v00
    → WordKnown W rel (get_or x 1 0) v01
    → WordKnown W rel (get_or x 2 0) v10 → WordKnown W rel (get_or x 3 0) v11 → 8 ≤ v00 → v01 / 8 ≡ v00 / 8 → v10 / 8 ≡ v00 / 8 → v11 / 8 ≡ v00 / 8
    → (let on = in_both (properties_in v00) (properties_in v11) in let off = in_both (properties_in v01) (properties_in v10) in
    0 < r → properties_in r ≡ properties (on.empty && off.empty) (on.universal && off.universal) (on.identity && off.empty) (on.level + 1))
    → Gathers rel W x r
relation_gathers W x v00 v01 v10 v11 r f00 f01 f10 f11 o e01 e10 e11 q = record {
  known = λ k S h F w b g p. elim [
    | zero ↦ λ A. absurd (omega arith)
    | suc l ↦ λ A. rw (q p) (relation_has S l h (properties_in v00) (properties_in v01) (properties_in v10) (properties_in v11)
        (at_child h 0 v00 l (omega arith) A g (omega arith) (f00 k S F w)) (at_child h 1 v01 l (omega arith) A g (omega arith) (f01 k S F w))
        (at_child h 2 v10 l (omega arith) A g (omega arith) (f10 k S F w)) (at_child h 3 v11 l (omega arith) A g (omega arith) (f11 k S F w)))
  ];
  level = λ k S F w p d l i A. ap (λ (r : Properties). r.level) (q p) ∙ ap (λ n. n + 1) (on_digits (λ d. Held rel S l (get_or x d 0) → v00 / 16 ≡ l)
      (shared_level rel S (get_or x 0 0) v00 v00 l o refl (f00 k S F w)) (shared_level rel S (get_or x 1 0) v00 v01 l o e01 (f01 k S F w))
      (shared_level rel S (get_or x 2 0) v00 v10 l o e10 (f10 k S F w)) (shared_level rel S (get_or x 3 0) v00 v11 l o e11 (f11 k S F w)) d i A);
}

-- the properties that `relation_word` writes
pub relation_properties : {on off p q : Properties} {e u i : Bool} → e ≡ (on.empty && off.empty) → u ≡ (on.universal && off.universal)
    → i ≡ (on.identity && off.empty) → on ≡ p → off ≡ q
    → properties e u i (on.level + 1) ≡ properties (p.empty && q.empty) (p.universal && q.universal) (p.identity && q.empty) (p.level + 1)
relation_properties a b c d e = rw (a, b, c, d, e)
