-- The nodes of one kind checked one after the other: a handle's level, a node that fits after those before it, and the store with it.
use mathlib.Core.Path.{◌≡◌, refl, sym, ap, ◌∙◌, subst}
use mathlib.Core.Logic.{inl, inr}
use mathlib.Core.List.{List, [], ◌∷◌, ◌++◌, append_assoc}
use mathlib.Core.Bool.{Bool, true, false}
use Prim.Native.Nat.{ℕ, zero, suc, ◌+◌, ◌-◌, ◌*◌, ◌<◌, ◌≤◌}
use native.Mathlib.Nat.{add-zero}
use native.Mathlib.Omega.{arith}
use lib.ListN.{length, get_or, take, drop, take-append-drop}
use lib.Seq.{take-take, drop-drop, paste}
use lib.Dec.{T, lt→ltb}
use Rattle.model.specs.Programs.{mk, run}
use Rattle.model.specs.Safety.{Safe}
use Rattle.model.specs.Store.{Kind, set, rel, arity, Store, nodes, index, handle_of, with_sign, sign, stored}
use Rattle.model.specs.WellFormed.{Held, Even, Fits, WellFormed, Extends, is_held}
use Rattle.model.proofs.Extends.{append_nil, ext_refl, ext_trans, ext_held}
use Rattle.model.proofs.Levels.{arity_pos, small, held_once, held_at}
use Rattle.model.proofs.Mk.{mk_formed}
use Rattle.model.proofs.Signs.{with_sign_zero}
use Rattle.memory.specs.Performing.{run_state, going, Done}
use Rattle.memory.specs.Finding.{Search, Finds, Entered}
use Rattle.memory.specs.Noting.{Written, Noted, Gathers, LevelIs}
use Rattle.memory.specs.Rows.{row, places, plain}
use Rattle.memory.specs.Working.{properties_in, Words, Indexed, Right}
use Rattle.memory.proofs.Joining.{join_new}
use Rattle.memory.proofs.Rows.{row_at, row_part, row_length, place_fits, rows_snoc, plain_length, plain_at}
use Rattle.memory.proofs.Steps.{false≢true}
use Rattle.std.specs.Prelude.{Option, Some, None, not, is_some}
use Rattle.store_check.specs.StoreChecking.{ChildFits, NodeFits, Tests, Earlier, LevelAbove, Above, FitsNext, Start, NodesChecked}

-- TESTS
module _ {P : Type 0} where
  pub says_no : (P → ⊥) → Tests false P
  says_no n = record { so = λ q. absurd (false≢true q); not = λ _. n }

  pub says_yes : P → Tests true P
  says_yes p = record { so = λ _. p; not = λ q. absurd (false≢true (sym q)) }

-- A CHILD that is held earlier has a level
early_held : (K : Kind) (S : Store) (h i : ℕ) → length (nodes K S) ≡ i → h < handle_of K 0 i → T (is_held K S h)
early_held K S h i e b = elim (small h) [
  | inl a ↦ rw a.0 tt
  | inr a ↦ rw a.0 (lt→ltb _ _ (inside K a.1 b e))
]
  where
    inside : (K : Kind) → 2 ≤ h → h < handle_of K 0 i → length (nodes K S) ≡ i → index K h < length (nodes K S)
    inside set a b e = omega arith
    inside rel a b e = omega arith

pub child_level : (K : Kind) (B : Store) (m : List ℕ) {k : ℕ} (i h : ℕ) → WellFormed k (plain K B m i) → h < handle_of K 0 i
    → (l : ℕ) × (l ≤ k) × Held K (plain K B m i) l h
child_level K B m i h F b = held_at K h F (early_held K (plain K B m i) h i (plain_length K B m i) b)

module _ (K : Kind) (B : Store) (m : List ℕ) (c k i d r : ℕ) (e : c ≡ arity K) (p : i ≤ places c m) (L : LevelIs m c k (get_or m (c * i + d) 0) r) where
  -- the level that the walk finds
  pub child_found : (l : ℕ) → l ≤ k → Held K (plain K B m i) l (get_or m (arity K * i + d) 0) → r ≡ l
  child_found l t A = L K B i l e p (subst (λ c. Held K (plain K B m i) l (get_or m (c * i + d) 0)) (sym e) A) t

  pub child_held : WellFormed k (plain K B m i) → Earlier K m i → d < arity K → Held K (plain K B m i) r (get_or m (arity K * i + d) 0)
  child_held F E h =
      let a = child_level K B m i (get_or m (arity K * i + d) 0) F (E d h) in
      subst (λ l. Held K (plain K B m i) l (get_or m (arity K * i + d) 0)) (sym (child_found a.0 a.1 a.2)) a.2

pub first_is : (m : List ℕ) (c k i r : ℕ) → LevelIs m c k (get_or m (c * i) 0) r → LevelIs m c k (get_or m (c * i + 0) 0) r
first_is m c k i r L = subst (λ j. LevelIs m c k (get_or m j 0) r) (sym (add-zero (c * i))) L

-- the level in the node's word, where it says something
pub level_known : (K : Kind) (B : Store) (m : List ℕ) (k i v r : ℕ) → 0 < v → r ≡ (properties_in v).level → WellFormed k (plain K B m i) → Earlier K m i
    → Above K (plain K B m i) m i v → LevelAbove k K (plain K B m i) m i (Some r)
level_known K B m k i v r p e F E A = record {
  so = λ l q b d h.
      let a = child_level K B m i (get_or m (arity K * i + d) 0) F (E d h) in
      let y : r ≡ l + 1 = cc in
      let z : a.0 ≡ l = omega (arith, A p d a.0 h a.2) in
      subst (λ l. Held K (plain K B m i) l (get_or m (arity K * i + d) 0)) z a.2;
  found = λ l b f. ap Some (e ∙ A p 0 l (arity_pos K) (f 0 (arity_pos K)));
}

-- A NODE that fits
pub row_first : (K : Kind) (m : List ℕ) (c i : ℕ) → c ≡ arity K → get_or (row (arity K) m i) 0 0 ≡ get_or m (c * i) 0
row_first K m c i e = row_at (arity K) m i 0 (arity_pos K) ∙ ap (λ c. get_or m (c * i + 0) 0) (sym e) ∙ ap (λ j. get_or m j 0) (add-zero (c * i))

-- the level above the children's of a node that fits
pub node_above : {K : Kind} {B : Store} {m : List ℕ} {k i : ℕ} {r : Option ℕ} → LevelAbove k K (plain K B m i) m i r → (N : NodeFits k K B m i)
    → r ≡ Some (N.level + 1)
node_above A N = A.found N.level N.under (λ d h. (N.below d h).held)

pub node_below : {K : Kind} {B : Store} {m : List ℕ} {k i : ℕ} (r : Option ℕ) (l : ℕ) → r ≡ Some (l + 1) → l < k
    → LevelAbove k K (plain K B m i) m i r → Earlier K m i → (d : ℕ) → d < arity K → ChildFits K B m i l d
node_below r l q u A E d h = record { earlier = E d h; held = A.so l q u d h }

-- row i, as a part of the slice
pub part_length : (c : ℕ) (m : List ℕ) (i : ℕ) → c * i + c ≤ length m → length (take (c * i + c - c * i) (drop (c * i) m)) ≡ c
part_length c m i f = ap length (row_part c m i) ∙ row_length c m i f

pub part_at : (c : ℕ) (m : List ℕ) (i d : ℕ) → d < c → get_or (take (c * i + c - c * i) (drop (c * i) m)) d 0 ≡ get_or m (c * i + d) 0
part_at c m i d h = ap (λ x. get_or x d 0) (row_part c m i) ∙ row_at c m i d h

-- the search of it among those before it
pub part_fits : (c : ℕ) (m : List ℕ) (i : ℕ) → c * i + c ≤ length m → length (take (c * i + c - c * i) (drop (c * i) m)) * i ≤ length m
part_fits c m i f = subst (λ z. z * i ≤ length m) (sym (part_length c m i f)) (omega arith)

pub row_found : (K : Kind) (m w : List ℕ) (c i : ℕ) (r : Option ℕ) → c ≡ arity K → c * i + c ≤ length m → Indexed (row (arity K) m) w i
    → Search (take (c * i + c - c * i) (drop (c * i) m)) m w i r
    → Finds (row (arity K) m) i (row (arity K) m i) true r
row_found K m w c i r e f I s =
    let z : length (row c m i) ≡ c = row_length c m i f in
    let t = subst (λ x. Search x m w i r) (row_part c m i) s true (λ _. subst (λ c. Indexed (row c m) w i) (sym (z ∙ e)) I) in
    subst (λ c. Finds (row c m) i (row c m i) true r) e (subst (λ z. Finds (row z m) i (row c m i) true r) z t)

pub node_last : {K : Kind} {B : Store} {m : List ℕ} {k i l : ℕ} {r : Option ℕ} → l < k → ((d : ℕ) → d < arity K → ChildFits K B m i l d)
    → Even K (row (arity K) m i) → Finds (row (arity K) m) i (row (arity K) m i) true r → {t : Bool} → is_some r ≡ not t → Tests t (NodeFits k K B m i)
node_last {K} {B} {m} {k} {i} {l} {r = None} u b v F {t = true} e = record {
  so = λ q. record { level = l; under = u; below = b; even = v; new = F.none refl refl };
  not = λ q. absurd (false≢true (sym q));
}
node_last {r = None} u b v F {t = false} e = absurd (false≢true e)
node_last {r = Some j} u b v F {t = true} e = absurd (false≢true (sym e))
node_last {r = Some j} u b v F {t = false} e = record {
  so = λ q. absurd (false≢true q);
  not = λ q N. let h = F.hit j refl in N.new j h.0 h.1;
}

-- THE STORE with one node more
next_extends : (K : Kind) (B : Store) (m : List ℕ) (n : ℕ) → Extends (plain K B m n) (plain K B m (n + 1))
next_extends set B m n = record {
  tail = elim [ set ↦ row 2 m n ∷ [] | rel ↦ [] ];
  split = elim [ set ↦ rows_snoc 2 n m | rel ↦ sym (append_nil B.rels) ];
}
next_extends rel B m n = record {
  tail = elim [ set ↦ [] | rel ↦ row 4 m n ∷ [] ];
  split = elim [ set ↦ sym (append_nil B.sets) | rel ↦ rows_snoc 4 n m ];
}

pub plain_extends : (K : Kind) (B : Store) (m : List ℕ) (i n : ℕ) → i ≤ n → Extends (plain K B m i) (plain K B m n)
plain_extends K B m i n h = let e : i + (n - i) ≡ n = omega arith in subst (λ n. Extends (plain K B m i) (plain K B m n)) e (go (n - i))
  where
    go : (d : ℕ) → Extends (plain K B m i) (plain K B m (i + d))
    go zero = let e : i ≡ i + 0 = omega arith in subst (λ n. Extends (plain K B m i) (plain K B m n)) e ext_refl
    go (suc d) = let e : i + d + 1 ≡ i + suc d = omega arith in
        subst (λ n. Extends (plain K B m i) (plain K B m n)) e (ext_trans (go d) (next_extends K B m (i + d)))

-- a node of a well-formed store fits after those before it
pub formed_node : {K : Kind} {B : Store} {m : List ℕ} {k i n : ℕ} → i < n → WellFormed k (plain K B m i) → WellFormed k (plain K B m n) → NodeFits k K B m i
formed_node {K} {B} {m} {k} {i} {n} h F G =
    let S = plain K B m i in
    let U = plain K B m n in
    let f : Fits k K U i (row (arity K) m i) = subst (Fits k K U i) (plain_at K B m n i h) (G.fits K i (omega (arith, plain_length K B m n))) in
    record {
      level = f.level;
      under = f.under;
      even = f.even;
      below = λ d b.
          let q = row_at (arity K) m i d b in
          let a : get_or m (arity K * i + d) 0 < handle_of K 0 i = subst (λ v. v < handle_of K 0 i) q (f.earlier d b) in
          let t = child_level K B m i _ F a in
          let s : t.0 ≡ f.level = held_once K U t.0 f.level _ (ext_held (plain_extends K B m i n (omega arith)) K t.0 _ t.2)
          (subst (Held K U f.level) q (f.below d b)) in
          record { earlier = a; held = subst (λ l. Held K S l (get_or m (arity K * i + d) 0)) s t.2 };
      new = λ j b q.
          let s : j ≡ i = G.distinct K j i (omega (arith, plain_length K B m n)) (omega (arith, plain_length K B m n))
          (plain_at K B m n j (omega arith) ∙ q ∙ sym (plain_at K B m n i h)) in
          omega arith;
    }

stored_same : (K : Kind) (x : List ℕ) → Even K x → stored K x ≡ x
stored_same rel x v = refl
stored_same set x v = ap (λ s. with_sign set s x) v ∙ with_sign_zero x

paste_same : (m : List ℕ) (s c : ℕ) → m ≡ paste m s (take c (drop s m)) c
paste_same m s c = sym (ap (λ x. take s m ++ x ++ drop (s + c) m) (take-take c c (drop s m) (omega arith))
    ∙ ap (λ x. take s m ++ take c (drop s m) ++ x) (sym (drop-drop c s m)) ∙ append_assoc (take s m) (take c (drop s m)) (drop c (drop s m))
    ∙ ap (λ x. take s m ++ x) (take-append-drop c (drop s m)) ∙ take-append-drop s m)

-- after i nodes all is right
pub record Good (k : ℕ) (K : Kind) (B : Store) (m w : List ℕ) (i : ℕ) : Type 0 where
  pub right : Right K B w m i
  pub formed : WellFormed k (plain K B m i)

module _ {K : Kind} {B : Store} {m w w₁ w₂ : List ℕ} {k i : ℕ} (l : i < places (arity K) m) (G : Good k K B m w i) (N : NodeFits k K B m i)
    (A : Noted K (row (arity K) m i) i w w₁) (E : Entered (row (arity K) m) i w₁ w₂) where
  sized : length (row (arity K) m i) ≡ arity K
  sized = row_length (arity K) m i (place_fits (arity K) m i l)

  held : (d : ℕ) → d < arity K → Held K (plain K B m i) N.level (get_or (row (arity K) m i) d 0)
  held d b = subst (Held K (plain K B m i) N.level) (sym (row_at (arity K) m i d b)) (N.below d b).held

  joined : Done K (mk K (row (arity K) m i)) B (going i) m m w₂ (run_state true (i + 1) (handle_of K (sign (row (arity K) m i)) i))
  unfolding Safe
  joined = (join_new (row (arity K) m i) (row (arity K) m i)
      (record { room = omega arith; live = λ _. record { safe = record { level = N.level; sized = sized; held = held }; work = G.right } })
      (sym (stored_same K (row (arity K) m i) N.even)) N.new m w₁ w₂ sized l (paste_same m (arity K * i) (arity K)) A E _ refl).done refl

  pub good_next : Good k K B m w₂ (i + 1)
  unfolding run
  good_next = record {
    right = joined.work;
    formed = subst (WellFormed k) (sym joined.store) (mk_formed {l = N.level} K (row (arity K) m i) G.formed N.under sized held);
  }

-- THE LOOP over the nodes, with w₀ the working memory before the first and w after i of n
abbrev pub AllGood : ℕ → ℕ → ℕ → List ℕ → List ℕ → List ℕ → ℕ → Type 0
AllGood c n k m w₀ w i = (K : Kind) (B : Store) → c ≡ arity K → n ≤ places c m → Start k K B m w₀ → Good k K B m w i

-- the word of node i, from the words of its children
module _ (K : Kind) (m w : List ℕ) (i v : ℕ) (G : Gathers K (Words w) (row (arity K) m i) v) where
  pub word_above : (B : Store) (k : ℕ) → Right K B w m i → WellFormed k (plain K B m i) → Above K (plain K B m i) m i v
  word_above B k R F p d l h A = G.level k (plain K B m i) F R.words p d l h (subst (Held K (plain K B m i) l) (sym (row_at (arity K) m i d h)) A)

  pub word_noted : (w' : List ℕ) → Written K i v w w' → Noted K (row (arity K) m i) i w w'
  word_noted w' W = record { word = v; known = G.known; written = W }

-- the code has node i as a part of the slice
abbrev PartGathers : List ℕ → List ℕ → ℕ → ℕ → ℕ → Type 0
PartGathers m w c i v = (K : Kind) → length (take (c * i + c - c * i) (drop (c * i) m)) ≡ arity K
    → Gathers K (Words w) (take (c * i + c - c * i) (drop (c * i) m)) v

part_row : (K : Kind) (m w : List ℕ) (c i v : ℕ) → c ≡ arity K → c * i + c ≤ length m → PartGathers m w c i v → Gathers K (Words w) (row (arity K) m i) v
part_row K m w c i v e f G =
    subst (λ c. Gathers K (Words w) (row c m i) v) e
    (subst (λ x. length x ≡ arity K → Gathers K (Words w) x v) (row_part c m i) (G K) (row_length c m i f ∙ e))

module _ (c n k i : ℕ) (m w₀ w : List ℕ) (A : AllGood c n k m w₀ w i) (v : ℕ) (W : PartGathers m w c i v) where
  abbrev gathered : (K : Kind) → c ≡ arity K → i < places c m → Gathers K (Words w) (row (arity K) m i) v
  gathered K e h = part_row K m w c i v e (place_fits c m i h) W

  pub all_next : (r : Bool) (w₁ w₂ : List ℕ) → i < n → FitsNext m w c k i v r → r ≡ true → ((K : Kind) → c ≡ arity K → Written K i v w w₁)
      → Entered (row c m) i w₁ w₂ → AllGood c n k m w₀ w₂ (i + 1)
  all_next r w₁ w₂ l F q N E K B e p S =
      let G = A K B e p S in
      let h : i < places c m = omega arith in
      let g = gathered K e h in
      good_next (subst (λ c. i < places c m) e h) G ((F K B e h G.right G.formed (word_above K m w i v g B k G.right G.formed)).so q)
      (word_noted K m w i v g w₁ (N K e)) (subst (λ c. Entered (row c m) i w₁ w₂) e E)

  pub checked_no : (r : Bool) → i < n → length w ≡ length w₀ → FitsNext m w c k i v r → r ≡ false → NodesChecked c n k m w₀ w false
  checked_no r l z F q = record {
    right = λ K B e p S t. absurd (false≢true t);
    verdict = λ K B e p S. says_no (λ W.
        let G = A K B e p S in
        let h : i < places c m = omega arith in
        (F K B e h G.right G.formed (word_above K m w i v (gathered K e h) B k G.right G.formed)).not q (formed_node l G.formed W));
    work_length = z;
  }

module _ (c n k i : ℕ) (m w₀ w : List ℕ) (A : AllGood c n k m w₀ w i) where
  pub checked_yes : i ≡ n → length w ≡ length w₀ → NodesChecked c n k m w₀ w true
  checked_yes q z = record {
    right = λ K B e p S t. subst (Right K B w m) q (A K B e p S).right;
    verdict = λ K B e p S. says_yes (subst (λ i. WellFormed k (plain K B m i)) q (A K B e p S).formed);
    work_length = z;
  }
