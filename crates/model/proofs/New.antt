-- `new` on empty lists leaves a well-formed store, of the nodes that `specs/NewNodes` writes out, 3k relations and k sets, and gives the full relation.
use mathlib.Core.Path.{◌≡◌, refl, sym, ap, ◌∙◌, subst}
use mathlib.Core.Logic.{inl, inr}
use mathlib.Core.List.{List, [], ◌∷◌, ◌++◌, append_assoc, append-nil}
use Prim.Native.Nat.{ℕ, zero, suc, ◌+◌, ◌*◌, ◌%◌, ◌<◌, ◌≤◌}
use native.Mathlib.Omega.{arith}
use native.Mathlib.Decide.{dec_lt}
use lib.ListN.{length, get_or, replicate, length-append, get_or-replicate}
use Rattle.model.specs.Images.{blank, new}
use Rattle.model.specs.Meaning.{Relates}
use Rattle.model.specs.NewNodes.{levels, level_handle, level_node, new_sets, new_relations}
use Rattle.model.specs.Operations.{constant, zero_at_depth, top_at_depth, identity_at_depth, one_at_depth}
use Rattle.model.specs.Programs.{ret, mk, ◌>>=◌, Ran, ran, run}
use Rattle.model.specs.Safety.{Safe, Settled}
use Rattle.model.specs.Store.{Kind, set, rel, arity, Nodes, Store, nodes, with_nodes, signed, handle_of, place, having, sign, stored, mk_store}
use Rattle.model.specs.Store.{mk_handle}
use Rattle.model.specs.WellFormed.{Even, WellFormed}
use Rattle.model.proofs.Constants.{constant_does}
use Rattle.model.proofs.Extends.{ext_refl, ext_node}
use Rattle.model.proofs.Mk.{had, had_cover, mk_nodes, mk_ext}
use Rattle.model.proofs.Pairs.{top_relates}
use Rattle.model.proofs.Rules.{Does, bind_does}
use Rattle.model.proofs.Settle.{run_ext, settle, settled, settled_later}
use Rattle.model.proofs.Signs.{signed_twice, with_sign_zero}
use Rattle.model.proofs.Star.{identity_does}

pub blank_formed : (k : ℕ) → WellFormed k blank
blank_formed k = record {
  fits = elim [ set ↦ λ i h. absurd (omega arith) | rel ↦ λ i h. absurd (omega arith) ];
  distinct = elim [ set ↦ λ i j h. absurd (omega arith) | rel ↦ λ i j h. absurd (omega arith) ];
}

pub new_does : (k : ℕ) → Does k blank (new k) (Relates k (λ p q. Unit {0}))
unfolding new
new_does k =
    bind_does (constant_does set 0 k (omega arith) (omega arith) (blank_formed k)) λ S₁ z E₁ F₁ A.
    bind_does (constant_does set 1 k (omega arith) (omega arith) F₁) λ S₂ o E₂ F₂ B.
    bind_does (constant_does rel 0 k (omega arith) (omega arith) F₂) λ S₃ a E₃ F₃ C.
    bind_does (identity_does k (omega arith) F₃) λ S₄ b E₄ F₄ D.
    top_relates k (omega arith) F₄ (λ p q P Q. tt)

-- NODES. No node of S has v as its child d
record Absent (K : Kind) (d v : ℕ) (S : Store) : Type 0 where
  nowhere : (i : ℕ) → i < length (nodes K S) → ¬ (get_or (get_or (nodes K S) i []) d 0 ≡ v)

none_absent : (K : Kind) (d v : ℕ) (S : Store) → length (nodes K S) ≡ 0 → Absent K d v S
none_absent K d v S e = record { nowhere = λ i h. absurd (omega arith) }

-- children come earlier, so the newest handle is no child yet
newest : {k n : ℕ} {S : Store} (K : Kind) (d : ℕ) → d < arity K → WellFormed k S → length (nodes K S) ≡ suc n → Absent K d (handle_of K 0 n) S
newest set d b F e = record { nowhere = λ i h q. omega (arith, (F.fits set i h).earlier d b) }
newest rel d b F e = record { nowhere = λ i h q. omega (arith, (F.fits rel i h).earlier d b) }

-- a node with another child d leaves v absent
mk_absent : {d v : ℕ} {S : Store} (K : Kind) (x : List ℕ) → Absent K d v S → ¬ (get_or (stored K x) d 0 ≡ v) → Absent K d v (mk_store K x S)
mk_absent {S = S} K x A n = record {
  nowhere = λ i h e. elim (had_cover (had (stored K x) (nodes K S)) i (rw mk_nodes at h)) [
    | inl o ↦ A.nowhere i o (rw (ext_node (mk_ext K x S) K i o) at e)
    | inr q ↦ n (rw (mk_nodes K x S, q.0) at e)
  ];
}

-- what no node equals is appended
appended : (x : List ℕ) (N : Nodes) → ((i : ℕ) → i < length N → ¬ (get_or N i [] ≡ x)) → (having x N ≡ N ++ (x ∷ [])) × (place x N ≡ length N)
appended x N n = let h = had x N in
    elim h.new [ inl q ↦ absurd (n (place x N) (rw q at h.inside) (rw q at h.found)) | inr q ↦ (q.0, q.1) ]

-- R has the nodes N of kind K more than S, and no other; its value is v, which is no child d yet
record Grew (K : Kind) (d : ℕ) (S : Store) (N : Nodes) (v : ℕ) (R : Ran) : Type 0 where
  here : nodes K R.store ≡ nodes K S ++ N
  there : with_nodes K [] R.store ≡ with_nodes K [] S
  value : R.value ≡ v
  fresh : Absent K d v R.store

-- an even node is stored as it is, its handle has no sign, and the other kind stays
mk_even : (K : Kind) (x : List ℕ) (S : Store) → Even K x
    → (stored K x ≡ x) × ((i : ℕ) → handle_of K (sign x) i ≡ handle_of K 0 i) × (with_nodes K [] (mk_store K x S) ≡ with_nodes K [] S)
unfolding mk_store
mk_even set x S e = (rw e (with_sign_zero x), λ i. rw e, refl)
mk_even rel x S e = (refl, λ i. refl, refl)

-- so a node whose child d is the last value is one more
mk_grew : {k d v : ℕ} {S : Store} {N : Nodes} {R : Ran} (K : Kind) (x : List ℕ) (i : ℕ) → d < arity K → Even K x → get_or x d 0 ≡ v → Grew K d S N v R
    → length (nodes K S ++ N) ≡ i → WellFormed k (run (mk K x) R.store).store
    → Grew K d S (N ++ (x ∷ [])) (handle_of K 0 i) (run (mk K x) R.store)
unfolding run mk_handle
mk_grew {d = d} {S = S} {N = N} {R = R} K x i b e c G l F =
    let u = mk_even K x R.store e in
    let a = appended x (nodes K R.store) (λ i h q. G.fresh.nowhere i h (ap (λ y. get_or y d 0) q ∙ c)) in
    let m : nodes K (mk_store K x R.store) ≡ nodes K S ++ (N ++ (x ∷ []))
    = rw (mk_nodes K x R.store, u.0, a.0, G.here) (append_assoc (nodes K S) N (x ∷ [])) in
    let h : length (nodes K (mk_store K x R.store)) ≡ suc i
    = ap length m ∙ ap length (sym (append_assoc (nodes K S) N (x ∷ []))) ∙ rw (length-append, l) (omega arith) in
    record {
      here = m;
      there = u.2 ∙ G.there;
      value = rw (u.1, u.0, a.1, G.here, l) refl;
      fresh = newest K d b F h;
    }

-- as many nodes as levels, and alike where the nodes are
levels_length : (f : ℕ → List ℕ) (k : ℕ) → length (levels f k) ≡ k
levels_length f zero = refl
levels_length f (suc k) = rw (length-append, levels_length f k) (omega arith)

levels_agree : (f g : ℕ → List ℕ) (k : ℕ) → ((l : ℕ) → l < k → f l ≡ g l) → levels f k ≡ levels g k
levels_agree f g zero h = refl
levels_agree f g (suc k) h = rw (levels_agree f g k (λ l i. h l (omega arith)), h k (omega arith))

-- runs from S and c on, each one node beyond the last
record Chain (k : ℕ) (K : Kind) (S : Store) (c : ℕ) (node : ℕ → ℕ → List ℕ) (r : ℕ → Ran) : Type 0 where
  start : r 0 ≡ ran S c
  next : (l : ℕ) → l < k → r (suc l) ≡ run (mk K (node l (r l).value)) (r l).store
  formed : (l : ℕ) → l ≤ k → WellFormed k (r l).store

module _ {k c : ℕ} {S : Store} {node : ℕ → ℕ → List ℕ} {r : ℕ → Ran} (K : Kind) (C : Chain k K S c node r) where
  grew : (d p : ℕ) → d < arity K → length (nodes K S) ≡ p → ((l : ℕ) → Even K (node l (r l).value)) → ((l h : ℕ) → get_or (node l h) d 0 ≡ h)
      → Absent K d c S → (l : ℕ) → l ≤ k → Grew K d S (levels (λ l. node l (level_handle K p c l)) l) (level_handle K p c l) (r l)
  grew d p b n e f A zero i = rw C.start (record { here = sym (append-nil (nodes K S)); there = refl; value = refl; fresh = A })
  grew d p b n e f A (suc l) i =
      let v = level_handle K p c in
      let G = grew d p b n e f A l (omega arith) in
      let q : r (suc l) ≡ run (mk K (node l (v l))) (r l).store = C.next l i ∙ ap (λ h. run (mk K (node l h)) (r l).store) G.value in
      let m : length (nodes K S ++ levels (λ l. node l (v l)) l) ≡ p + l = rw (length-append, n, levels_length) in
      rw q (mk_grew K (node l (v l)) (p + l) b (subst (λ h. Even K (node l h)) G.value (e l)) (f l (v l)) G m (rw q at (C.formed (suc l) i)))

  keeps : (d v : ℕ) → ((l : ℕ) → l < k → ¬ (get_or (stored K (node l (r l).value)) d 0 ≡ v)) → Absent K d v S → (l : ℕ) → l ≤ k → Absent K d v (r l).store
  unfolding run
  keeps d v n A zero i = rw C.start A
  keeps d v n A (suc l) i = rw (C.next l i) (mk_absent K _ (keeps d v n A l (omega arith)) (n l i))

module _ {k : ℕ} {S : Store} (K : Kind) (F : WellFormed k S) where
  constant_chain : (c : ℕ) → c < 2 → Chain k K S c (λ l h. replicate (arity K) h) (λ l. run (constant K c l) S)
  unfolding constant run
  constant_chain c b = record { start = refl; next = λ l i. refl; formed = λ l i. (constant_does K c l b i F).after.formed }

  constant_grew : (c d p : ℕ) → c < 2 → d < arity K → length (nodes K S) ≡ p → ((l : ℕ) → Even K (replicate (arity K) (run (constant K c l) S).value))
      → Absent K d c S → (l : ℕ) → l ≤ k
      → Grew K d S (levels (λ l. replicate (arity K) (level_handle K p c l)) l) (level_handle K p c l) (run (constant K c l) S)
  constant_grew c d p a b n e A = grew K (constant_chain c a) d p b n e (λ l h. get_or-replicate (arity K) d h 0 b) A

  -- the zeros that a run left are there for every later run
  zeros_settled : (l m : ℕ) → l ≤ m → m ≤ k → Settled (constant K 0 l) (run (constant K 0 m) S).store (run (constant K 0 l) S).value
  unfolding constant run Safe
  zeros_settled l zero i j = let e : l ≡ 0 = omega arith in rw e (settled (ret 0) S tt)
  zeros_settled l (suc m) i j = elim (dec_lt m l) [
    | yes h ↦ (let e : l ≡ suc m = omega arith in rw e (settled (constant K 0 (suc m)) S (constant_does K 0 (suc m) (omega arith) j F).safe))
    | no h ↦ settled_later (mk_ext K _ _) (zeros_settled l m (omega arith) (omega arith))
  ]

-- SETS: zeros, and the ones as their complements
zero_even : (l : ℕ) (S : Store) → (run (constant set 0 l) S).value % 2 ≡ 0
unfolding constant run mk_handle
zero_even zero S = refl
zero_even (suc l) S = rw (zero_even l S) (omega arith)

ones : (l : ℕ) (S : Store) → run (constant set 1 l) S ≡ ran (run (constant set 0 l) S).store (signed 1 (run (constant set 0 l) S).value)
unfolding constant run mk_store mk_handle
ones zero S = refl
ones (suc l) S = let z = (run (constant set 0 l) S).value in let p = zero_even l S in
    let q : signed 1 z % 2 ≡ 1 = omega arith in rw (ones l S, q, signed_twice 1 z, p)

-- RELATIONS
identity_chain : {k : ℕ} {S : Store} (z : ℕ → ℕ) → WellFormed k S → ((l : ℕ) → l ≤ k → Settled (zero_at_depth rel l) S (z l))
    → Chain k rel S 1 (λ l h. h ∷ z l ∷ z l ∷ h ∷ []) (λ l. run (identity_at_depth l) S)
unfolding identity_at_depth run
identity_chain {S = S} z F H = record {
  start = refl;
  next = λ l i. rw ((H l (omega arith)).again (run (identity_at_depth l) S).store (run_ext (identity_at_depth l) S)) refl;
  formed = λ l i. (identity_does l i F).after.formed;
}

zero_not_one : (l : ℕ) → ¬ (level_handle rel 0 0 l ≡ 1)
zero_not_one zero e = omega arith
zero_not_one (suc l) e = omega arith

-- zeros, identities and full relations: none of the first has a child 1, none of the second has it as x01
relations_are : {k : ℕ} {S : Store} → WellFormed k S → S.rels ≡ []
    → run (zero_at_depth rel k >>= λ z. one_at_depth rel k >>= λ o. top_at_depth k) S
    ≡ ran (record { sets = S.sets; rels = new_relations k }) (level_handle rel (2 * k) 1 k)
unfolding run
relations_are {k} {S} F n =
    let none : (d v : ℕ) → Absent rel d v S = λ d v. none_absent rel d v S (ap length n) in
    let Z = constant_chain rel F 0 (omega arith) in
    let G₁ = constant_grew rel F 0 0 0 (omega arith) (omega arith) (ap length n) (λ l. tt) (none 0 0) in
    let I = identity_chain (level_handle rel 0 0) (Z.formed k (omega arith))
    (λ l i. subst (Settled (zero_at_depth rel l) _) (G₁ l i).value (zeros_settled rel F l k i (omega arith))) in
    let A : (d : ℕ) → d < 4 → Absent rel d 1 (run (constant rel 0 k) S).store
    = λ d b. keeps rel Z d 1 (λ l i. rw (get_or-replicate 4 d (run (constant rel 0 l) S).value 0 b, (G₁ l (omega arith)).value) (zero_not_one l)) (none d 1) k
    (omega arith) in
    let B = keeps rel I 1 1 (λ l i. zero_not_one l) (A 1 (omega arith)) k (omega arith) in
    let h₁ : (run (constant rel 0 k) S).store.rels ≡ levels (level_node 0 0 0 0) k
    = (G₁ k (omega arith)).here ∙ ap (λ N. N ++ levels (level_node 0 0 0 0) k) n in
    let G₂ = grew rel I 0 k (omega arith) (ap length h₁ ∙ levels_length (level_node 0 0 0 0) k) (λ l. tt) (λ l h. refl) (A 0 (omega arith)) k (omega arith) in
    let h₂ = G₂.here ∙ ap (λ N. N ++ levels (level_node k 1 0 0) k) h₁ in
    let two = ap length h₂ ∙ length-append (levels (level_node 0 0 0 0) k) _ in
    let G₃ = constant_grew rel (I.formed k (omega arith)) 1 1 (2 * k) (omega arith) (omega arith)
    (two ∙ omega (arith, levels_length (level_node 0 0 0 0) k, levels_length (level_node k 1 0 0) k)) (λ l. tt) B k (omega arith) in
    let rels = G₃.here ∙ ap (λ N. N ++ levels (level_node (2 * k) 1 (2 * k) 1) k) h₂ in
    let sets = ap (λ U. U.sets) (G₃.there ∙ G₂.there ∙ (G₁ k (omega arith)).there) in
    λ i. ran (record { sets = sets i; rels = rels i }) (G₃.value i)

set_handle : (l : ℕ) → level_handle set 0 0 l ≡ 2 * l
set_handle zero = omega arith
set_handle (suc l) = omega arith

-- the store that `new` leaves, node by node, and the handle that it gives
pub new_is : (k : ℕ) → run (new k) blank ≡ ran (record { sets = new_sets k; rels = new_relations k }) (level_handle rel (2 * k) 1 k)
unfolding new run
new_is k =
    let D = constant_does set 0 k (omega arith) (omega arith) (blank_formed k) in
    let S = (run (constant set 0 k) blank).store in
    let G = constant_grew set (blank_formed k) 0 0 0 (omega arith) (omega arith) refl (λ l. zero_even l blank) (none_absent set 0 0 blank refl)
    k
    (omega arith) in
    let e : (run (constant set 1 k) S).store ≡ S = ap (λ r. r.store) (ones k S) ∙ ap (λ r. r.store) (settle (constant set 0 k) blank S D.safe ext_refl) in
    let sets = ap (λ U. U.sets) e ∙ G.here ∙ levels_agree _ _ k (λ l i. ap (λ h. h ∷ h ∷ []) (set_handle l)) in
    relations_are (constant_does set 1 k (omega arith) (omega arith) D.after.formed).after.formed
    (ap (λ U. U.rels) (ap (with_nodes set []) e ∙ G.there))
    ∙ (λ i. ran (record { sets = sets i; rels = new_relations k }) (level_handle rel (2 * k) 1 k))

pub new_counts : (k : ℕ) → (length (run (new k) blank).store.rels ≡ 3 * k) × (length (run (new k) blank).store.sets ≡ k)
new_counts k =
    let N₁ = levels (level_node 0 0 0 0) k in
    let N₂ = levels (level_node k 1 0 0) k in
    let N₃ = levels (level_node (2 * k) 1 (2 * k) 1) k in (
      ap (λ R. length R.store.rels) (new_is k) ∙ omega (
        arith,
        length-append (N₁ ++ N₂) N₃,
        length-append N₁ N₂,
        levels_length (level_node 0 0 0 0) k,
        levels_length (level_node k 1 0 0) k,
        levels_length (level_node (2 * k) 1 (2 * k) 1) k,
      ),
      ap (λ R. length R.store.sets) (new_is k) ∙ levels_length (λ l. 2 * l ∷ 2 * l ∷ []) k,
    )

-- the full relation's handle
pub new_value : (k : ℕ) → 0 < k → (run (new k) blank).value ≡ 3 * k + 1
new_value zero h = absurd (omega arith)
new_value (suc k) h = ap (λ R. R.value) (new_is (suc k)) ∙ omega arith
