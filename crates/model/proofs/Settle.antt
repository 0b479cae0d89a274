-- Every program only extends the store; a finished safe run is settled: run again in any later store it adds nothing and gives the same.
-- PLACES
use mathlib.Core.Path.{◌≡◌, refl, sym, ap, ◌∙◌}
use mathlib.Core.List.{List, [], ◌∷◌, ◌++◌}
use mathlib.Core.Bool.{Bool, true, false}
use Prim.Native.Nat.{ℕ, zero, suc, ◌<◌, ◌≤◌, zero-le, suc-le-suc}
use native.Mathlib.Omega.{arith}
use lib.ListN.{length, length-append}
use borrow.Author.Tests.{eq-eqb}
use Rattle.model.specs.Programs.{all_below, agrees, Test, same, less, has, holds, Prog, panic, ret, ask, look, mk, bind, Ran, ran, run}
use Rattle.model.specs.Safety.{Sure, Safe, Settled}
use Rattle.model.specs.Store.{Kind, set, rel, arity, Nodes, Store, with_nodes, pick, handle_of, get, child, same_node, place, having, sign}
use Rattle.model.specs.Store.{stored, mk_store, mk_handle}
use Rattle.model.specs.WellFormed.{Held, Extends}
use Rattle.model.proofs.Bools.{by_test}
use Rattle.model.proofs.Extends.{ext_refl, ext_trans, ext_get}
use Rattle.model.proofs.Mk.{mk_ext}

same_node_yes : (x : List ℕ) → same_node x x ≡ true
same_node_yes [] = refl
same_node_yes (a ∷ x) = rw (eq-eqb a a refl, same_node_yes x)

pub place_le : (x : List ℕ) (N : Nodes) → place x N ≤ length N
unfolding place
place_le x [] = zero-le
place_le x (y ∷ N) = by_test (λ (b : Bool). pick b 0 (suc (place x N)) ≤ suc (length N)) (same_node x y) (λ e. zero-le) (λ e. suc-le-suc (place_le x N))

-- what is found stays where it is
pub place_found : (x : List ℕ) (N M : Nodes) → place x N < length N → place x (N ++ M) ≡ place x N
unfolding place
place_found x [] M h = absurd (let z : ⊥ = omega arith in z)
place_found x (y ∷ N) M h =
    by_test (λ (b : Bool). pick b 0 (suc (place x N)) < suc (length N) → pick b 0 (suc (place x (N ++ M))) ≡ pick b 0 (suc (place x N))) (same_node x y)
    (λ e h. refl)
    (λ e h. ap suc (place_found x N M (omega arith)))
    h

pub having_found : (x : List ℕ) (N : Nodes) → place x N < length N → having x N ≡ N
unfolding place having
having_found x [] h = absurd (let z : ⊥ = omega arith in z)
having_found x (y ∷ N) h =
    by_test (λ (b : Bool). pick b 0 (suc (place x N)) < suc (length N) → pick b (y ∷ N) (y ∷ having x N) ≡ y ∷ N) (same_node x y)
    (λ e h. refl)
    (λ e h. ap (λ (M : Nodes). y ∷ M) (having_found x N (omega arith)))
    h

pub having_new : (x : List ℕ) (N : Nodes) → length N ≤ place x N → having x N ≡ N ++ (x ∷ [])
unfolding place having
having_new x [] h = refl
having_new x (y ∷ N) h =
    by_test (λ (b : Bool). suc (length N) ≤ pick b 0 (suc (place x N)) → pick b (y ∷ N) (y ∷ having x N) ≡ y ∷ (N ++ (x ∷ []))) (same_node x y)
    (λ e h. absurd (let z : ⊥ = omega arith in z))
    (λ e h. ap (λ (M : Nodes). y ∷ M) (having_new x N (omega arith)))
    h

record InPlace (x : List ℕ) (N : Nodes) : Type 0 where
  still : place x (having x N) ≡ place x N
  inside : place x N < length (having x N)

in_place : (x : List ℕ) (N : Nodes) → InPlace x N
unfolding place having
in_place x [] = record { still = rw (same_node_yes x); inside = omega arith }
in_place x (y ∷ N) = go (same_node x y) refl (in_place x N)
  where
    go : (b : Bool) → same_node x y ≡ b → InPlace x N → InPlace x (y ∷ N)
    go true e f = record { still = rw (e, e); inside = rw e (omega arith) }
    go false e f = record { still = rw (e, e) (ap suc f.still); inside = rw e (omega (arith, f.inside)) }

-- in a list that begins with what `having` made, x is where it was
module _ (x : List ℕ) (N M : Nodes) where
  place_kept : place x (having x N ++ M) ≡ place x N
  place_kept =
      let lt : place x (having x N) < length (having x N) = rw (in_place x N).still (in_place x N).inside in
      place_found x (having x N) M lt ∙ (in_place x N).still

  having_kept : having x (having x N ++ M) ≡ having x N ++ M
  having_kept = having_found x (having x N ++ M) (omega (arith, place_kept, (in_place x N).inside, length-append (having x N) M))

-- EXTENSIONS
pub run_ext : (p : Prog) (S : Store) → Extends S (run p S).store
unfolding run
run_ext panic S = ext_refl
run_ext (ret h) S = ext_refl
run_ext (ask t p q) S = by_test (λ (b : Bool). Extends S (pick b (run p S) (run q S)).store) (holds t S) (λ e. run_ext p S) (λ e. run_ext q S)
run_ext (look K h f) S = run_ext (f (get K S h)) S
run_ext (mk K x) S = mk_ext K x S
run_ext (bind p f) S = ext_trans (run_ext p S) (run_ext (f (run p S).value) (run p S).store)

all_below_same : (n : ℕ) (f g : ℕ → Bool) → ((d : ℕ) → d < n → f d ≡ g d) → all_below n f ≡ all_below n g
all_below_same zero f g e = refl
all_below_same (suc n) f g e = rw (e 0 (omega arith), all_below_same n (λ d. f (suc d)) (λ d. g (suc d)) (λ d i. e (suc d) (omega arith)))

pub agrees_kept : {S S' : Store} (f : List ℕ → ℕ) (K : Kind) (l h : ℕ) → Extends S S' → Held K S l h → agrees f K l h S' ≡ agrees f K l h S
unfolding agrees
agrees_kept f K zero h E A = refl
agrees_kept {S} {S'} f K (suc l) h E A = all_below_same (arity K) _ _
    (λ d i. rw (ext_get E K h A.there) (agrees_kept (λ ds. f (d ∷ ds)) K l (child K S h d) E
    (A.below d i)))

holds_kept : {S S' : Store} (t : Test) → Extends S S' → Sure t S → holds t S' ≡ holds t S
holds_kept (same a b) E s = refl
holds_kept (less a b) E s = refl
holds_kept (has P K l h) E s = agrees_kept _ K l h E s

mk_store_kept : (K : Kind) (x : List ℕ) (S S' : Store) → Extends (mk_store K x S) S' → mk_store K x S' ≡ S'
unfolding mk_store
mk_store_kept rel x S S' E = let e = E.split rel in
    ap (λ (N : Nodes). with_nodes rel N S') (ap (having x) e ∙ having_kept x S.rels (E.tail rel) ∙ sym e)
mk_store_kept set x S S' E = let e = E.split set in
    ap (λ (N : Nodes). with_nodes set N S') (ap (having (stored set x)) e ∙ having_kept (stored set x) S.sets (E.tail set) ∙ sym e)

mk_handle_kept : (K : Kind) (x : List ℕ) (S S' : Store) → Extends (mk_store K x S) S' → mk_handle K x S' ≡ mk_handle K x S
unfolding mk_store mk_handle
mk_handle_kept rel x S S' E = ap (handle_of rel (sign x)) (ap (place x) (E.split rel) ∙ place_kept x S.rels (E.tail rel))
mk_handle_kept set x S S' E = ap (handle_of set (sign x)) (ap (place (stored set x)) (E.split set) ∙ place_kept (stored set x) S.sets (E.tail set))

-- SETTLED
pub settle : (p : Prog) (S S' : Store) → Safe p S → Extends (run p S).store S' → run p S' ≡ ran S' (run p S).value
unfolding run Safe
settle panic S S' s E = absurd s
settle (ret h) S S' s E = refl
settle (ask t p q) S S' s E =
    by_test (λ (b : Bool). holds t S ≡ b → pick b (Safe p S) (Safe q S) → Extends (pick b (run p S) (run q S)).store S'
    → pick (holds t S') (run p S') (run q S') ≡ ran S' (pick b (run p S) (run q S)).value) (holds t S)
    (λ e e' u E. rw (holds_kept t (ext_trans (run_ext p S) E) s.0, e) (settle p S S' u E))
    (λ e e' u E. rw (holds_kept t (ext_trans (run_ext q S) E) s.0, e) (settle q S S' u E))
    refl
    s.1
    E
settle (look K h f) S S' s E =
    ap (λ (x : List ℕ). run (f x) S') (ext_get (ext_trans (run_ext (f (get K S h)) S) E) K h s.0.there)
    ∙ settle (f (get K S h)) S S' s.1 E
settle (mk K x) S S' s E = λ i. ran (mk_store_kept K x S S' E i) (mk_handle_kept K x S S' E i)
settle (bind p f) S S' s E =
    ap (λ (r : Ran). run (f r.value) r.store) (settle p S S' s.0 (ext_trans (run_ext (f (run p S).value) (run p S).store) E))
    ∙ settle (f (run p S).value) (run p S).store S' s.1 E

pub settled : (p : Prog) (S : Store) → Safe p S → Settled p (run p S).store (run p S).value
settled p S s = record { again = λ S' E. settle p S S' s E }

pub settled_later : {p : Prog} {S S' : Store} {r : ℕ} → Extends S S' → Settled p S r → Settled p S' r
settled_later E s = record { again = λ T F. s.again T (ext_trans E F) }
