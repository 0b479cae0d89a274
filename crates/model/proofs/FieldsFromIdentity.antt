-- `test` and `assign` of relations where the identity and the empty relation of level k are held, in a well-formed store: the nodes of the fields
-- after the named one and all empty relations are held then, so that `each_field` runs as `from_identity`, which makes the others alone.
use mathlib.Core.Path.{◌≡◌, refl, sym, ap, ◌∙◌, subst}
use mathlib.Core.Logic.{inl, inr}
use mathlib.Core.List.{List, [], ◌∷◌}
use Prim.Native.Nat.{ℕ, zero, suc, ◌+◌, ◌-◌, ◌<◌}
use native.Mathlib.Omega.{arith}
use lib.ListN.{length, get_or}
use lib.Seq.{ext_get_or}
use lib.Dec.{eqb, T, eqb→eq}
use borrow.Author.Tests.{eq-eqb, ne_eqb}
use Rattle.model.specs.FieldsFromIdentity.{IdentityHeld, from_identity}
use Rattle.model.specs.Operations.{each_field}
use Rattle.model.specs.Programs.{is_empty, is_identity, ending, agrees, Prog, mk, ◌>>=◌, Ran, ran, run}
use Rattle.model.specs.Safety.{Within, Safe, Settled}
use Rattle.model.specs.Store.{rel, Store, with_nodes, pick, get, child, place, mk_store, mk_handle}
use Rattle.model.specs.WellFormed.{Held, WellFormed, Extends}
use Rattle.model.proofs.Bools.{on_digits}
use Rattle.model.proofs.Canonical.{formed_sized, get_length}
use Rattle.model.proofs.Extends.{ext_refl, ext_trans}
use Rattle.model.proofs.Levels.{agrees_once}
use Rattle.model.proofs.Mk.{had}
use Rattle.model.proofs.Reducing.{Becomes, named, further, at_first, and_then, passed, regrouped, seen}
use Rattle.model.proofs.Rules.{held_within}
use Rattle.model.proofs.Settle.{settled}
use Rattle.model.proofs.Tests.{all_below_T}

-- A NODE THAT IS HELD is not made again
held_made : {k : ℕ} {S : Store} (x : List ℕ) (h : ℕ) → WellFormed k S → Within rel S h → get rel S h ≡ x → run (mk rel x) S ≡ ran S h
unfolding run get mk_store mk_handle
held_made {S = S} x h F w e = elim (had x S.rels).new [
  | inl q ↦
      (let i = F.distinct rel (place x S.rels) (h - 2) (rw q at (had x S.rels).inside) w.there (rw q at (had x S.rels).found ∙ sym e) in
      let j : place x S.rels + 2 ≡ h = omega (arith, i, w.big) in
      λ t. ran (with_nodes rel (q t) S) (j t))
  | inr q ↦ absurd (q.2 (h - 2) w.there e)
]

held_settled : {k : ℕ} {S : Store} (l : ℕ) (x : List ℕ) (h : ℕ) → WellFormed k S → Held rel S (suc l) h → get rel S h ≡ x → Settled (mk rel x) S h
unfolding Safe
held_settled {S = S} l x h F A e = subst (λ (R : Ran). Settled (mk rel x) R.store R.value) (held_made x h F (held_within l A) e)
    (settled (mk rel x) S (record {
      level = l;
      sized = ap length (sym e) ∙ get_length rel h (formed_sized rel F) A;
      held = λ d i. subst (λ y. Held rel S l (get_or y d 0)) e (A.below d i);
    }))

-- THE LADDER of identities and empty relations, from level 0 up to l: each is held, and has the last ones for its children
record Rung (S : Store) (o z o' z' : ℕ) : Type 0 where
  within : Within rel S o'
  children : get rel S o' ≡ o ∷ z ∷ z ∷ o ∷ []
  one : Settled (mk rel (o ∷ z ∷ z ∷ o ∷ [])) S o'
  empty : Settled (mk rel (z ∷ z ∷ z ∷ z ∷ [])) S z'

data Ladder (S : Store) : ℕ → ℕ → ℕ → Type 0 where
  ground : Ladder S zero 1 0
  rung : {l o z o' z' : ℕ} → Rung S o z o' z' → Ladder S l o z → Ladder S (suc l) o' z'

-- g is held at level l, and every walk from it ends at f of its digits
abbrev Ends : Store → ℕ → (List ℕ → ℕ) → ℕ → Type 0
Ends S l f g = Held rel S l g × T (agrees f rel l g S)

ends_child : {S : Store} (l : ℕ) (f : List ℕ → ℕ) (h : ℕ) → Ends S (suc l) f h → (d : ℕ) → d < 4 → Ends S l (λ ds. f (d ∷ ds)) (child rel S h d)
unfolding agrees
ends_child {S} l f h A d i = (A.0.below d i, all_below_T 4 (λ d. agrees (λ ds. f (d ∷ ds)) rel l (child rel S h d) S) A.1 d i)

-- a node has those children whose walks end as its own do
children_are : {k : ℕ} {S : Store} (l : ℕ) → WellFormed k S → (f : List ℕ → ℕ) (h a b c d : ℕ) → Ends S (suc l) f h → Ends S l (λ ds. f (0 ∷ ds)) a
    → Ends S l (λ ds. f (1 ∷ ds)) b → Ends S l (λ ds. f (2 ∷ ds)) c → Ends S l (λ ds. f (3 ∷ ds)) d → get rel S h ≡ a ∷ b ∷ c ∷ d ∷ []
children_are {S = S} l F f h a b c d A X0 X1 X2 X3 =
    let n = get_length rel h (formed_sized rel F) A.0 in
    ext_get_or 0 (get rel S h) (a ∷ b ∷ c ∷ d ∷ []) n (λ i u.
    on_digits (λ i. child rel S h i ≡ get_or (a ∷ b ∷ c ∷ d ∷ []) i 0) (is 0 a (omega arith) X0) (is 1 b (omega arith) X1) (is 2 c (omega arith) X2)
    (is 3 d (omega arith) X3) i (subst (λ n. i < n) n u))
  where
    is : (i g : ℕ) → i < 4 → Ends S l (λ ds. f (i ∷ ds)) g → child rel S h i ≡ g
    is i g j X = let Y = ends_child l f h A i j in (agrees_once rel l g (child rel S h i) (λ ds. f (i ∷ ds)) F X.0 Y.0 X.1).0 Y.1

ladder : {k : ℕ} {S : Store} (l o z : ℕ) → WellFormed k S → Ends S l (ending is_identity) o → Ends S l (ending is_empty) z → Ladder S l o z
unfolding agrees
ladder {S = S} zero o z F A Z = subst (λ o. Ladder S 0 o z) (sym (eqb→eq o 1 A.1)) (subst (λ z. Ladder S 0 1 z) (sym (eqb→eq z 0 Z.1)) ground)
ladder {S = S} (suc l) o' z' F A Z =
    let O = ends_child l (ending is_identity) o' A 0 (omega arith) in
    let E = ends_child l (ending is_identity) o' A 1 (omega arith) in
    let p = children_are l F (ending is_identity) o' _ _ _ _ A O E E O in
    let q = children_are l F (ending is_empty) z' _ _ _ _ Z E E E E in
    rung (record {
      within = held_within l A.0;
      children = p;
      one = held_settled l _ o' F A.0 p;
      empty = held_settled l _ z' F Z.0 q;
    }) (ladder l (child rel S o' 0) (child rel S o' 1) F O E)

-- THE FIELDS
module _ (at : ℕ → ℕ → List ℕ) (v : ℕ) {S : Store} {o z o' z' : ℕ} (R : Rung S o z o' z') where
  -- the empty relation that is made after a field's node is held
  field_made : {S' : Store} (i r : ℕ) → Extends S S'
      → Becomes (each_field at v (suc i) r z) (mk rel (pick (eqb i v) (at r z) (r ∷ z ∷ z ∷ r ∷ [])) >>= λ y. each_field at v i y z') S'
  unfolding each_field
  field_made i r E = and_then (λ S'' y E'. passed R.empty (ext_trans E E'))

  named_field : {S' : Store} (i r : ℕ) → i ≡ v → Extends S S' → Becomes (each_field at v (suc i) r z) (mk rel (at r z) >>= λ y. each_field at v i y z') S'
  named_field i r e E = further (field_made i r E)
      (named (λ j. mk rel (pick (eq-eqb i v e j) (at r z) (r ∷ z ∷ z ∷ r ∷ [])) >>= λ y. each_field at v i y z'))

  other_field : {S' : Store} (i r : ℕ) → (i ≡ v → ⊥) → Extends S S'
      → Becomes (each_field at v (suc i) r z) (mk rel (r ∷ z ∷ z ∷ r ∷ []) >>= λ y. each_field at v i y z') S'
  other_field i r e E = further (field_made i r E)
      (named (λ j. mk rel (pick (ne_eqb i v e j) (at r z) (r ∷ z ∷ z ∷ r ∷ [])) >>= λ y. each_field at v i y z'))

module _ (at : ℕ → ℕ → List ℕ) (v : ℕ) {S : Store} where
  counted : {r : Prog} {m n : ℕ} → n ≡ m → Becomes (each_field at v m 1 0) r S → Becomes (each_field at v n 1 0) r S
  counted e b = further (named (ap (λ n. each_field at v n 1 0) e)) b

  -- the last l fields, where the named one is before them: the identity is held
  later_fields : {l o z : ℕ} (i : ℕ) → Ladder S l o z → v < i → Becomes (each_field at v (i + l) 1 0) (each_field at v i o z) S
  later_fields i ground h = counted (omega arith) (named refl)
  later_fields i (rung {l = l} {o = o} R L) h = counted (omega arith)
      (further (later_fields (suc i) L (omega arith)) (further (other_field at v R i o (λ e. omega arith) ext_refl) (passed R.one ext_refl)))

  -- the last l fields, where the named one is among them, after j of them
  with_named : {l o z : ℕ} (i j : ℕ) → Ladder S l o z → i + j ≡ v → j < l
      → Becomes (each_field at v (i + l) 1 0) (from_identity at j o >>= λ r. each_field at v i r z) S
  unfolding from_identity
  with_named i j ground e h = absurd (omega arith)
  with_named i zero (rung {l = l} {o = o} R L) e h = counted (omega arith)
      (further (later_fields (suc i) L (omega arith)) (further (named_field at v R i o (omega arith) ext_refl) (at_first (seen R.within R.children))))
  with_named i (suc j) (rung {l = l} {o = o} R L) e h = counted (omega arith)
      (further (with_named (suc i) j L (omega arith) (omega arith))
      (further (and_then (λ S' r E. other_field at v R i r (λ q. omega arith) E))
      (further regrouped (at_first (seen R.within R.children)))))

  no_field_left : {p : Prog} (z : ℕ) → Becomes (p >>= λ r. each_field at v 0 r z) p S
  unfolding each_field run Safe
  no_field_left z = record { runs = refl; safe = λ s. s.0 }

  pub fields_from_identity : {k l one : ℕ} → WellFormed k S → IdentityHeld l S one → v < l → Becomes (each_field at v l 1 0) (from_identity at v one) S
  fields_from_identity {l = l} {one = one} F I h =
      let L = ladder l one I.empty F (I.held, subst T (sym I.identity) tt) (I.empty_held, subst T (sym I.empty_is) tt) in
      counted (omega arith) (further (with_named 0 v L (omega arith) h) (no_field_left I.empty))
