-- Nodes with one relation off the diagonal run shorter programs. A product with (b, z, z, c), z empty: products and unions with the empty relation answer at
-- once, so four products are left of eight. Nodes (a, z, z, a) and (b, z, z, b): one product or one union is left, since a program that was run is settled.
use mathlib.Core.Path.{◌≡◌, refl, sym, ap, ◌∙◌, subst}
use mathlib.Core.List.{List, [], ◌∷◌}
use mathlib.Core.Bool.{Bool, true, false}
use Prim.Native.Nat.{ℕ, zero, suc, ◌<◌}
use native.Mathlib.Omega.{arith}
use lib.ListN.{get_or, replicate}
use lib.Dec.{eqb, T}
use borrow.Author.Tests.{eq-eqb, eqb-true}
use Rattle.model.specs.Operations.{union}
use Rattle.model.specs.Packets.{Digits, none, more}
use Rattle.model.specs.Programs.{is_empty, is_identity, ending, agrees, Prog, mk, ran, run, ◌>>=◌}
use Rattle.model.specs.Recursion.{op2, x00, x01, x10, x11, each2, four}
use Rattle.model.specs.Relations.{sequence_op, sequence}
use Rattle.model.specs.Safety.{Within, Safe, ReducesTo}
use Rattle.model.specs.Store.{rel, Store, pick, index, get}
use Rattle.model.specs.WellFormed.{Held, Extends}
use Rattle.model.proofs.Bools.{by_test}
use Rattle.model.proofs.Extends.{ext_refl, ext_trans, ext_held}
use Rattle.model.proofs.Levels.{held_once, agrees_once}
use Rattle.model.proofs.Reducing.{reduces_same, reduces_then, keeping, skipping, Formed, run_formed}
use Rattle.model.proofs.Settle.{run_ext, agrees_kept, settled}
use Rattle.model.proofs.Tests.{empty, agrees_walk}

-- EMPTY RELATIONS of level l
record Empty (l : ℕ) (S : Store) (z : ℕ) : Type 0 where
  held : Held rel S l z
  known : empty rel l z S ≡ true

empty_later : {l : ℕ} {S S' : Store} {z : ℕ} → Extends S S' → Empty l S z → Empty l S' z
empty_later {l} {z = z} E A = record { held = ext_held E rel l z A.held; known = agrees_kept (ending is_empty) rel l z E A.held ∙ A.known }

as_T : {b : Bool} → b ≡ true → T b
as_T e = rw e tt

empty_once : {l : ℕ} {S : Store} {a b : ℕ} → Formed S → Empty l S a → Empty l S b → a ≡ b
empty_once {l} {S} {a} {b} F A B = (agrees_once rel l b a (ending is_empty) F.rules B.held A.held (as_T B.known)).0 (as_T A.known)

-- along zeros the full relation and the identity have a walk to 1
zeros : (l : ℕ) → Digits rel l (replicate l 0)
zeros zero = none
zeros (suc l) = more 0 (omega arith) (zeros l)

identity_zeros : (l : ℕ) → ending is_identity (replicate l 0) ≡ 1
identity_zeros zero = refl
identity_zeros (suc l) = identity_zeros l

empty_no : {l : ℕ} {S : Store} {z : ℕ} (f : List ℕ → ℕ) → f (replicate l 0) ≡ 1 → Empty l S z → agrees f rel l z S ≡ false
empty_no {l} {S} {z} f e A = by_test (λ b. agrees f rel l z S ≡ b → b ≡ false) (agrees f rel l z S)
    (λ _ t. absurd (omega (arith, agrees_walk S f z (as_T t) (zeros l), agrees_walk S (ending is_empty) z (as_T A.known) (zeros l), e)))
    (λ _ t. refl) refl

-- ANSWERS AT ONCE. A product whose first operand is empty gives it; a union with an empty relation gives the other operand
product_left : {l : ℕ} {S : Store} {z : ℕ} (b : ℕ) → Empty l S z → run (sequence l z b) S ≡ ran S z
unfolding run sequence op2
product_left b A = rw A.known

union_left : {l : ℕ} {S : Store} {z : ℕ} (t : ℕ) → Empty l S z → run (union rel l z t) S ≡ ran S t
unfolding run union op2
union_left {l} {S} {z} t A = go (eqb z t) refl
  where
    go : (b : Bool) → eqb z t ≡ b → run (union rel l z t) S ≡ ran S t
    go true e = rw e (ap (ran S) (eqb-true z t e))
    go false e = rw (e, A.known)

union_right : {l : ℕ} {S : Store} {z : ℕ} (t : ℕ) → Formed S → Empty l S z → Safe (union rel l t z) S → run (union rel l t z) S ≡ ran S t
unfolding run Safe union op2
union_right {l} {S} {z} t F A s = go (eqb t z) refl
  where
    both : (b : Bool) → Held rel S l t → eqb t z ≡ false → empty rel l t S ≡ b → run (union rel l t z) S ≡ ran S t
    both true T' e f = rw (e, f) (ap (ran S) (sym (empty_once F (record { held = T'; known = f }) A)))
    both false T' e f = rw (e, f, empty_no (λ ds. 1) refl A, A.known)

    go : (b : Bool) → eqb t z ≡ b → run (union rel l t z) S ≡ ran S t
    go true e = rw e
    go false e = both (empty rel l t S) (rw e at s.1).0 e refl

-- VOID: z is held in a well-formed store, and is empty if it is of level l
pub record Void (l : ℕ) (S : Store) (z : ℕ) : Type 0 where
  pub formed : Formed S
  pub level : ℕ
  pub held : Held rel S level z
  pub known : Held rel S l z → empty rel l z S ≡ true

-- so is a child of a node that is known to be empty at level l
pub child_void : {l : ℕ} {S : Store} {y : ℕ} {x : List ℕ} (d : ℕ) → d < 4 → Formed S → Within rel S y → get rel S y ≡ x
    → (Held rel S l (get_or x d 0) → empty rel l (get_or x d 0) S ≡ true) → Void l S (get_or x d 0)
unfolding get
child_void {S = S} {y = y} d i F w e k = let f = F.rules.fits rel (index rel y) w.there in record {
  formed = F;
  level = f.level;
  held = subst (λ x. Held rel S f.level (get_or x d 0)) e (f.below d i);
  known = k;
}

void_empty : {l : ℕ} {S : Store} {z : ℕ} → Void l S z → Held rel S l z → Empty l S z
void_empty Z A = record { held = A; known = Z.known A }

void_later : {l z : ℕ} (p : Prog) (S : Store) → Safe p S → Void l S z → Void l (run p S).store z
void_later {l} {z} p S s Z = let E = run_ext p S in let A = ext_held E rel Z.level z Z.held in record {
  formed = run_formed p S s Z.formed;
  level = Z.level;
  held = A;
  known = λ B. let H : Held rel S l z = subst (λ n. Held rel S n z) (held_once rel (run p S).store Z.level l z A B) Z.held in
      agrees_kept (ending is_empty) rel l z E H ∙ Z.known H;
}

-- a product with it gives an empty relation at once: the first operand where that is empty, else z
abbrev nothing : ℕ → Store → ℕ → ℕ → ℕ
nothing l S a z = pick (empty rel l a S) a z

record AtOnce (l : ℕ) (S : Store) (a z : ℕ) : Type 0 where
  runs : run (sequence l a z) S ≡ ran S (nothing l S a z)
  none_there : Empty l S (nothing l S a z)

product_right : {l : ℕ} {S : Store} {z : ℕ} (a : ℕ) → Void l S z → Safe (sequence l a z) S → AtOnce l S a z
unfolding run Safe sequence op2
product_right {l} {S} {z} a Z s = go (empty rel l a S) refl
  where
    go : (b : Bool) → empty rel l a S ≡ b → AtOnce l S a z
    go true e = record { runs = rw e; none_there = rw e (record { held = s.0; known = e }) }
    go false e = let O = void_empty Z (rw e at s.1).0 in record {
      runs = rw (e, empty_no (ending is_identity) (identity_zeros l) O, O.known);
      none_there = rw e O;
    }

-- DIAGONAL: of the product of x with (b, z, z, c) four products are left
abbrev pub node : ℕ → ℕ → ℕ → ℕ → Prog
node r00 r01 r10 r11 = mk rel (r00 ∷ r01 ∷ r10 ∷ r11 ∷ [])

abbrev pub times_diagonal : ℕ → List ℕ → ℕ → ℕ → Prog
times_diagonal l x b c = four (sequence l (x00 x) b) (sequence l (x01 x) c) (sequence l (x10 x) b) (sequence l (x11 x) c) node

pub diagonal_reduces : {S : Store} (l : ℕ) (x : List ℕ) (b c z : ℕ) → Void l S z → Safe (sequence_op.kids l (sequence l) x (b ∷ z ∷ z ∷ c ∷ [])) S
    → ReducesTo (sequence_op.kids l (sequence l) x (b ∷ z ∷ z ∷ c ∷ [])) (times_diagonal l x b c) S
diagonal_reduces {S} l x b c z Z s =
    keeping s λ u s.
    let Z₁ = void_later (sequence l (x00 x) b) S u Z in
    skipping s (λ u. (product_right (x01 x) Z₁ u).runs) λ u₁ s.
    skipping s (λ u. (product_right (x00 x) Z₁ u).runs) λ u₂ s.
    let S₁ = (run (sequence l (x00 x) b) S).store in
    keeping s λ u s.
    let Z₂ = void_later (sequence l (x01 x) c) S₁ u Z₁ in
    let S₂ = (run (sequence l (x01 x) c) S₁).store in
    keeping s λ u s.
    let Z₃ = void_later (sequence l (x10 x) b) S₂ u Z₂ in
    let S₃ = (run (sequence l (x10 x) b) S₂).store in
    skipping s (λ u. (product_right (x11 x) Z₃ u).runs) λ u₃ s.
    skipping s (λ u. (product_right (x10 x) Z₃ u).runs) λ u₄ s.
    keeping s λ u s.
    let Z₄ = void_later (sequence l (x11 x) c) S₃ u Z₃ in
    let E₄ = run_ext (sequence l (x11 x) c) S₃ in
    let E = ext_trans (run_ext (sequence l (x01 x) c) S₁) (ext_trans (run_ext (sequence l (x10 x) b) S₂) E₄) in
    skipping s (union_right _ Z₄.formed (empty_later E (product_right (x01 x) Z₁ u₁).none_there)) λ _ s.
    skipping s (λ _. union_left _ (empty_later E (product_right (x00 x) Z₁ u₂).none_there)) λ _ s.
    skipping s (union_right _ Z₄.formed (empty_later E₄ (product_right (x11 x) Z₃ u₃).none_there)) λ _ s.
    skipping s (λ _. union_left _ (empty_later E₄ (product_right (x10 x) Z₃ u₄).none_there)) λ _ s.
    reduces_same s

-- LIFT: where the second and the third of four programs give z at once and the last is the first, one is left
four_reduces : {S : Store} (p q : Prog) (z : ℕ) → (Safe p S → Safe q (run p S).store → run q (run p S).store ≡ ran (run p S).store z)
    → Safe (four p q q p node) S → ReducesTo (four p q q p node) (p >>= λ t. node t z z t) S
four_reduces {S} p q z e s =
    keeping s λ u s.
    skipping s (e u) λ _ s.
    skipping s (e u) λ _ s.
    skipping s (λ _. (settled p S u).again _ ext_refl) λ _ s.
    reduces_same s

-- so it is of the product of (a, z, z, a) with (b, z, z, b)
pub product_lifts : {S : Store} (l a b z : ℕ) → Void l S z → Safe (sequence_op.kids l (sequence l) (a ∷ z ∷ z ∷ a ∷ []) (b ∷ z ∷ z ∷ b ∷ [])) S
    → ReducesTo (sequence_op.kids l (sequence l) (a ∷ z ∷ z ∷ a ∷ []) (b ∷ z ∷ z ∷ b ∷ [])) (sequence l a b >>= λ t. node t z z t) S
unfolding Safe sequence op2
product_lifts {S} l a b z Z s = reduces_then (diagonal_reduces l (a ∷ z ∷ z ∷ a ∷ []) b b z Z s)
    (four_reduces (sequence l a b) (sequence l z b) z (λ u v. product_left b (void_empty (void_later (sequence l a b) S u Z) v.0)))

-- and of their union, whatever z is
union_same : (l : ℕ) (S : Store) (z : ℕ) → run (union rel l z z) S ≡ ran S z
unfolding run union op2
union_same l S z = rw (eq-eqb z z refl)

pub union_lifts : {S : Store} (l a b z : ℕ) → Safe (each2 rel (union rel l) (a ∷ z ∷ z ∷ a ∷ []) (b ∷ z ∷ z ∷ b ∷ [])) S
    → ReducesTo (each2 rel (union rel l) (a ∷ z ∷ z ∷ a ∷ []) (b ∷ z ∷ z ∷ b ∷ [])) (union rel l a b >>= λ t. node t z z t) S
union_lifts l a b z = four_reduces (union rel l a b) (union rel l z z) z (λ _ _. union_same l _ z)
