-- What the functions that check a call and answer it say: m is the nodes of a kind, n their count, k the number of fields.
use Rattle.std.specs.Prelude.{◌≡◌, List, Bool, true, ◌&&◌, ℕ, ◌≤◌, eqb, Ok, Err}
use Rattle.model.specs.Store.{Kind, rel, arity, Store}
use Rattle.model.specs.WellFormed.{WellFormed, is_held, level_of}
use Rattle.memory.specs.Performing.{Condition, Any}
use Rattle.memory.specs.Rows.{places, plain}
use Rattle.memory.specs.Working.{Right}
use Rattle.store_check.specs.StoreChecking.{both}
use Rattle.store_check.specs.Memory.{Memories, memory, count, body, decode}
use Rattle.store_check.specs.Valid.{IsStore}
use Rattle.call_rules.specs.Outcome.{Check}

-- a level is at most k
abbrev pub Low : ℕ → Check → Type 0
Low k (Ok l) = l ≤ k
Low k (Err r) = Unit {0}

-- r is what a call declines in S
pub record ChecksIn (k : ℕ) (S : Store) (check : Store → Check) (r : Check) : Type 0 where
  pub says : check S ≡ r
  pub low : Low k r

-- the same over the first n nodes of m, whatever the nodes of the other kind
pub record Checks (K : Kind) (m : List ℕ) (n k : ℕ) (check : Store → Check) (r : Check) : Type 0 where
  pub says : (B : Store) → n ≤ places (arity K) m → WellFormed k (plain K B m n) → check (plain K B m n) ≡ r
  pub low : Low k r

-- the same over the first n relations of o and the first j sets of t
pub record ChecksBoth (o : List ℕ) (n : ℕ) (t : List ℕ) (j k : ℕ) (check : Store → Check) (r : Check) : Type 0 where
  pub checks : n ≤ places 4 o → j ≤ places 2 t → WellFormed k (both rel o n t j) → ChecksIn k (both rel o n t j) check r

-- whether three held handles are at level l
abbrev pub AllAt : List ℕ → ℕ → ℕ → ℕ → ℕ → ℕ → ℕ → Bool → Type 0
AllAt m c k l x y z r = (K : Kind) (B : Store) (n : ℕ) → c ≡ arity K → n ≤ places (arity K) m → WellFormed k (plain K B m n)
    → is_held K (plain K B m n) x ≡ true → is_held K (plain K B m n) y ≡ true → is_held K (plain K B m n) z ≡ true
    → (let S = plain K B m n in eqb (level_of k K S x) l && (eqb (level_of k K S y) l && eqb (level_of k K S z) l)) ≡ r

-- r is the answer of a call that adds nothing, where what it reads is there; over each store with Q, over every store
pub record AnsweredOn {A : Type 0} (Q : Condition) (K : Kind) (m w : List ℕ) (n : ℕ) (safe : Store → Type 0) (answer : Store → A) (r : A) : Type 0 where
  pub answers : (B : Store) → Q B → n ≤ places (arity K) m → Right K B w m n → safe (plain K B m n) → r ≡ answer (plain K B m n)

abbrev pub Answered : {A : Type 0} → Kind → List ℕ → List ℕ → ℕ → (Store → Type 0) → (Store → A) → A → Type 0
Answered K m w n safe answer r = AnsweredOn Any K m w n safe answer r

-- memories that were checked: a store, with the working memory right for the nodes of kind K
pub record CheckedStore (K : Kind) (M : Memories) (w : List ℕ) : Type 0 where
  pub store : IsStore M
  pub right : Right K (decode M) w (body K (memory K M)) (count K (memory K M))
