-- What the functions that check nodes say: c is the child count of a kind, m the nodes, w the working memory, k the number of fields.
use Rattle.std.specs.Prelude.{◌≡◌, List, Bool, true, false, ℕ, ◌+◌, ◌*◌, ◌<◌, ◌≤◌, length, get_or, replicate, Option, Some}
use Rattle.model.specs.Images.{blank}
use Rattle.model.specs.Store.{Kind, set, rel, arity, Store, handle_of}
use Rattle.model.specs.WellFormed.{Held, Even, WellFormed}
use Rattle.memory.specs.Rows.{row, places, plain}
use Rattle.memory.specs.Performing.{other}
use Rattle.memory.specs.Working.{properties_in, Right}
use Rattle.store_check.specs.Memory.{fields, Memories, memory, count, body, decode}
use Rattle.store_check.specs.Valid.{Room, is_store}

-- child d of the node at place i is held earlier, at level l
pub record ChildFits (K : Kind) (B : Store) (m : List ℕ) (i l d : ℕ) : Type 0 where
  pub earlier : get_or m (arity K * i + d) 0 < handle_of K 0 i
  pub held : Held K (plain K B m i) l (get_or m (arity K * i + d) 0)

-- the node at place i may follow those before it
pub record NodeFits (k : ℕ) (K : Kind) (B : Store) (m : List ℕ) (i : ℕ) : Type 0 where
  pub level : ℕ
  pub under : level < k
  pub below : (d : ℕ) → d < arity K → ChildFits K B m i level d
  pub even : Even K (row (arity K) m i)
  pub new : (j : ℕ) → j < i → row (arity K) m j ≡ row (arity K) m i → ⊥

-- r says whether P
pub record Tests (r : Bool) (P : Type 0) : Type 0 where
  pub so : r ≡ true → P
  pub not : r ≡ false → P → ⊥

-- each child of the node at place i is held earlier
abbrev pub Earlier : Kind → List ℕ → ℕ → Type 0
Earlier K m i = (d : ℕ) → d < arity K → get_or m (arity K * i + d) 0 < handle_of K 0 i

-- r is one above the level below k that the children of the node at place i share; one above none where they share none
pub record LevelAbove (k : ℕ) (K : Kind) (S : Store) (m : List ℕ) (i : ℕ) (r : Option ℕ) : Type 0 where
  pub so : (l : ℕ) → r ≡ Some (l + 1) → l < k → (d : ℕ) → d < arity K → Held K S l (get_or m (arity K * i + d) 0)
  pub found : (l : ℕ) → l < k → ((d : ℕ) → d < arity K → Held K S l (get_or m (arity K * i + d) 0)) → r ≡ Some (l + 1)

abbrev pub LevelWalked : List ℕ → ℕ → ℕ → ℕ → Option ℕ → Type 0
LevelWalked m c k i r = (K : Kind) (B : Store) → c ≡ arity K → i ≤ places c m → WellFormed k (plain K B m i) → Earlier K m i
    → LevelAbove k K (plain K B m i) m i r

-- the property word v, where it says something, has the level above that of each child of the node at place i
abbrev pub Above : Kind → Store → List ℕ → ℕ → ℕ → Type 0
Above K S m i v = 0 < v → (d l : ℕ) → d < arity K → Held K S l (get_or m (arity K * i + d) 0) → (properties_in v).level ≡ l + 1

abbrev pub NodeLevel : List ℕ → ℕ → ℕ → ℕ → ℕ → Option ℕ → Type 0
NodeLevel m c k i v r = (K : Kind) (B : Store) → c ≡ arity K → i ≤ places c m → WellFormed k (plain K B m i) → Earlier K m i → Above K (plain K B m i) m i v
    → LevelAbove k K (plain K B m i) m i r

abbrev pub FitsNext : List ℕ → List ℕ → ℕ → ℕ → ℕ → ℕ → Bool → Type 0
FitsNext m w c k i v r = (K : Kind) (B : Store) → c ≡ arity K → i < places c m → Right K B w m i → WellFormed k (plain K B m i)
    → Above K (plain K B m i) m i v → Tests r (NodeFits k K B m i)

-- before the first node: the working memory is right for none of the kind, and the other kind is well formed
pub record Start (k : ℕ) (K : Kind) (B : Store) (m w : List ℕ) : Type 0 where
  pub right : Right K B w m 0
  pub formed : WellFormed k (plain K B m 0)

pub record NodesChecked (c n k : ℕ) (m w w' : List ℕ) (r : Bool) : Type 0 where
  pub right : (K : Kind) (B : Store) → c ≡ arity K → n ≤ places c m → Start k K B m w → r ≡ true → Right K B w' m n
  pub verdict : (K : Kind) (B : Store) → c ≡ arity K → n ≤ places c m → Start k K B m w → Tests r (WellFormed k (plain K B m n))
  pub work_length : length w' ≡ length w

-- the n nodes of kind K in m, and the n' of the other kind in m'
abbrev pub both : Kind → List ℕ → ℕ → List ℕ → ℕ → Store
both K m n m' n' = plain (other K) (plain K blank m n) m' n'

-- the working memory, cleared before, is then right for the kind checked last
pub record BothChecked (c n c' n' k : ℕ) (m m' w w' : List ℕ) (r : Bool) : Type 0 where
  pub right : (K : Kind) → c ≡ arity K → c' ≡ arity (other K) → n ≤ places c m → n' ≤ places c' m' → w ≡ replicate (length w) 0
      → r ≡ true → Right (other K) (plain K blank m n) w' m' n'
  pub verdict : (K : Kind) → c ≡ arity K → c' ≡ arity (other K) → n ≤ places c m → n' ≤ places c' m' → w ≡ replicate (length w) 0
      → Tests r (WellFormed k (both K m n m' n'))
  pub work_length : length w' ≡ length w

-- all of `IsStore` but the nodes
pub record HeadsFit (M : Memories) : Type 0 where
  pub few : fields M ≤ 32
  pub room : (K : Kind) → Room K (memory K M)

-- the kind whose nodes are in the index in the end
abbrev pub kind_last : Bool → Kind
kind_last true = set
kind_last false = rel

-- whether both memories are a store; then the working memory is right for one kind's nodes
pub record StoreChecked (M : Memories) (last : Bool) (w w' : List ℕ) (r : Bool) : Type 0 where
  pub says : r ≡ is_store M
  pub right : r ≡ true → (let K = kind_last last in Right K (decode M) w' (body K (memory K M)) (count K (memory K M)))
  pub work_length : length w' ≡ length w
