-- What the functions on property words and on children do; c is the child count of a kind, m the nodes, w the working memory.
use Rattle.std.specs.Prelude.{◌≡◌, List, Bool, ◌&&◌, ◌⊎◌, ℕ, ◌+◌, ◌-◌, ◌<◌, ◌≤◌, length, get_or, set, eqb}
use Rattle.model.specs.Store.{Kind, rel, arity, Store, nodes, handle_of, get}
use Rattle.model.specs.Programs.{ending, is_identity, all_below, agrees}
use Rattle.model.specs.WellFormed.{Held, WellFormed}
use Rattle.model.specs.Safety.{Within}
use Rattle.memory.specs.Rows.{places, plain}
use Rattle.memory.specs.Working.{words_at, properties_in, Known, Words}
use Rattle.memory.specs.declared.Properties.{Properties}

-- at most the word of place n changed, to v
abbrev pub Written : Kind → ℕ → ℕ → List ℕ → List ℕ → Type 0
Written K n v w w' = ((length w ≤ words_at K (length w) + n) × (w' ≡ w)) ⊎ (w' ≡ set w (words_at K (length w) + n) v)

-- the word of place n says nothing wrong of a node x there
pub record Noted (K : Kind) (x : List ℕ) (n : ℕ) (w w' : List ℕ) : Type 0 where
  pub word : ℕ
  pub known : (k : ℕ) (S : Store) (h : ℕ) → WellFormed k S → Words w S → 2 ≤ h → get K S h ≡ x → Known K S h word
  pub written : Written K n word w w'

-- no word of those at ws, one a node of kind K, says anything wrong
abbrev pub WordsOf : Kind → List ℕ → Store → Type 0
WordsOf K ws S = (i : ℕ) → i < length ws → i < length (nodes K S) → Known K S (handle_of K 0 i) (get_or ws i 0)

-- r says nothing wrong of h, in stores whose words have W
abbrev pub KnownBy : (Kind → Store → Type 0) → ℕ → ℕ → ℕ → Type 0
KnownBy W c h r = (K : Kind) (k : ℕ) (S : Store) → c ≡ arity K → WellFormed k S → W K S → Known K S h r

-- the same, where ws are the words of one kind's nodes
abbrev pub ReadsWord : List ℕ → ℕ → ℕ → ℕ → Type 0
ReadsWord ws c h r = KnownBy (λ K S. WordsOf K ws S) c h r

-- the same, from the working memory
abbrev pub KnownWord : List ℕ → ℕ → ℕ → ℕ → Type 0
KnownWord w c h r = KnownBy (λ K S. Words w S) c h r

abbrev pub properties : Bool → Bool → Bool → ℕ → Properties
properties e u i l = record { empty = e; universal = u; identity = i; level = l }

-- what two handles of one level have both
abbrev pub in_both : Properties → Properties → Properties
in_both a b = record { empty = a.empty && b.empty; universal = a.universal && b.universal; identity = a.identity && b.identity; level = a.level }

-- r says nothing wrong of a handle with the children x, in a store whose words have W; where it says something, x share the level below
pub record Gathers (K : Kind) (W : Store → Type 0) (x : List ℕ) (r : ℕ) : Type 0 where
  pub known : (k : ℕ) (S : Store) (h : ℕ) → WellFormed k S → W S → 2 ≤ h → get K S h ≡ x → Known K S h r
  pub level : (k : ℕ) (S : Store) → WellFormed k S → W S → 0 < r → (d l : ℕ) → d < arity K → Held K S l (get_or x d 0) → (properties_in r).level ≡ l + 1

-- r is child d of h, where h has a node
abbrev pub ChildOf : List ℕ → ℕ → ℕ → ℕ → ℕ → Type 0
ChildOf m c h d r = (K : Kind) (B : Store) (n : ℕ) → c ≡ arity K → n ≤ places c m → Within K (plain K B m n) h → r ≡ get_or (get K (plain K B m n) h) d 0

-- whether all children of h are x
abbrev pub ChildrenAre : List ℕ → ℕ → ℕ → ℕ → Bool → Type 0
ChildrenAre m c h x r = (K : Kind) (B : Store) (n : ℕ) → c ≡ arity K → n ≤ places c m → Within K (plain K B m n) h
    → r ≡ all_below c (λ d. eqb (get_or (get K (plain K B m n) h) d 0) x)

-- whether every walk from h, of level l, ends at v
abbrev pub WalksTo : List ℕ → ℕ → ℕ → ℕ → ℕ → Bool → Type 0
WalksTo m c l h v r = (K : Kind) (k : ℕ) (B : Store) (n : ℕ) → c ≡ arity K → n ≤ places c m → WellFormed k (plain K B m n) → Held K (plain K B m n) l h
    → r ≡ agrees (λ ds. v) K l h (plain K B m n)

-- whether the relation h, of level l, is the identity, where q says it of its first child x
abbrev pub IdentityAt : List ℕ → ℕ → ℕ → ℕ → ℕ → Bool → Bool → Type 0
IdentityAt m c l h x q r = (k : ℕ) (B : Store) (n : ℕ) → c ≡ arity rel → n ≤ places 4 m → WellFormed k (plain rel B m n) → Held rel (plain rel B m n) l h
    → x ≡ get_or (get rel (plain rel B m n) h) 0 0 → q ≡ agrees (ending is_identity) rel (l - 1) x (plain rel B m n)
    → r ≡ agrees (ending is_identity) rel l h (plain rel B m n)

-- the level of a held handle
abbrev pub LevelIs : List ℕ → ℕ → ℕ → ℕ → ℕ → Type 0
LevelIs m c k h r = (K : Kind) (B : Store) (n l : ℕ) → c ≡ arity K → n ≤ places c m → Held K (plain K B m n) l h → l ≤ k → r ≡ l
