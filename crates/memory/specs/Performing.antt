-- What a function on the nodes of one kind does: it runs a program, within the places. Contracts hold over every store B
-- that has the nodes of the other kind, or over those with a condition Q.
use Rattle.std.specs.Prelude.{◌≡◌, List, Bool, true, false, Option, Some, None, ◌&&◌, ◌⊎◌, ℕ, ◌+◌, ◌*◌, ◌<◌, ◌≤◌, length, get_or, take, drop, leb}
use Rattle.model.specs.Store.{Kind, set, rel, arity, Store, nodes, handle_of, sign, stored, get}
use Rattle.model.specs.Programs.{Prog, mk, ran, run}
use Rattle.model.specs.WellFormed.{Held, WellFormed}
use Rattle.model.specs.Safety.{Within, Safe, ReducesTo}
use Rattle.memory.specs.Rows.{rows, places, plain, most_places}
use Rattle.memory.specs.Working.{memo_size, Has, Words, entry_op, entry_level, entry_left, entry_right, entry_result, Remembers, Right}
use Rattle.memory.specs.Memo.{memo_program}
use Rattle.memory.specs.declared.Properties.{Properties}
use Rattle.memory.specs.declared.Lookup.{Lookup}
use Rattle.memory.specs.declared.Lookup.TheVariants.{Answer, Operands}

-- THE STATE OF A RUN: the count of nodes, the number that the last step gave, and whether all nodes so far fitted
pub record RunState : Type 0 where
  pub n : ℕ
  pub h : ℕ
  pub ok : Bool

abbrev pub run_state : Bool → ℕ → ℕ → RunState
run_state ok n h = record { ok = ok; n = n; h = h }

-- a call begins with n nodes, all before having fitted; it ends with n nodes and a number, or with no place left; or it says yes or no, as 1 or 0
abbrev pub going : ℕ → RunState
going n = run_state true n 0

abbrev pub ended : ℕ → Option ℕ → RunState
ended n (Some h) = run_state true n h
ended n None = run_state false n 0

abbrev pub told : ℕ → Bool → RunState
told n true = run_state true n 1
told n false = run_state true n 0

-- READY: the count is within the places and, as long as all before fitted, p is safe and the working memory right
pub record Fitting (K : Kind) (p : Prog) (B : Store) (s : RunState) (m w : List ℕ) : Type 0 where
  pub safe : Safe p (plain K B m s.n)
  pub work : Right K B w m s.n

pub record Ready (K : Kind) (p : Prog) (B : Store) (s : RunState) (m w : List ℕ) : Type 0 where
  pub room : s.n ≤ places (arity K) m
  pub live : s.ok ≡ true → Fitting K p B s m w

-- the count that p ends with
unfoldable pub ends : Kind → Prog → Store → ℕ
ends K p S = length (nodes K (run p S).store)

-- only places from n up to n' are written, and n' stays within the places
pub record Writes (c n : ℕ) (m m' : List ℕ) (n' : ℕ) : Type 0 where
  pub grows : n ≤ n'
  pub head : take (c * n) m' ≡ take (c * n) m
  pub rest : drop (c * n') m' ≡ drop (c * n') m
  pub most : n' ≤ places c m
  pub long : length m' ≡ length m

-- all fitted: the nodes and the value are p's, and the working memory is right for them
pub record Done (K : Kind) (p : Prog) (B : Store) (s : RunState) (m m' w' : List ℕ) (r : RunState) : Type 0 where
  pub store : plain K B m' r.n ≡ (run p (plain K B m s.n)).store
  pub value : r.h ≡ (run p (plain K B m s.n)).value
  pub work : Right K B w' m' r.n

-- RUNS: r is ok exactly where all before fitted and p ends within the places
pub record Runs (K : Kind) (p : Prog) (B : Store) (s : RunState) (m m' w w' : List ℕ) (r : RunState) : Type 0 where
  pub okay : r.ok ≡ (s.ok && leb (ends K p (plain K B m s.n)) (places (arity K) m))
  pub done : r.ok ≡ true → Done K p B s m m' w' r
  pub writes : Writes (arity K) s.n m m' r.n
  pub work_length : length w' ≡ length w

-- what a contract may ask of the nodes of the other kind; nothing
abbrev pub Condition : Type 1
Condition = Store → Type 0

abbrev pub Any : Condition
Any B = Unit {0}

-- the contract of a function that runs p, over each store with Q; over every store
pub record PerformsOn (Q : Condition) (K : Kind) (p : Prog) (s : RunState) (m m' w w' : List ℕ) (r : RunState) : Type 0 where
  pub runs : (B : Store) → Q B → Ready K p B s m w → Runs K p B s m m' w w' r

abbrev pub Performs : Kind → Prog → RunState → List ℕ → List ℕ → List ℕ → List ℕ → RunState → Type 0
Performs K p s m m' w w' r = PerformsOn Any K p s m m' w w' r

-- the condition of a function that also reads the nodes of the other kind: they are the first j of o
abbrev pub other : Kind → Kind
other set = rel
other rel = set

pub record OtherNodes (K : Kind) (o : List ℕ) (j : ℕ) (B : Store) : Type 0 where
  pub read : nodes (other K) B ≡ rows (arity (other K)) j o
  pub within : j ≤ places (arity (other K)) o

-- what is left of p is q, over each store with Q; over every store
pub record ReducesOn (Q : Condition) (K : Kind) (p q : Prog) (m w : List ℕ) : Type 0 where
  pub left : (B : Store) → Q B → (n : ℕ) → n ≤ places (arity K) m → Safe p (plain K B m n) → Right K B w m n → ReducesTo p q (plain K B m n)

abbrev pub Reduces : Kind → Prog → Prog → List ℕ → List ℕ → Type 0
Reduces K p q m w = ReducesOn Any K p q m w

-- shortcuts and memo know the answer of p, or that node is left on these operands
abbrev pub looked_up : Prog → (ℕ → ℕ → Prog) → Store → Lookup → Type 0
looked_up p node S (Answer h) = run p S ≡ ran S h
looked_up p node S (Operands x y) = ReducesTo p (node x y) S

pub record LooksUpOn (Q : Condition) (K : Kind) (p : Prog) (node : ℕ → ℕ → Prog) (m w : List ℕ) (r : Lookup) : Type 0 where
  pub answers : (B : Store) → Q B → (n : ℕ) → n ≤ places (arity K) m → Safe p (plain K B m n) → Right K B w m n → looked_up p node (plain K B m n) r

abbrev pub LooksUp : Kind → Prog → (ℕ → ℕ → Prog) → List ℕ → List ℕ → Lookup → Type 0
LooksUp K p node m w r = LooksUpOn Any K p node m w r

-- the node y, as `mk` is given it, joined at the place r .h
pub record Joins (K : Kind) (y : List ℕ) (s : RunState) (m m' w w' : List ℕ) (r : RunState) : Type 0 where
  pub joins : (B : Store) (h : ℕ) → Ready K (mk K y) B s m w → h ≡ handle_of K (sign y) r.h
      → Runs K (mk K y) B s m m' w w' (run_state r.ok r.n h)

-- the same for every node y, as `mk` is given it, that is stored as x
pub record JoinsAs (x : List ℕ) (s : RunState) (m m' w w' : List ℕ) (r : RunState) : Type 0 where
  pub small : r.h < most_places
  pub node : (K : Kind) (y : List ℕ) → length x ≡ arity K → x ≡ stored K y → Joins K y s m m' w w' r

-- x are the children of h, where it has a node
pub record ReadsChildren (K : Kind) (m : List ℕ) (h : ℕ) (x : List ℕ) : Type 0 where
  pub kids : (B : Store) (n : ℕ) → n ≤ places (arity K) m → Within K (plain K B m n) h → get K (plain K B m n) h ≡ x

-- r has the properties of h, of level l
pub record KnowsProperties (K : Kind) (m w : List ℕ) (l h : ℕ) (r : Properties) : Type 0 where
  pub knows : (k : ℕ) (B : Store) (n : ℕ) → n ≤ places (arity K) m → WellFormed k (plain K B m n) → Words w (plain K B m n) → Held K (plain K B m n) l h
      → Has K (plain K B m n) l h r

-- what the memo w holds on an operation
pub record Recalls (w : List ℕ) (op l a b : ℕ) (r : Option ℕ) : Type 0 where
  pub recalls : (S : Store) (h : ℕ) → Remembers w S → r ≡ Some h → run (memo_program op l a b) S ≡ ran S h

-- what it holds is the answer, else the operands are left
abbrev pub lookup : Option ℕ → ℕ → ℕ → Lookup
lookup (Some h) a b = Answer h
lookup None a b = Operands a b

pub record LooksIn (w : List ℕ) (op l a b : ℕ) (r : Lookup) : Type 0 where
  pub held : Option ℕ
  pub recalls : Recalls w op l a b held
  pub is : r ≡ lookup held a b

-- the numbers x and y are the entry of an operation's answer h
pub record Says (x y op l a b h : ℕ) : Type 0 where
  pub number : entry_op x y ≡ op
  pub level : entry_level y ≡ l
  pub left : entry_left x ≡ a
  pub right : entry_right x ≡ b
  pub result : entry_result y ≡ h

-- each entry of the memo is the old one or that of the operation's answer; the rest is as it was
pub record KeepsEntry (w w' : List ℕ) (op l a b h : ℕ) : Type 0 where
  pub entries : (j : ℕ) → 2 * j + 1 < memo_size (length w)
      → ((get_or w' (2 * j) 0 ≡ get_or w (2 * j) 0) × (get_or w' (2 * j + 1) 0 ≡ get_or w (2 * j + 1) 0))
      ⊎ Says (get_or w' (2 * j) 0) (get_or w' (2 * j + 1) 0) op l a b h
  pub rest : drop (memo_size (length w)) w' ≡ drop (memo_size (length w)) w
  pub work_length : length w' ≡ length w

-- the memo keeps what the operation gave, where all fitted
pub record Remembered (r : RunState) (op l a b : ℕ) (w w' : List ℕ) : Type 0 where
  pub kept : r.ok ≡ true → KeepsEntry w w' op l a b r.h
  pub work_length : length w' ≡ length w
