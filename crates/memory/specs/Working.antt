-- The working memory: its parts, and when they are right for the nodes of a store.
use Rattle.std.specs.Prelude.{◌≡◌, List, Bool, ℕ, zero, suc, ◌+◌, ◌-◌, ◌*◌, ◌/◌, ◌%◌, ◌<◌, ◌≤◌, min, length, get_or, eqb, ltb}
use Rattle.model.specs.Store.{Kind, set, rel, arity, Store, nodes, pick, handle_of}
use Rattle.model.specs.Programs.{is_empty, is_universal, is_identity, ending, agrees}
use Rattle.model.specs.WellFormed.{Held, WellFormed}
use Rattle.model.specs.Safety.{Settled}
use Rattle.memory.specs.Rows.{row, plain, most_places}
use Rattle.memory.specs.Memo.{memo_program}
use Rattle.memory.specs.declared.Properties.{Properties}

-- PARTS: the memo; the index, a head for each of 4,096 buckets and a link for each place; a property word for each place of relations, then of
-- sets. src/index.rt has these sizes for the code.
abbrev pub part_size : ℕ
part_size = 4096

abbrev pub index_size : ℕ
index_size = 8192

-- how far behind the memo the words of sets begin, and how many numbers all parts behind it have
abbrev pub set_words_from : ℕ
set_words_from = 12288

abbrev pub parts_size : ℕ
parts_size = 16384

-- the length from which on all parts are whole
abbrev pub whole_size : ℕ
whole_size = 20480

-- the memo has what the others leave, by the length of all; at least as many numbers as another part where there are so many
abbrev pub memo_size : ℕ → ℕ
memo_size l = pick (ltb l whole_size) (min part_size l) (l - parts_size)

abbrev pub links_at : ℕ → ℕ
links_at l = memo_size l + part_size

abbrev pub words_at : Kind → ℕ → ℕ
words_at rel l = memo_size l + index_size
words_at set l = memo_size l + set_words_from

-- INDEX: chained buckets. A value is a node's place and one, or 0 for none.
abbrev weighed : ℕ → ℕ → ℕ → ℕ → ℕ
weighed a b c d = a * 668265263 + b * 374761393 + c * 1640531527 + d * 1000000007

-- the bucket of a node: its numbers, 0 where it has fewer than four, in one sum of products, of whose 32 low bits the top twelve are taken
unfoldable pub bucket : List ℕ → ℕ
bucket x = weighed (get_or x 0 0) (get_or x 1 0) (get_or x 2 0) (get_or x 3 0) % 4294967296 / 1048576

-- one more than the last place below n whose node is in bucket b, or 0
unfoldable pub last_in : (ℕ → List ℕ) → ℕ → ℕ → ℕ
last_in node b zero = 0
last_in node b (suc n) = pick (eqb (bucket (node n)) b) (suc n) (last_in node b n)

-- the head of a bucket is its last node; the link of a node is the last before it in its bucket
pub record Chained (node : ℕ → List ℕ) (w : List ℕ) (n : ℕ) : Type 0 where
  pub heads : (b : ℕ) → b < part_size → get_or w (memo_size (length w) + b) 0 ≡ last_in node b n
  pub links : (i : ℕ) → i < n → get_or w (links_at (length w) + i) 0 ≡ last_in node (bucket (node i)) i

-- the index is right, where there is room for one
abbrev pub Indexed : (ℕ → List ℕ) → List ℕ → ℕ → Type 0
Indexed node w n = links_at (length w) + part_size ≤ length w → Chained node w n

-- PROPERTY WORDS: 0 says nothing, any other has a bit for each property, and the level above them
abbrev pub bit_at : ℕ → ℕ → Bool
bit_at b v = eqb (v / b % 2) 1

abbrev pub properties_in : ℕ → Properties
properties_in v = record { empty = bit_at 1 v; universal = bit_at 2 v; identity = bit_at 4 v; level = v / 16 }

-- r has the properties and the level l of h; sets are not asked for the identity
pub record Has (K : Kind) (S : Store) (l h : ℕ) (r : Properties) : Type 0 where
  pub empty : agrees (ending is_empty) K l h S ≡ r.empty
  pub universal : agrees (ending is_universal) K l h S ≡ r.universal
  pub identity : K ≡ rel → agrees (ending is_identity) K l h S ≡ r.identity
  pub level : l ≡ r.level

-- the word v says nothing wrong of h
abbrev pub Known : Kind → Store → ℕ → ℕ → Type 0
Known K S h v = 0 < v → (l : ℕ) → Held K S l h → Has K S l h (properties_in v)

-- no word says anything wrong of its node
abbrev pub Words : List ℕ → Store → Type 0
Words w S = (J : Kind) (i : ℕ) → i < most_places → i < length (nodes J S) → Known J S (handle_of J 0 i) (get_or w (words_at J (length w) + i) 0)

-- MEMO: an entry is two numbers. The first has the operands and the low four bits of the operation's number; the second, on top, the level, then
-- the rest of the operation's number, then the result. A second number of 0 is no entry. Operands and results are below this.
abbrev pub operand_limit : ℕ
operand_limit = 16384

abbrev pub entry_op : ℕ → ℕ → ℕ
entry_op x y = y / operand_limit % 2048 * 16 + x / 268435456

abbrev pub entry_level : ℕ → ℕ
entry_level y = y / 33554432

abbrev pub entry_left : ℕ → ℕ
entry_left x = x / operand_limit % operand_limit

abbrev pub entry_right : ℕ → ℕ
entry_right x = x % operand_limit

abbrev pub entry_result : ℕ → ℕ
entry_result y = y % operand_limit

-- the first number of an operation's entry, and its second without the result
abbrev pub first_number : ℕ → ℕ → ℕ → ℕ
first_number op a b = op % 16 * 268435456 + a * operand_limit + b

abbrev pub key_number : ℕ → ℕ → ℕ
key_number op l = l * 2048 + op / 16

-- an operation may stand in so many entries
abbrev pub window_size : ℕ
window_size = 12

-- an entry's program is settled with its result
unfoldable pub Entry : ℕ → ℕ → Store → Type 0
Entry x y S = 0 < y → Settled (memo_program (entry_op x y) (entry_level y) (entry_left x) (entry_right x)) S (entry_result y)

abbrev pub Remembers : List ℕ → Store → Type 0
Remembers w S = (j : ℕ) → 2 * j + 1 < memo_size (length w) → Entry (get_or w (2 * j) 0) (get_or w (2 * j + 1) 0) S

-- the working memory w is right for the first n nodes of m, of kind K, over the store B
pub record Right (K : Kind) (B : Store) (w m : List ℕ) (n : ℕ) : Type 0 where
  pub fields : ℕ
  pub formed : WellFormed fields (plain K B m n)
  pub memo : Remembers w (plain K B m n)
  pub index : Indexed (row (arity K) m) w n
  pub words : Words w (plain K B m n)
  -- no word is there past a count yet
  pub unset : (J : Kind) (i : ℕ) → length (nodes J (plain K B m n)) ≤ i → i < most_places → get_or w (words_at J (length w) + i) 0 ≡ 0
