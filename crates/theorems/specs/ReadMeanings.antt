-- What the answer of a call that adds nothing says of its operands in the store S: document 01, "The operations", `get` and `relates`; 02, M-100 and M-103.
use Rattle.std.specs.Prelude.{◌≡◌, List, ◌∷◌, ◌⊎◌, ◌↔◌, true, ℕ, suc, ◌^◌, ◌<◌, Result, Ok, Err}
use Rattle.model.specs.Store.{set, rel, Store}
use Rattle.model.specs.Packets.{Packet, packet, contains, relates}
use Rattle.model.specs.WellFormed.{level_of}
use Rattle.model.specs.FieldOrder.{is_before}
use Rattle.model.specs.Meaning.{Sem, Rel, Den, Relates as Pairs, Some}
use Rattle.model.specs.FirstPair.{Through, First, FirstPair}
use Rattle.call_rules.specs.declared.Answer.{Answer}
use Rattle.call_rules.specs.declared.Refusal.{Refusal}
use Rattle.call_rules.specs.declared.Answer.TheVariants.{Handle, Truth, SetNode, RelationNode, Pair, Nothing, Member}
use Rattle.store.specs.declared.path_reads.PathRead.{PathRead}
use Rattle.store.specs.declared.path_reads.PathRead.TheVariants.{HasImage, HasPath, FirstPath}
use Rattle.store.specs.declared.relation_reads.RelationRead.{RelationRead}
use Rattle.store.specs.declared.relation_reads.RelationRead.TheVariants as R
use Rattle.store.specs.declared.set_reads.Cursor.{Cursor}
use Rattle.store.specs.declared.set_reads.SetRead.{SetRead}
use Rattle.store.specs.declared.set_reads.SetRead.TheVariants.{Get, Complement, IsZero, Intersects, Next}

-- ANSWERS OF ONE SHAPE, with what they say; a refusal says nothing here, and no other shape is given.
-- a handle with P
abbrev pub a_handle : (ℕ → Type 0) → Result Answer Refusal → Type 0
a_handle P (Ok (Handle h)) = P h
a_handle P (Ok (Truth b)) = ⊥
a_handle P (Ok (SetNode x0 x1)) = ⊥
a_handle P (Ok (RelationNode x00 x01 x10 x11)) = ⊥
a_handle P (Err r) = Unit {0}
a_handle P (Ok (Pair x y)) = ⊥
a_handle P (Ok Nothing) = ⊥
a_handle P (Ok (Member x)) = ⊥

-- yes exactly where X is so
abbrev pub yes_where : Type 0 → Result Answer Refusal → Type 0
yes_where X (Ok (Handle h)) = ⊥
yes_where X (Ok (Truth b)) = (b ≡ true) ↔ X
yes_where X (Ok (SetNode x0 x1)) = ⊥
yes_where X (Ok (RelationNode x00 x01 x10 x11)) = ⊥
yes_where X (Err r) = Unit {0}
yes_where X (Ok (Pair x y)) = ⊥
yes_where X (Ok Nothing) = ⊥
yes_where X (Ok (Member x)) = ⊥

-- the two children of a set, the four of a relation, with P
abbrev pub two_children : (ℕ → ℕ → Type 0) → Result Answer Refusal → Type 0
two_children P (Ok (Handle h)) = ⊥
two_children P (Ok (Truth b)) = ⊥
two_children P (Ok (SetNode x0 x1)) = P x0 x1
two_children P (Ok (RelationNode x00 x01 x10 x11)) = ⊥
two_children P (Err r) = Unit {0}
two_children P (Ok (Pair x y)) = ⊥
two_children P (Ok Nothing) = ⊥
two_children P (Ok (Member x)) = ⊥

abbrev pub four_children : (ℕ → ℕ → ℕ → ℕ → Type 0) → Result Answer Refusal → Type 0
four_children P (Ok (Handle h)) = ⊥
four_children P (Ok (Truth b)) = ⊥
four_children P (Ok (SetNode x0 x1)) = ⊥
four_children P (Ok (RelationNode x00 x01 x10 x11)) = P x00 x01 x10 x11
four_children P (Err r) = Unit {0}
four_children P (Ok (Pair x y)) = ⊥
four_children P (Ok Nothing) = ⊥
four_children P (Ok (Member x)) = ⊥

-- the first pair in R, by the numbers of its packets of l fields; or none, where R has no pair
abbrev pub the_first_pair : ℕ → Rel → Result Answer Refusal → Type 0
the_first_pair l R (Ok (Handle h)) = ⊥
the_first_pair l R (Ok (Truth b)) = ⊥
the_first_pair l R (Ok (SetNode x0 x1)) = ⊥
the_first_pair l R (Ok (RelationNode x00 x01 x10 x11)) = ⊥
the_first_pair l R (Err r) = Unit {0}
the_first_pair l R (Ok (Pair x y)) = (x < 2 ^ l) × (y < 2 ^ l) × FirstPair l R (packet l x) (packet l y)
the_first_pair l R (Ok Nothing) = ¬ Some l (λ x. Some l (λ y. R x y))
the_first_pair l R (Ok (Member x)) = ⊥

-- the first packet in P, by its number as one of l fields; or none, where P has no packet
abbrev pub the_first : ℕ → Sem → Result Answer Refusal → Type 0
the_first l P (Ok (Handle h)) = ⊥
the_first l P (Ok (Truth b)) = ⊥
the_first l P (Ok (SetNode x0 x1)) = ⊥
the_first l P (Ok (RelationNode x00 x01 x10 x11)) = ⊥
the_first l P (Err r) = Unit {0}
the_first l P (Ok (Pair x y)) = ⊥
the_first l P (Ok Nothing) = ¬ Some l P
the_first l P (Ok (Member x)) = (x < 2 ^ l) × First l P (packet l x)

-- what is still to come of the set that the record c names: its members after the last one, where one was given, and none where the end was met
abbrev pub ToCome : Store → ℕ → Cursor → Sem
ToCome S l c p = (c.ended ≡ 0) × contains S c.handle p × ((c.given ≡ 0) ⊎ (is_before (packet l c.last) p ≡ true))

-- CHILDREN of the handle a of level l: each is held one level below, and has what a has on packets that begin with its bits
pub record SetChildren (S : Store) (l a x0 x1 : ℕ) : Type 0 where
  pub below : ℕ
  pub level : l ≡ suc below
  pub on_0 : Den set below (λ p. contains S a (0 ∷ p)) S x0
  pub on_1 : Den set below (λ p. contains S a (1 ∷ p)) S x1

pub record RelationChildren (S : Store) (l a x00 x01 x10 x11 : ℕ) : Type 0 where
  pub below : ℕ
  pub level : l ≡ suc below
  pub on_00 : Pairs below (λ p q. relates S a (0 ∷ p) (0 ∷ q)) S x00
  pub on_01 : Pairs below (λ p q. relates S a (0 ∷ p) (1 ∷ q)) S x01
  pub on_10 : Pairs below (λ p q. relates S a (1 ∷ p) (0 ∷ q)) S x10
  pub on_11 : Pairs below (λ p q. relates S a (1 ∷ p) (1 ∷ q)) S x11

-- the answer of a call on sets, in a store of k fields
unfoldable pub set_read_meaning : ℕ → SetRead → Store → Result Answer Refusal → Type 0
set_read_meaning k (Get a) S = two_children (SetChildren S (level_of k set S a) a)
set_read_meaning k (Complement a) S = a_handle (Den set (level_of k set S a) (λ p. ¬ contains S a p) S)
set_read_meaning k (IsZero a) S = yes_where ((p : List ℕ) → Packet (level_of k set S a) p → ¬ contains S a p)
set_read_meaning k (Intersects a b) S = yes_where (Some (level_of k set S a) (λ p. contains S a p × contains S b p))
set_read_meaning k (Next c) S = (let l = level_of k set S c.handle in the_first l (ToCome S l c))

-- the answer of a call on relations, in a store of k fields
unfoldable pub relation_read_meaning : ℕ → RelationRead → Store → Result Answer Refusal → Type 0
relation_read_meaning k (R.Get a) S = four_children (RelationChildren S (level_of k rel S a) a)
relation_read_meaning k (R.IsZero a) S =
    yes_where ((p q : List ℕ) → Packet (level_of k rel S a) p → Packet (level_of k rel S a) q → ¬ relates S a p q)
relation_read_meaning k (R.Relates a p q) S = yes_where (relates S a (packet (level_of k rel S a) p) (packet (level_of k rel S a) q))

-- whether a relation leads from a packet of a set, and to one of another; and the first pair that it leads from and to
unfoldable pub path_meaning : ℕ → PathRead → Store → Result Answer Refusal → Type 0
path_meaning k (HasImage p a) S = (let l = level_of k rel S a in yes_where (Some l (λ x. Some l (λ y. contains S p x × relates S a x y))))
path_meaning k (HasPath p a q) S =
    (let l = level_of k rel S a in yes_where (Some l (λ x. Some l (λ y. contains S p x × relates S a x y × contains S q y))))
path_meaning k (FirstPath p a q) S = the_first_pair (level_of k rel S a) (Through S p a q)
