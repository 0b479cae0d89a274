-- Starred items and the ranks as a loop reads them: a first item, then steps from the left, each after a byte that joins it.
use mathlib.Core.Path.{◌≡◌, refl, sym, ap, ◌∙◌, subst}
use mathlib.Core.List.{List, [], ◌∷◌, ◌++◌, append_assoc, append-nil}
use mathlib.Core.Bool.{true}
use Prim.Native.Nat.{ℕ, ◌+◌}
use lib.ListN.{get_or, drop}
use Rattle.model.specs.Policies.{Policy, plus, mixes, seq, stars}
use Rattle.policy_text.specs.Lexicon.{Lexicon}
use Rattle.policy_text.specs.Grammar.{Atom, Starred, Product, Term, Sum, s_atom, s_star, p_one, p_seq, t_one, t_mix, u_one, u_plus}
use Rattle.policy_text.specs.Machine.{mix_of}
use Rattle.policy_text.specs.Posts.{does_join}
use Rattle.policy_text.specs.declared.Rank.{Rank}
use Rattle.policy_text.proofs.MixSigns.{sign_is}
use Rattle.policy_build.specs.Building.{part_of, ranked}
use Rattle.policy_build.proofs.Suffixes.{first_of, next}

-- how a byte and then u make one policy of another
abbrev pub ChainStep : Type 1
ChainStep = ℕ → Policy → List ℕ → Policy → Type 0

-- from one policy to another by steps, each begun by a byte that joins
pub data Chain (Joins : ℕ → Type 0) (St : ChainStep) : Policy → List ℕ → Policy → Type 0 where
  stop : {p : Policy} → Chain Joins St p [] p
  go : {b : ℕ} {q q' p : Policy} {u v : List ℕ} → Joins b → St b q u q' → Chain Joins St q' v p → Chain Joins St q (b ∷ (u ++ v)) p

-- one step more at the end
further : {Joins : ℕ → Type 0} {St : ChainStep} {b : ℕ} {q p p' : Policy} {v u : List ℕ} → Chain Joins St q v p → Joins b → St b p u p'
    → Chain Joins St q (v ++ (b ∷ u)) p'
further {Joins = J} {St = St} {b = b} {q = q} {p' = p'} {u = u} stop j s = subst (λ x. Chain J St q (b ∷ x) p') (append-nil u) (go j s stop)
further {Joins = J} {St = St} {b = b} {q = q} {p' = p'} {u = y} (go {b = a} {u = u} {v} i s c) j s' =
    subst (λ x. Chain J St q (a ∷ x) p') (sym (append_assoc u v (b ∷ y))) (go i s (further c j s'))

-- a first item and a chain from it
pub record ChainBegun (Item : List ℕ → Policy → Type 0) (Joins : ℕ → Type 0) (St : ChainStep) (u : List ℕ) (p : Policy) : Type 0 where
  pub first : List ℕ
  pub begin : Policy
  pub item : Item first begin
  pub steps : List ℕ
  pub chain : Chain Joins St begin steps p
  pub whole : u ≡ first ++ steps

module _ {Item : List ℕ → Policy → Type 0} {Joins : ℕ → Type 0} {St : ChainStep} where
  single : {u : List ℕ} {p : Policy} → Item u p → ChainBegun Item Joins St u p
  single {u} {p} i = record { first = u; begin = p; item = i; steps = []; chain = stop; whole = sym (append-nil u) }

  longer : {b : ℕ} {u v : List ℕ} {p p' : Policy} → ChainBegun Item Joins St u p → Joins b → St b p v p' → ChainBegun Item Joins St (u ++ (b ∷ v)) p'
  longer {b = b} {v = v} a j s = record {
    first = a.first;
    begin = a.begin;
    item = a.item;
    steps = a.steps ++ (b ∷ v);
    chain = further a.chain j s;
    whole = ap (λ x. x ++ (b ∷ v)) a.whole ∙ append_assoc a.first a.steps (b ∷ v);
  }

-- the bytes that join: stars to an item, the parts of a rank
abbrev pub star_joins : ℕ → Type 0
star_joins b = b ≡ 42

abbrev pub rank_joins : Rank → ℕ → Type 0
rank_joins r b = does_join r b ≡ true

-- the steps: a star; a part of the rank, joined as the byte says
abbrev pub Starring : ChainStep
Starring b q u p = (u ≡ []) × (p ≡ stars q)

abbrev pub Joining : (ℕ → Policy → Policy → Policy) → (List ℕ → Policy → Type 0) → ChainStep
Joining join Item b q u p = (r : Policy) × Item u r × (p ≡ join b q r)

abbrev pub join_by : Rank → ℕ → Policy → Policy → Policy
join_by Rank.Product b = seq
join_by Rank.Term b = mixes (mix_of b)
join_by Rank.Sum b = plus

pub starred_begun : {X : Lexicon} {d : ℕ} {u : List ℕ} {p : Policy} → Starred X d u p → ChainBegun (Atom X d) star_joins Starring u p
starred_begun (s_atom x) = single x
starred_begun (s_star x) = longer (starred_begun x) refl (refl, refl)

-- a part of a rank, and a chain of its parts from it
abbrev pub RankBegun : Lexicon → ℕ → Rank → List ℕ → Policy → Type 0
RankBegun X d r = ChainBegun (part_of X r d) (rank_joins r) (Joining (join_by r) (part_of X r d))

product_begun : {X : Lexicon} {d : ℕ} {u : List ℕ} {p : Policy} → Product X d u p → RankBegun X d Rank.Product u p
product_begun (p_one x) = single x
product_begun (p_seq x y) = longer (product_begun x) refl (_, y, refl)

term_begun : {X : Lexicon} {d : ℕ} {u : List ℕ} {p : Policy} → Term X d u p → RankBegun X d Rank.Term u p
term_begun (t_one x) = single x
term_begun (t_mix {p = p} {q = q} g x y) = let j = sign_is g in longer (term_begun x) j.0 (_, y, ap (λ m. mixes m p q) j.1)

sum_begun : {X : Lexicon} {d : ℕ} {u : List ℕ} {p : Policy} → Sum X d u p → RankBegun X d Rank.Sum u p
sum_begun (u_one x) = single x
sum_begun (u_plus x y) = longer (sum_begun x) refl (_, y, refl)

pub rank_begun : (X : Lexicon) (d : ℕ) (r : Rank) {u : List ℕ} {p : Policy} → ranked X r d u p → RankBegun X d r u p
rank_begun X d Rank.Product g = product_begun g
rank_begun X d Rank.Term g = term_begun g
rank_begun X d Rank.Sum g = sum_begun g

-- WHAT STANDS AHEAD of a chain in the text: its next step, or the rest
pub record Next (Joins : ℕ → Type 0) (St : ChainStep) (t : List ℕ) (e : ℕ) (q p : Policy) (rest : List ℕ) : Type 0 where
  pub step : List ℕ
  pub to : Policy
  pub steps : List ℕ
  pub by : St (get_or t e 0) q step to
  pub chain : Chain Joins St to steps p
  pub text_left : drop (e + 1) t ≡ step ++ (steps ++ rest)

module _ {Joins : ℕ → Type 0} {St : ChainStep} (t : List ℕ) (e : ℕ) {rest : List ℕ} where
  pub chain_next : {q p : Policy} {v : List ℕ} → Chain Joins St q v p → drop e t ≡ v ++ rest → ¬ Joins (get_or rest 0 0) → Joins (get_or t e 0)
      → Next Joins St t e q p rest
  chain_next stop h n f = absurd (n (subst Joins (first_of t e h) f))
  chain_next {q = q} (go {q' = q'} {u = u} {v} j s c) h n f = record {
    step = u;
    to = q';
    steps = v;
    by = subst (λ b. St b q u q') (sym (first_of t e h)) s;
    chain = c;
    text_left = next t e h ∙ append_assoc u v rest;
  }

  pub chain_end : {q p : Policy} {v : List ℕ} → Chain Joins St q v p → drop e t ≡ v ++ rest → ¬ Joins (get_or t e 0) → (q ≡ p) × (drop e t ≡ rest)
  chain_end stop h n = (refl, h)
  chain_end (go j s c) h n = absurd (n (subst Joins (sym (first_of t e h)) j))

-- what a chain begins with, or the rest after it
pub chain_first : {Joins : ℕ → Type 0} {St : ChainStep} (P : ℕ → Type 0) (rest : List ℕ) {q p : Policy} {v : List ℕ} → Chain Joins St q v p
    → ((b : ℕ) → Joins b → P b) → P (get_or rest 0 0) → P (get_or (v ++ rest) 0 0)
chain_first P rest stop x y = y
chain_first P rest (go j s c) x y = x _ j
