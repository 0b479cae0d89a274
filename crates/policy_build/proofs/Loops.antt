-- A loop over the steps of a chain builds a starred item or a rank, from what its body's calls do.
use mathlib.Core.Path.{◌≡◌, refl, sym, ap, ◌∙◌, subst}
use mathlib.Core.List.{List, [], ◌++◌, append_assoc, append-nil}
use mathlib.Core.Bool.{false}
use Prim.Native.Nat.{ℕ, ◌+◌, ◌≤◌}
use native.Mathlib.Omega.{arith}
use lib.ListN.{length, get_or, drop}
use lib.Dec.{eqb}
use borrow.Author.Tests.{eq-eqb, eqb-true}
use Rattle.model.specs.Store.{rel}
use Rattle.model.specs.Programs.{Prog, ◌>>=◌}
use Rattle.model.specs.Relations.{star}
use Rattle.model.specs.Policies.{Policy, policy_program}
use Rattle.model.proofs.Bools.{no_true}
use Rattle.memory.specs.Performing.{RunState, going, ended, Performs}
use Rattle.memory.proofs.Steps.{performs_by}
use Rattle.memory.proofs.Stopping.{made, failed}
use Rattle.policy_text.specs.Lexicon.{Lexicon}
use Rattle.policy_text.specs.Grammar.{Atom, Starred}
use Rattle.policy_text.specs.Posts.{continues_starred, continues_term, continues_part, does_join}
use Rattle.policy_text.specs.declared.Rank.{Rank}
use Rattle.policy_text.proofs.MixSigns.{sign_after}
use Rattle.policy_text.proofs.Moves.{or_false}
use Rattle.std.specs.Prelude.{Option, Some, None}
use Rattle.policy_build.specs.Building.{handle, Part, BuildsPart, Builds, BuildsText, after_atom, after_starred, part_of, ranked, after_part, after_rank}
use Rattle.policy_build.specs.Building.{join_program}
use Rattle.policy_build.specs.declared.Built.{Built}
use Rattle.policy_build.proofs.Chains.{ChainStep, Chain, stop, go, ChainBegun, Starring, Joining, star_joins, rank_joins, join_by}
use Rattle.policy_build.proofs.Chains.{starred_begun, rank_begun, chain_next, chain_end, chain_first}

-- a part of the grammar that is an item and then steps, each after a byte that joins
pub record Looped (G Item : Part) (After Below Joins : ℕ → Type 0) (St : ℕ → ChainStep) : Type 0 where
  pub begun : (d : ℕ) (u : List ℕ) (p : Policy) → G d u p → ChainBegun (Item d) Joins (St d) u p
  pub below : (x : ℕ) → After x → Below x
  pub starts : (x : ℕ) → Joins x → Below x
  pub apart : (x : ℕ) → After x → ¬ Joins x

abbrev pub joined : (ℕ → Policy → Policy → Policy) → Part → ℕ → ChainStep
joined join Item d = Joining join (Item d)

-- a byte that fails a test is not the byte tested for
not_byte : (x b : ℕ) → eqb x b ≡ false → ¬ (x ≡ b)
not_byte x b n e = no_true n (eq-eqb x b e)

pub starred_looped : {X : Lexicon} → Looped (Starred X) (Atom X) after_starred after_atom star_joins (λ d. Starring)
starred_looped = record { begun = λ d u p. starred_begun; below = λ x n. tt; starts = λ x e. tt; apart = λ x n. not_byte x 42 n }

-- no byte that joins the parts of a rank makes a part longer
starts_joined : (r : Rank) (x : ℕ) → rank_joins r x → after_part r x
starts_joined Rank.Product x e = ap continues_starred (eqb-true x 59 e)
starts_joined Rank.Term x e = sign_after x e
starts_joined Rank.Sum x e = ap continues_term (eqb-true x 43 e)

pub rank_looped : (X : Lexicon) (r : Rank) → Looped (ranked X r) (part_of X r) (after_rank r) (after_part r) (rank_joins r) (joined (join_by r) (part_of X r))
rank_looped X r = record {
  begun = λ d u p. rank_begun X d r;
  below = λ x n. (or_false (continues_part r x) (does_join r x) n).0;
  starts = starts_joined r;
  apart = λ x n e. no_true (or_false (continues_part r x) (does_join r x) n).1 e;
}

-- part of the way: the chain's policy so far is built, and its steps to p are ahead
pub record OnWay (Joins : ℕ → Type 0) (St : ChainStep) (k : ℕ) (t : List ℕ) (p : Policy) (rest : List ℕ) (s : RunState) (m m' w w' : List ℕ) (c : ℕ)
    (r : Built) : Type 0 where
  pub so_far : Policy
  pub ahead : List ℕ
  pub chain : Chain Joins St so_far ahead p
  pub text_left : drop r.end t ≡ ahead ++ rest
  pub performs : Performs rel (policy_program k so_far) s m m' w w' (ended c (Some r.handle))

-- what the loop keeps
pub record Looping (G : Part) (After Joins : ℕ → Type 0) (St : ℕ → ChainStep) (k : ℕ) (t : List ℕ) (at : ℕ) (s : RunState) (m m' w w' : List ℕ) (c : ℕ)
    (r : Built) : Type 0 where
  pub from : at ≤ r.end
  pub within : r.end ≤ length t
  pub way : (d : ℕ) (u : List ℕ) (p : Policy) (rest : List ℕ) → G d u p → drop at t ≡ u ++ rest → After (get_or rest 0 0)
      → OnWay Joins (St d) k t p rest s m m' w w' c r

-- a step goes on from the program of the policy before it; so what has no place for that one has none for those that a chain makes of it
pub record GoesOn (k : ℕ) (q q' : Policy) : Type 0 where
  pub next : ℕ → Prog
  pub program : policy_program k q' ≡ (policy_program k q >>= next)

abbrev pub AllGoOn : ℕ → ChainStep → Type 0
AllGoOn k St = (b : ℕ) (q : Policy) (u : List ℕ) (q' : Policy) → St b q u q' → GoesOn k q q'

chain_stopped : {Joins : ℕ → Type 0} {St : ChainStep} {k : ℕ} (c : ℕ) → AllGoOn k St → {s : RunState} {m m' w w' : List ℕ} {q p : Policy} {v : List ℕ}
    → Chain Joins St q v p → Performs rel (policy_program k q) s m m' w w' (ended c None) → Performs rel (policy_program k p) s m m' w w' (ended c None)
chain_stopped c A stop d = d
chain_stopped c A (go j i a) d = chain_stopped c A a (performs_by (A _ _ _ _ i).program (failed d refl))

module _ {G Item : Part} {After Below Joins : ℕ → Type 0} {St : ℕ → ChainStep} (L : Looped G Item After Below Joins St) {k c : ℕ} {t : List ℕ} {at : ℕ}
    {s : RunState} {m m' w w' : List ℕ} where
  first_built : {r : Option Built} → Builds Item Below k t at s m m' w w' c r → (d : ℕ) (u : List ℕ) (p : Policy) (rest : List ℕ) (g : G d u p)
      → drop at t ≡ u ++ rest → After (get_or rest 0 0) → let a = L.begun d u p g in BuildsPart k t a.begin (a.steps ++ rest) s m m' w w' c r
  first_built B d u p rest g h n = let a = L.begun d u p g in
      B.part d a.first a.begin (a.steps ++ rest) a.item (h ∙ ap (λ x. x ++ rest) a.whole ∙ append_assoc a.first a.steps rest)
      (chain_first Below rest a.chain L.starts (L.below _ n))

  pub loop_starts : {r : Built} → Builds Item Below k t at s m m' w w' c (Some r) → Looping G After Joins St k t at s m m' w w' c r
  loop_starts B = record {
    from = B.from;
    within = B.within;
    way = λ d u p rest g h n. let a = L.begun d u p g in let i = first_built B d u p rest g h n in
        record { so_far = a.begin; ahead = a.steps; chain = a.chain; text_left = i.text_left; performs = i.performs };
  }

  pub loop_ends : {r : Built} → Looping G After Joins St k t at s m m' w w' c r → ¬ Joins (get_or t r.end 0)
      → Builds G After k t at s m m' w w' c (Some r)
  loop_ends {r} B f = record {
    from = B.from;
    within = B.within;
    part = λ d u p rest g h n. let o = B.way d u p rest g h n in let e = chain_end t r.end o.chain o.text_left f in
        record { text_left = e.1; performs = subst (λ q. Performs rel (policy_program k q) s m m' w w' (ended c (Some r.handle))) e.0 o.performs };
  }

  -- there was no place for the first item
  pub none_starts : ((d : ℕ) → AllGoOn k (St d)) → Builds Item Below k t at s m m' w w' c None → Builds G After k t at s m m' w w' c None
  none_starts A B = record {
    from = tt;
    within = tt;
    part = λ d u p rest g h n.
        record { text_left = tt; performs = chain_stopped c (A d) (L.begun d u p g).chain (first_built B d u p rest g h n).performs };
  }

-- how a rank joins two policies, and the operation that does it
pub record Joiner (join : ℕ → Policy → Policy → Policy) (op : ℕ → ℕ → ℕ → ℕ → Prog) : Type 0 where
  pub program : (k b : ℕ) (x y : Policy) → policy_program k (join b x y) ≡ (policy_program k x >>= λ p. policy_program k y >>= λ q. op b k p q)

pub joining : {join : ℕ → Policy → Policy → Policy} {op : ℕ → ℕ → ℕ → ℕ → Prog} (Item : Part) {k : ℕ} → Joiner join op → (d : ℕ)
    → AllGoOn k (joined join Item d)
joining Item {k} J d b q u q' i = record { next = _; program = ap (policy_program k) i.2 ∙ J.program k b q i.0 }

-- a turn finds an item ahead, which was built or had no place; with what its join with p then does, the policy that they make is built
record Turn (Joins : ℕ → Type 0) (St : ChainStep) (k : ℕ) (t : List ℕ) (x : Policy) (rest : List ℕ) (op : ℕ → Prog) (s : RunState) (m w : List ℕ)
    (c₁ : ℕ) (m₁ m₂ w₁ w₂ : List ℕ) (c₂ : ℕ) (q : Option Built) : Type 0 where
  pub item : Policy
  pub to : Policy
  pub ahead : List ℕ
  pub chain : Chain Joins St to ahead x
  pub built : BuildsPart k t item (ahead ++ rest) (going c₁) m₁ m₂ w₁ w₂ c₂ q
  pub joins : {m₃ w₃ : List ℕ} {z : RunState} → Performs rel (policy_program k item >>= op) (going c₁) m₁ m₃ w₁ w₃ z
      → Performs rel (policy_program k to) s m m₃ w w₃ z

module _ {G Item : Part} {After Below Joins : ℕ → Type 0} {join : ℕ → Policy → Policy → Policy} (L : Looped G Item After Below Joins (joined join Item))
    {op : ℕ → ℕ → ℕ → ℕ → Prog} (J : Joiner join op) {k : ℕ} {t : List ℕ} {at c₁ c₂ : ℕ} {s : RunState} {m m₁ m₂ w w₁ w₂ : List ℕ} {p : Built}
    (f : Joins (get_or t p.end 0)) (B : Looping G After Joins (joined join Item) k t at s m m₁ w w₁ c₁ p) where
  turn : {q : Option Built} → Builds Item Below k t (p.end + 1) (going c₁) m₁ m₂ w₁ w₂ c₂ q → (d : ℕ) (u : List ℕ) (x : Policy) (rest : List ℕ) → G d u x
      → drop at t ≡ u ++ rest → After (get_or rest 0 0)
      → Turn Joins (joined join Item d) k t x rest (op (get_or t p.end 0) k p.handle) s m w c₁ m₁ m₂ w₁ w₂ c₂ q
  turn I d u x rest g h n =
      let o = B.way d u x rest g h n in
      let a = chain_next t p.end o.chain o.text_left (L.apart _ n) f in
      record {
        item = a.by.0;
        to = a.to;
        ahead = a.steps;
        chain = a.chain;
        built = I.part d a.step a.by.0 (a.steps ++ rest) a.by.1 a.text_left (chain_first Below rest a.chain L.starts (L.below _ n));
        joins = λ P. performs_by (ap (policy_program k) a.by.2 ∙ J.program k (get_or t p.end 0) o.so_far a.by.0) (made o.performs P);
      }

  module _ {q : Built} (I : Builds Item Below k t (p.end + 1) (going c₁) m₁ m₂ w₁ w₂ c₂ (Some q)) {m₃ w₃ : List ℕ} {c₃ : ℕ} where
    pub joins_on : {h : ℕ} → Performs rel (op (get_or t p.end 0) k p.handle q.handle) (going c₂) m₂ m₃ w₂ w₃ (ended c₃ (Some h))
        → Looping G After Joins (joined join Item) k t at s m m₃ w w₃ c₃ (record { handle = h; end = q.end })
    joins_on P = record {
      from = omega (arith, B.from, I.from);
      within = I.within;
      way = λ d u x rest g h n. let y = turn I d u x rest g h n in record {
        so_far = y.to;
        ahead = y.ahead;
        chain = y.chain;
        text_left = y.built.text_left;
        performs = y.joins (made y.built.performs P);
      };
    }

    -- there was no place for their join
    pub none_joins : Performs rel (op (get_or t p.end 0) k p.handle q.handle) (going c₂) m₂ m₃ w₂ w₃ (ended c₃ None)
        → Builds G After k t at s m m₃ w w₃ c₃ None
    none_joins P = record {
      from = tt;
      within = tt;
      part = λ d u x rest g h n. let y = turn I d u x rest g h n in
          record { text_left = tt; performs = chain_stopped c₃ (joining Item J d) y.chain (y.joins (made y.built.performs P)) };
    }

  -- there was no place for the item
  pub none_next : Builds Item Below k t (p.end + 1) (going c₁) m₁ m₂ w₁ w₂ c₂ None → Builds G After k t at s m m₂ w w₂ c₂ None
  none_next I = record {
    from = tt;
    within = tt;
    part = λ d u x rest g h n. let y = turn I d u x rest g h n in
        record { text_left = tt; performs = chain_stopped c₂ (joining Item J d) y.chain (y.joins (failed y.built.performs refl)) };
  }

-- a star's turn
pub starring : {k : ℕ} → AllGoOn k Starring
unfolding policy_program
starring {k} b q u q' i = record { next = star k; program = ap (policy_program k) i.1 }

record StarTurn (k : ℕ) (t : List ℕ) (e : ℕ) (x : Policy) (rest : List ℕ) (s : RunState) (m w : List ℕ) (h : ℕ) (c₁ : ℕ) (m₁ w₁ : List ℕ) : Type 0 where
  pub to : Policy
  pub ahead : List ℕ
  pub chain : Chain star_joins Starring to ahead x
  pub text_left : drop (e + 1) t ≡ ahead ++ rest
  pub stars : {m₂ w₂ : List ℕ} {z : RunState} → Performs rel (star k h) (going c₁) m₁ m₂ w₁ w₂ z → Performs rel (policy_program k to) s m m₂ w w₂ z

module _ {X : Lexicon} {k : ℕ} {t : List ℕ} {at c₁ : ℕ} {s : RunState} {m m₁ w w₁ : List ℕ} {p : Built} (f : get_or t p.end 0 ≡ 42)
    (B : Looping (Starred X) after_starred star_joins (λ d. Starring) k t at s m m₁ w w₁ c₁ p) where
  star_turn : (d : ℕ) (u : List ℕ) (x : Policy) (rest : List ℕ) → Starred X d u x → drop at t ≡ u ++ rest → after_starred (get_or rest 0 0)
      → StarTurn k t p.end x rest s m w p.handle c₁ m₁ w₁
  unfolding policy_program
  star_turn d u x rest g h n =
      let o = B.way d u x rest g h n in
      let a = chain_next t p.end o.chain o.text_left (not_byte _ 42 n) f in
      record {
        to = a.to;
        ahead = a.steps;
        chain = a.chain;
        text_left = a.text_left ∙ ap (λ v. v ++ (a.steps ++ rest)) a.by.0;
        stars = λ P. performs_by (ap (policy_program k) a.by.1) (made o.performs P);
      }

  pub stars_on : {h c₂ : ℕ} {m₂ w₂ : List ℕ} → p.end + 1 ≤ length t → Performs rel (star k p.handle) (going c₁) m₁ m₂ w₁ w₂ (ended c₂ (Some h))
      → Looping (Starred X) after_starred star_joins (λ d. Starring) k t at s m m₂ w w₂ c₂ (record { handle = h; end = p.end + 1 })
  stars_on l P = record {
    from = omega (arith, B.from);
    within = l;
    way = λ d u x rest g h n. let y = star_turn d u x rest g h n in
        record { so_far = y.to; ahead = y.ahead; chain = y.chain; text_left = y.text_left; performs = y.stars P };
  }

  -- there was no place for it
  pub none_stars : {c₂ : ℕ} {m₂ w₂ : List ℕ} → Performs rel (star k p.handle) (going c₁) m₁ m₂ w₁ w₂ (ended c₂ None)
      → Builds (Starred X) after_starred k t at s m m₂ w w₂ c₂ None
  none_stars {c₂} P = record {
    from = tt;
    within = tt;
    part = λ d u x rest g h n. let y = star_turn d u x rest g h n in
        record { text_left = tt; performs = chain_stopped c₂ starring y.chain (y.stars P) };
  }

-- the programs of the ranks
pub rank_joiner : (r : Rank) → Joiner (join_by r) (join_program r)
unfolding policy_program
rank_joiner Rank.Product = record { program = λ k b x y. refl }
rank_joiner Rank.Term = record { program = λ k b x y. refl }
rank_joiner Rank.Sum = record { program = λ k b x y. refl }

-- a sign that was read is the byte of the text
pub sign_at : {b c : ℕ} (r : Rank) (k p q : ℕ) → b ≡ c → join_program r b k p q ≡ join_program r c k p q
sign_at r k p q e = ap (λ b. join_program r b k p q) e

-- a text that is a sum, to its end; h is the handle as the code knows it
pub text_builds : {X : Lexicon} {k c : ℕ} {t : List ℕ} {s : RunState} {m m' w w' : List ℕ} {r : Option Built} {h : Option ℕ} → handle r ≡ h
    → Builds (ranked X Rank.Sum) (after_rank Rank.Sum) k t 0 s m m' w w' c r → BuildsText X k t s m m' w w' (ended c h)
text_builds {k = k} {c} {t} {s} {m} {m'} {w} {w'} e B = record {
  builds = λ d p S. subst (λ h. Performs rel (policy_program k p) s m m' w w' (ended c h)) e (B.part d t p [] S (sym (append-nil t)) refl).performs;
}
