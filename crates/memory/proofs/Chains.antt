-- Laws of the index: what is last in a bucket, a search along a chain, and a node that joins.
use Rattle.std.specs.Prelude.{Option, Some, None, MatchOption}
use Rattle.std.proofs.lemmas.Option.{none-some}
use mathlib.Core.Path.{subst, ◌≡◌, refl, sym, ap, ◌∙◌}
use mathlib.Core.Bool.{Bool, true}
use mathlib.Core.List.{List}
use Prim.Native.Nat.{ℕ, zero, suc, ◌+◌, ◌-◌, ◌*◌, ◌<◌, ◌≤◌, zero-le}
use native.Mathlib.Nat.{le_refl}
use native.Mathlib.Numerals.{add-one}
use native.Mathlib.Decide.{ℕ_discrete, dec_lt}
use native.Mathlib.Omega.{arith}
use lib.ListN.{length, get_or, set, take, length-set}
use lib.Seq.{get_or-set_same, get_or-set_other, take-set-le, drop-set-lt}
use borrow.Author.Tests.{eq-eqb, ne_eqb}
use Rattle.memory.specs.Rows.{row, most_places}
use Rattle.memory.specs.Working.{memo_size, bucket, last_in, Chained, Indexed, index_size, part_size}
use Rattle.memory.specs.Finding.{Finds, Entered}
use Rattle.memory.proofs.Rows.{row_agree}

module _ (node : ℕ → List ℕ) (b : ℕ) where
  pub last_hit : (n : ℕ) → bucket (node n) ≡ b → last_in node b (suc n) ≡ suc n
  unfolding last_in
  last_hit n e = rw (eq-eqb (bucket (node n)) b e)

  pub last_miss : (n : ℕ) → (bucket (node n) ≡ b → ⊥) → last_in node b (suc n) ≡ last_in node b n
  unfolding last_in
  last_miss n e = rw (ne_eqb (bucket (node n)) b e)

  pub last_le : (n : ℕ) → last_in node b n ≤ n
  unfolding last_in
  last_le zero = zero-le
  last_le (suc n) = step (last_le n) (ℕ_discrete (bucket (node n)) b)
    where
      step : last_in node b n ≤ n → Dec (bucket (node n) ≡ b) → last_in node b (suc n) ≤ suc n
      step h (yes e) = rw (last_hit n e) (le_refl _)
      step h (no e) = rw (last_miss n e) (omega arith)

  -- what it names is in the bucket
  pub last_mine : (n j : ℕ) → last_in node b n ≡ suc j → bucket (node j) ≡ b
  unfolding last_in
  last_mine zero j e = absurd (omega arith)
  last_mine (suc n) j e = step (last_mine n j) (ℕ_discrete (bucket (node n)) b)
    where
      step : (last_in node b n ≡ suc j → bucket (node j) ≡ b) → Dec (bucket (node n) ≡ b) → bucket (node j) ≡ b
      step h (yes k) = let s : n ≡ j = omega (arith, last_hit n k) in ap (λ (i : ℕ). bucket (node i)) (sym s) ∙ k
      step h (no k) = h (sym (last_miss n k) ∙ e)

  -- nothing from there on is
  pub last_none : (n k : ℕ) → last_in node b n ≤ k → k < n → bucket (node k) ≡ b → ⊥
  unfolding last_in
  last_none zero k l h e = omega arith
  last_none (suc n) k l h e = step (last_none n k) (ℕ_discrete (bucket (node n)) b) (ℕ_discrete k n)
    where
      step : (last_in node b n ≤ k → k < n → bucket (node k) ≡ b → ⊥) → Dec (bucket (node n) ≡ b) → Dec (k ≡ n) → ⊥
      step r (yes d) s = omega (arith, last_hit n d)
      step r (no d) (yes s) = d (ap (λ (i : ℕ). bucket (node i)) (sym s) ∙ e)
      step r (no d) (no s) = r (omega (arith, last_miss n d)) (omega arith) e

  -- what is last goes by the nodes below n alone
  pub last_agree : (node' : ℕ → List ℕ) (n : ℕ) → ((j : ℕ) → j < n → node j ≡ node' j) → last_in node b n ≡ last_in node' b n
  unfolding last_in
  last_agree node' zero h = refl
  last_agree node' (suc n) h = rw (h n (le_refl _), last_agree node' n (λ j l. h j (omega arith)))

-- so does the index
pub chained_agree : (node node' : ℕ → List ℕ) (w : List ℕ) (n : ℕ) → ((j : ℕ) → j < n → node j ≡ node' j)
    → Chained node w n → Chained node' w n
chained_agree node node' w n a h =
    record {
      heads = λ b bl. h.heads b bl ∙ last_agree node b node' n a;
      links =
          λ i il.
          h.links i il ∙ ap (λ (v : List ℕ). last_in node (bucket v) i) (a i il)
          ∙ last_agree node (bucket (node' i)) node' i (λ j jl. a j (omega arith));
    }

pub indexed_agree : (c n : ℕ) (m m' w : List ℕ) → take (c * n) m ≡ take (c * n) m' → Indexed (row c m) w n → Indexed (row c m') w n
indexed_agree c n m m' w e h l = chained_agree (row c m) (row c m') w n (row_agree c n m' m e) (h l)

-- a search along the chain of x's bucket, at the value v
pub record Along (node : ℕ → List ℕ) (n : ℕ) (x : List ℕ) (v : ℕ) : Type 0 where
  pub low : v ≤ n
  pub mine : 0 < v → bucket (node (v - 1)) ≡ bucket x
  pub none : (k : ℕ) → v ≤ k → k < n → node k ≡ x → ⊥

-- the search is right wherever the index is
pub record Trail (node : ℕ → List ℕ) (w : List ℕ) (at n : ℕ) (x : List ℕ) (v : ℕ) : Type 0 where
  pub along : at ≡ memo_size (length w) → Chained node w n → Along node n x v

module _ (node : ℕ → List ℕ) (n : ℕ) (x : List ℕ) where
  mine_of : (m v : ℕ) → v ≡ last_in node (bucket x) m → 0 < v → bucket (node (v - 1)) ≡ bucket x
  mine_of m v e h = last_mine node (bucket x) m (v - 1) (omega arith)

  none_of : (m v : ℕ) → v ≡ last_in node (bucket x) m → (k : ℕ) → v ≤ k → k < m → node k ≡ x → ⊥
  none_of m v e k l h s = last_none node (bucket x) m k (omega arith) h (ap bucket s)

  along_start : (v : ℕ) → v ≡ last_in node (bucket x) n → Along node n x v
  along_start v e = record { low = omega (arith, last_le node (bucket x) n); mine = mine_of n v e; none = none_of n v e }

  along_next : (v next : ℕ) → 0 < v → Along node n x v → (node (v - 1) ≡ x → ⊥) → next ≡ last_in node (bucket (node (v - 1))) (v - 1)
      → Along node n x next
  along_next v next p a s e =
      let e' : next ≡ last_in node (bucket x) (v - 1) = e ∙ ap (λ (b : ℕ). last_in node b (v - 1)) (a.mine p) in
      record {
        low = omega (arith, a.low, last_le node (bucket x) (v - 1));
        mine = mine_of (v - 1) next e';
        none = λ k l h. step e' k l h (dec_lt k (v - 1)) (ℕ_discrete k (v - 1));
      }
    where
      step : next ≡ last_in node (bucket x) (v - 1) → (k : ℕ) → next ≤ k → k < n → Dec (k < v - 1) → Dec (k ≡ v - 1) → node k ≡ x → ⊥
      step e' k l h (yes b) d t = none_of (v - 1) next e' k l b t
      step e' k l h (no b) (yes d) t = s (ap node (sym d) ∙ t)
      step e' k l h (no b) (no d) t = a.none k (omega arith) h t

  -- the answers of a search
  pub finds_at : (good : Bool) (i : ℕ) → i < n → node i ≡ x → Finds node n x good (Some i)
  finds_at good i l e = record {
    hit = λ j q. let s : i ≡ j = cc in (subst (λ k. k < n) s l, ap node (sym s) ∙ e);
    none = λ g q. absurd (none-some i (sym q));
  }

  pub finds_none : (good : Bool) → (good ≡ true → (k : ℕ) → k < n → node k ≡ x → ⊥) → Finds node n x good None
  finds_none good h = record { hit = λ i q. absurd (none-some i q); none = λ g e. h g }

  -- the first of all places
  pub finds_first : (r : Option ℕ) → MatchOption r ((k : ℕ) → 0 ≤ k → k < n → node k ≡ x → ⊥)
      (λ i. (0 ≤ i) × (i < n) × (node i ≡ x) × ((k : ℕ) → 0 ≤ k → k < i → node k ≡ x → ⊥)) → Finds node n x true r
  finds_first (Some i) h = finds_at true i h.1 h.2
  finds_first None h = finds_none true (λ g k. h k (omega arith))

  module _ (w : List ℕ) (at : ℕ) where
    abbrev SearchIs : Option ℕ → Type 0
    SearchIs r = (good : Bool) → at ≡ memo_size (length w) → (good ≡ true → Indexed node w n) → Finds node n x good r

    -- from the head of the bucket, and along a link
    pub trail_start : (b v : ℕ) → b ≡ bucket x → b < part_size → v ≡ get_or w (at + b) 0 → Trail node w at n x v
    trail_start b v eb lb ev =
        record {
          along =
              λ e h. along_start v (ev ∙ ap (λ (i : ℕ). get_or w (i + b) 0) e ∙ h.heads b lb ∙ ap (λ (i : ℕ). last_in node i n) eb);
        }

    link_is : (v next : ℕ) → 0 < v → v ≤ n → next ≡ get_or w (at + part_size + (v - 1)) 0 → at ≡ memo_size (length w) → Chained node w n
        → next ≡ last_in node (bucket (node (v - 1))) (v - 1)
    link_is v next p l en e h = en ∙ ap (λ (i : ℕ). get_or w (i + part_size + (v - 1)) 0) e ∙ h.links (v - 1) (omega arith)

    pub trail_next : (v next : ℕ) → 0 < v → v ≤ n → (node (v - 1) ≡ x → ⊥) → next ≡ get_or w (at + part_size + (v - 1)) 0
        → Trail node w at n x v → Trail node w at n x next
    trail_next v next p l s en t = record { along = λ e h. along_next v next p (t.along e h) s (link_is v next p l en e h) }

    module _ (room : at + index_size ≤ length w) (v : ℕ) where
      -- a link that does not lead down is in no right index
      pub trail_wrong : (next : ℕ) → 0 < v → v ≤ n → next ≡ get_or w (at + part_size + (v - 1)) 0 → v ≤ next → SearchIs None
      trail_wrong next p l en up good e ix =
          finds_none good
          (λ g.
          absurd
          (omega
          (arith, last_le node (bucket (node (v - 1))) (v - 1), link_is v next p l en e (ix g (omega arith)))))

-- node n at the head of its chain
module _ (node : ℕ → List ℕ) (w : List ℕ) (n at b : ℕ) where
  abbrev one : List ℕ
  one = set w (at + part_size + n) (get_or w (at + b) 0)

  abbrev entered : List ℕ
  entered = set one (at + b) (n + 1)

  entered_length : length entered ≡ length w
  entered_length = simp length-set

  chained_enter : at ≡ memo_size (length w) → b ≡ bucket (node n) → b < part_size → n < most_places → at + index_size ≤ length w → Chained node w n
      → Chained node entered (n + 1)
  chained_enter ea eb lb ln room h =
      record {
        heads = λ c l. rw (entered_length, ← ea) (head c l (ℕ_discrete c b));
        links = λ i l. rw (entered_length, ← ea) (link i l (ℕ_discrete i n));
      }
    where
      head_old : (c : ℕ) → c < part_size → get_or w (at + c) 0 ≡ last_in node c n
      head_old c l = rw ea (h.heads c l)

      head : (c : ℕ) → c < part_size → Dec (c ≡ b) → get_or entered (at + c) 0 ≡ last_in node c (n + 1)
      head c l (yes e) =
          rw (add-one, last_hit node c n (sym eb ∙ sym e), e)
          (get_or-set_same one (at + b) (suc n) 0 (omega (arith, length-set w (at + part_size + n) (get_or w (at + b) 0))))
      head c l (no e) =
          rw (add-one, last_miss node c n (λ d. e (sym d ∙ sym eb)))
          (get_or-set_other one (at + b) (at + c) (suc n) 0 (λ d. e (omega arith))
          ∙ get_or-set_other w (at + part_size + n) (at + c) (get_or w (at + b) 0) 0 (omega arith)
          ∙ head_old c l)

      link : (i : ℕ) → i < n + 1 → Dec (i ≡ n) → get_or entered (at + part_size + i) 0 ≡ last_in node (bucket (node i)) i
      link i l (yes e) =
          get_or-set_other one (at + b) (at + part_size + i) (n + 1) 0 (omega arith)
          ∙ rw (e, ← eb) (get_or-set_same w (at + part_size + n) (get_or w (at + b) 0) 0 (omega arith) ∙ head_old b lb)
      link i l (no e) =
          get_or-set_other one (at + b) (at + part_size + i) (n + 1) 0 (omega arith)
          ∙ get_or-set_other w (at + part_size + n) (at + part_size + i) (get_or w (at + b) 0) 0 (omega arith)
          ∙ rw ea (h.links i (omega arith))

  pub enter_joins : at ≡ memo_size (length w) → b ≡ bucket (node n) → b < part_size → n < most_places → at + index_size ≤ length w → Entered node n w entered
  enter_joins ea eb lb ln room =
      record {
        index = λ ix l. chained_enter ea eb lb ln room (ix (omega arith));
        apart = record {
          memo =
              rw (← ea)
              (take-set-le at one (at + b) (n + 1) (omega arith)
              ∙ take-set-le at w (at + part_size + n) (get_or w (at + b) 0) (omega arith));
          words =
              rw (← ea)
              (drop-set-lt (at + index_size) one (at + b) (n + 1) (omega arith)
              ∙ drop-set-lt (at + index_size) w (at + part_size + n) (get_or w (at + b) 0) (omega arith));
          work_length = entered_length;
        };
      }
