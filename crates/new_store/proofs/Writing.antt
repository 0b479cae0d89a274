-- Nodes written one after the other, those of `specs/NewNodes` of `model`, and the memory of one kind that holds no others.
use mathlib.Core.Path.{◌≡◌, refl, sym, ap, ◌∙◌, subst}
use mathlib.Core.List.{List, [], ◌∷◌, ◌++◌, append_assoc}
use Prim.Native.Nat.{ℕ, ◌+◌, ◌-◌, ◌*◌, ◌<◌, ◌≤◌}
use native.Mathlib.Nat.{mul-le-mul_left}
use native.Mathlib.Numerals.{add-one}
use native.Mathlib.Omega.{arith}
use lib.ListN.{length, get_or, set as put, take, drop, replicate, length-drop, length-set}
use lib.Seq.{drop-drop, get_or-drop, length-take-le, take_all, take-set-lt, set-append_left, get_or-set_same, paste}
use borrow.Rule.Slice.PartMut.{put_mid}
use Rattle.model.specs.NewNodes.{levels, level_handle, level_node, new_sets, new_relations}
use Rattle.model.specs.Store.{Kind, set, rel, arity, Nodes}
use Rattle.memory.specs.Rows.{rows, places_of}
use Rattle.memory.proofs.Rows.{paste_long, paste_rest, rows_paste}
use Rattle.store_check.specs.Memory.{head_of, head, count_at, fields_at, places_in, flat, write}
use Rattle.call_rules.proofs.Encoding.{AllSized, write_places, write_length, write_blank, write_write}
use Rattle.call_rules.proofs.Outcomes.{put_count}
use Rattle.call_rules.proofs.Writing.{Free, Body, spread, write_body, tail_put}
use Rattle.new_store.specs.Creating.{places_for, NewFits, freed, NodesWritten}

-- NODES AFTER NODES
rest_on : (a b : ℕ) (m m' : List ℕ) → a ≤ b → drop a m' ≡ drop a m → drop b m' ≡ drop b m
rest_on a b m m' h e = sym (from m') ∙ ap (drop (b - a)) e ∙ from m
  where
    from : (m : List ℕ) → drop (b - a) (drop a m) ≡ drop b m
    from m = let q : a + (b - a) ≡ b = omega arith in drop-drop (b - a) a m ∙ ap (λ j. drop j m) q

wrote_then : {c p e f : ℕ} {N L : Nodes} {m m₁ m₂ : List ℕ} → e ≤ f → NodesWritten c p e N m m₁ → NodesWritten c e f L m₁ m₂
    → NodesWritten c p f (N ++ L) m m₂
wrote_then {c} {p} {e} {f} {N} {L} {m} {m₁} h A B = record {
  long = B.long ∙ A.long;
  nodes = B.nodes ∙ ap (λ (l : Nodes). l ++ L) A.nodes ∙ append_assoc (rows c p m) N L;
  rest = B.rest ∙ rest_on (c * e) (c * f) m m₁ (mul-le-mul_left c h) A.rest;
}

-- one node more
wrote_one : (c e : ℕ) (x m : List ℕ) → length x ≡ c → c * e + c ≤ length m → NodesWritten c e (e + 1) (x ∷ []) m (paste m (c * e) x c)
wrote_one c e x m s h = record { long = paste_long c e m x s h; nodes = rows_paste c e m x s h; rest = paste_rest c e m x s h }

wrote_more : {c p e : ℕ} {N : Nodes} {m m₁ : List ℕ} (x : List ℕ) → length x ≡ c → c * e + c ≤ length m → NodesWritten c p e N m m₁
    → NodesWritten c p (e + 1) (N ++ (x ∷ [])) m (paste m₁ (c * e) x c)
wrote_more {c} {e = e} {m₁ = m₁} x s h W = wrote_then (omega arith) W (wrote_one c e x m₁ s (omega (arith, W.long)))

next : (f : ℕ → List ℕ) (i : ℕ) → levels f i ++ (f i ∷ []) ≡ levels f (i + 1)
next f i = ap (levels f) (sym (add-one i))

-- numbers copied over k of a list
copied : (a k : ℕ) (m x : List ℕ) → length x ≡ k → put_mid a k m x ≡ paste m a x k
copied a k m x e =
    let t : take k x ≡ x = take_all k x (omega (arith, e)) in
    (λ i. take a m ++ (sym t i ++ drop-drop k a m i)) ∙ sym (append_assoc (take a m) (take k x) (drop (a + k) m))

-- THE LOOPS: a node copied to place e, at s
wrote_node : {c p e k s : ℕ} {N : Nodes} {m m₁ : List ℕ} (x y : List ℕ) → s ≡ c * e → y ≡ x → length x ≡ c → k ≡ c → c * e + c ≤ length m
    → NodesWritten c p e N m m₁ → NodesWritten c p (e + 1) (N ++ (x ∷ [])) m (put_mid s k m₁ y)
wrote_node {c} {p} {e} {k} {s} {N} {m} {m₁} x y es ey l ek h W =
    let q : put_mid s k m₁ y ≡ paste m₁ (c * e) x c = (λ i. put_mid (es i) (ek i) m₁ (ey i)) ∙ copied (c * e) c m₁ x l in
    rw q (wrote_more x l h W)

pub wrote_set : (m m₁ y : List ℕ) (i s : ℕ) → s ≡ 2 * i → y ≡ 2 * i ∷ 2 * i ∷ [] → 2 * i + 2 ≤ length m → NodesWritten 2 0 i (new_sets i) m m₁
    → NodesWritten 2 0 (i + 1) (new_sets (i + 1)) m (put_mid s (s + 2 - s) m₁ y)
wrote_set m m₁ y i s es ey h W = rw (← next) (wrote_node (2 * i ∷ 2 * i ∷ []) y es ey refl (omega arith) h W)

pub handle_next : (p c i : ℕ) → p + i + 2 ≡ level_handle rel p c (i + 1)
handle_next p c i = ap (level_handle rel p c) (sym (add-one i))

pub wrote_level : (m m₁ y : List ℕ) (p c q d i s a b : ℕ) → s ≡ 4 * (p + i) → y ≡ a ∷ b ∷ b ∷ a ∷ [] → a ≡ level_handle rel p c i
    → b ≡ level_handle rel q d i → 4 * (p + i) + 4 ≤ length m → NodesWritten 4 p (p + i) (levels (level_node p c q d) i) m m₁
    → NodesWritten 4 p (p + (i + 1)) (levels (level_node p c q d) (i + 1)) m (put_mid s (s + 4 - s) m₁ y)
wrote_level m m₁ y p c q d i s a b es ey ea eb h W =
    let v : p + (i + 1) ≡ p + i + 1 = omega arith in
    rw (v, ← next) (wrote_node (level_node p c q d i) y es (ey ∙ (λ j. ea j ∷ eb j ∷ eb j ∷ ea j ∷ [])) refl (omega arith) h W)

pub wrote_relations : {m m₁ m₂ m₃ : List ℕ} (k : ℕ) → NodesWritten 4 0 (0 + k) (levels (level_node 0 0 0 0) k) m m₁
    → NodesWritten 4 k (k + k) (levels (level_node k 1 0 0) k) m₁ m₂ → NodesWritten 4 (2 * k) (2 * k + k) (levels (level_node (2 * k) 1 (2 * k) 1) k) m₂ m₃
    → NodesWritten 4 0 (3 * k) (new_relations k) m m₃
wrote_relations {m} {m₁} {m₂} {m₃} k Z O T =
    let a : 0 + k ≡ k = omega arith in
    let b : k + k ≡ 2 * k = omega arith in
    let c : 2 * k + k ≡ 3 * k = omega arith in
    let Z' = subst (λ e. NodesWritten 4 0 e (levels (level_node 0 0 0 0) k) m m₁) a Z in
    let O' = subst (λ e. NodesWritten 4 k e (levels (level_node k 1 0 0) k) m₁ m₂) b O in
    let T' = subst (λ e. NodesWritten 4 (2 * k) e (levels (level_node (2 * k) 1 (2 * k) 1) k) m₂ m₃) c T in
    wrote_then (omega arith) (wrote_then (omega arith) Z' O') T'

-- the places by the length
pub places_by : (K : Kind) (m : List ℕ) → places_for K (length m) ≡ places_in K m
places_by K m = ap (λ l. places_of l (arity K)) (sym (length-drop (head K) m))

-- A MEMORY of one kind: its places zero and its head as it was, then the nodes in its first places
module _ (K : Kind) (m : List ℕ) (h : head K ≤ length m) where
  abbrev bare : List ℕ
  bare = write K (take (head K) m) [] m

  head_long : length (take (head K) m) ≡ head K
  head_long = length-take-le (head K) m h

  no_nodes : AllSized (arity K) []
  no_nodes = record { each = λ i l. absurd (omega arith) }

  freed_is : freed (head K) (arity K) m ≡ bare
  unfolding write flat
  freed_is =
      let p = places_for K (length m) in
      let c : head K + arity K * p - head K ≡ arity K * p = omega arith in
      let q : places_in K m ≡ places_in K m - 0 = omega arith in
      let z : arity K * p ≡ arity K * (places_in K m - 0) = ap (λ j. arity K * j) (places_by K m ∙ q) in
      ap (λ j. take (head K) m ++ (replicate j 0 ++ drop j (drop (head K) m))) c
      ∙ ap (λ x. take (head K) m ++ (replicate (arity K * p) 0 ++ x)) (drop-drop (arity K * p) (head K) m)
      ∙ (λ i. take (head K) m ++ (replicate (z i) 0 ++ drop (head K + arity K * places_by K m i) m))

  abbrev part : List ℕ → List ℕ
  part m₁ = take (length m₁ - head K) (drop (head K) m₁)

  filled : (g b : List ℕ) (q : ℕ) (N : Nodes) → q ≤ places_in K m → NodesWritten (arity K) 0 q N (part bare) b → g ++ b ≡ write K g N m
  unfolding rows
  filled g b q N w W =
      let H = take (head K) m in
      let p : places_in K bare ≡ places_in K m = write_places K H [] m head_long no_nodes (omega arith) h in
      let l : part bare ≡ drop (head K) bare = take_all (length bare - head K) (drop (head K) bare) (omega (arith, length-drop (head K) bare)) in
      let F : Free K bare q = record {
        most = subst (λ n. q ≤ n) (sym p) w;
        zeros = λ j i.
            let n = arity K * q + j in
            let e : head K + n ≡ head K + arity K * 0 + n = omega arith in
            let s = spread (arity K) q (places_in K m) w in
            let i' : j < arity K * (places_in K m - q) = subst (λ n. j < arity K * (n - q)) p i in
            let z : places_in K m - 0 ≡ places_in K m = omega arith in
            get_or-drop (head K) bare n 0 ∙ ap (λ a. get_or bare a 0) e
            ∙ write_blank K H [] m head_long no_nodes (omega arith) h n (subst (λ a. n < arity K * a) (sym z) (omega arith));
      } in
      let E : Body K bare b q = record { long = W.long ∙ ap length l; rest = W.rest ∙ ap (drop (arity K * q)) l } in
      sym (write_body K g bare b q F E) ∙ ap (λ (N : Nodes). write K g N bare) W.nodes ∙ write_write K H [] m head_long no_nodes (omega arith) h g N

-- both numbers of the relation memory's head written before its nodes b
fields_count : (m b : List ℕ) (k n : ℕ) → head rel ≤ length m → put (put (take (head rel) m ++ b) fields_at k) (count_at rel) n ≡ head_of rel k n ++ b
fields_count m b k n h =
    let l = length-take-le (head rel) m h in
    ap (λ x. put x (count_at rel) n) (set-append_left (take (head rel) m) b fields_at k (omega arith)
    ∙ ap (λ x. x ++ b) (sym (take-set-lt (head rel) m fields_at k (omega arith))))
    ∙ put_count rel (put m fields_at k) b n (omega (arith, length-set m fields_at k))
    ∙ ap (λ f. head_of rel f n ++ b) (get_or-set_same m fields_at k 0 (omega arith))

-- what the code leaves in a memory that fits: m₁ with its places free, b with the nodes written into the part after the head
module _ {K : Kind} {k n : ℕ} {m₁ b : List ℕ} {N : Nodes} (m : List ℕ) (F : NewFits K k n (length m)) (e : m₁ ≡ freed (head K) (arity K) m)
    (W : NodesWritten (arity K) 0 n N (take (length m₁ - head K) (drop (head K) m₁)) b) where
  is_bare : m₁ ≡ bare K m F.headed
  is_bare = e ∙ freed_is K m F.headed

  still_headed : head K ≤ length m₁
  still_headed = omega (
    arith,
    ap length is_bare,
    write_length K (take (head K) m) [] m (head_long K m F.headed) (no_nodes K m F.headed) (omega arith) F.headed,
    F.headed,
  )

  nodes_in_place : (g : List ℕ) → g ++ b ≡ write K g N m
  nodes_in_place g = filled K m F.headed g b n N (subst (λ p. n ≤ p) (places_by K m) F.within)
      (subst (λ m₁. NodesWritten (arity K) 0 n N (take (length m₁ - head K) (drop (head K) m₁)) b) is_bare W)

pub sets_written : {k : ℕ} {m₁ b : List ℕ} (m : List ℕ) → NewFits set k k (length m) → m₁ ≡ freed (head set) (arity set) m
    → NodesWritten 2 0 k (new_sets k) (take (length m₁ - head set) (drop (head set) m₁)) b
    → put (put_mid (head set) (length m₁ - head set) m₁ b) (count_at set) k ≡ write set (head_of set k k) (new_sets k) m
sets_written {k} {m₁} {b} m F e W = ap (λ x. put x (count_at set) k) (tail_put (head set) m₁ b) ∙ put_count set m₁ b k (still_headed m F e W)
    ∙ nodes_in_place m F e W (head_of set k k)

pub relations_written : {k : ℕ} {m₁ b : List ℕ} (m : List ℕ) → NewFits rel k (3 * k) (length m) → m₁ ≡ freed (head rel) (arity rel) m
    → NodesWritten 4 0 (3 * k) (new_relations k) (take (length m₁ - head rel) (drop (head rel) m₁)) b
    → put (put (put_mid (head rel) (length m₁ - head rel) m₁ b) fields_at k) (count_at rel) (3 * k)
    ≡ write rel (head_of rel k (3 * k)) (new_relations k) m
relations_written {k} {m₁} {b} m F e W = ap (λ x. put (put x fields_at k) (count_at rel) (3 * k)) (tail_put (head rel) m₁ b)
    ∙ fields_count m₁ b k (3 * k) (still_headed m F e W) ∙ nodes_in_place m F e W (head_of rel k (3 * k))
