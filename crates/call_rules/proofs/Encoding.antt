-- A store written into memories is read back, makes them a store, and is written over by another, from the laws of `write`.
use mathlib.Core.Path.{◌≡◌, refl, sym, ap, ◌∙◌, subst}
use mathlib.Core.List.{List, [], ◌∷◌, ◌++◌, append_assoc}
use Prim.Native.Nat.{ℕ, zero, suc, ◌+◌, ◌-◌, ◌*◌, ◌<◌, ◌≤◌}
use native.Mathlib.Omega.{arith}
use native.Mathlib.Nat.{mul-suc, mul-zero}
use lib.ListN.{length, get_or, take, drop, replicate, length-append, length-drop, length-replicate, get_or-replicate, get_or-append}
use lib.Seq.{take_at, drop_at, drop-drop, get_or-append-add, ext_get_or}
use Rattle.model.specs.Store.{Kind, set, rel, arity, Nodes, Store, nodes}
use Rattle.model.specs.WellFormed.{WellFormed}
use Rattle.model.proofs.Canonical.{formed_sized}
use Rattle.memory.specs.Rows.{row, rows, places_of}
use Rattle.memory.proofs.Rows.{rows_length, rows_at}
use Rattle.store_check.specs.Memory.{Memories, memory, head_of, head, count, fields, places_in, nodes_in, decode, flat, write, encode}
use Rattle.store_check.specs.Valid.{Room, IsStore}
use Rattle.call_rules.proofs.Writing.{spread, places_end}

-- each node has c numbers
pub record AllSized (c : ℕ) (N : Nodes) : Type 0 where
  pub each : (i : ℕ) → i < length N → length (get_or N i []) ≡ c

sized_head : {c : ℕ} {x : List ℕ} {N : Nodes} → AllSized c (x ∷ N) → length x ≡ c
sized_head s = s.each 0 (omega arith)

sized_tail : {c : ℕ} {x : List ℕ} {N : Nodes} → AllSized c (x ∷ N) → AllSized c N
sized_tail s = record { each = λ i h. s.each (suc i) (omega arith) }

flat_length : (c : ℕ) (N : Nodes) → AllSized c N → length (flat N) ≡ c * length N
unfolding flat
flat_length c [] s = sym (mul-zero c)
flat_length c (x ∷ N) s = omega (arith, length-append x (flat N), sized_head s, flat_length c N (sized_tail s), mul-suc c (length N))

row_flat : (c : ℕ) (N : Nodes) (r : List ℕ) (i : ℕ) → AllSized c N → i < length N → row c (flat N ++ r) i ≡ get_or N i []
unfolding flat
row_flat c [] r i s h = absurd (omega arith)
row_flat c (x ∷ N) r zero s h =
    rw (mul-zero c, append_assoc x (flat N) r) (take_at x (flat N ++ r) c (sized_head s))
row_flat c (x ∷ N) r (suc i) s h =
    let e : c * suc i ≡ c + c * i = omega (arith, mul-suc c i) in
    ap (λ l. take c (drop (c * suc i) l)) (append_assoc x (flat N) r) ∙ ap (λ k. take c (drop k (x ++ (flat N ++ r)))) e
    ∙ ap (take c) (sym (drop-drop (c * i) c (x ++ (flat N ++ r))) ∙ ap (drop (c * i)) (drop_at x (flat N ++ r) c (sized_head s)))
    ∙ row_flat c N r i (sized_tail s) (omega arith)

rows_flat : (c : ℕ) (N : Nodes) (r : List ℕ) → AllSized c N → rows c (length N) (flat N ++ r) ≡ N
rows_flat c N r s = ext_get_or [] (rows c (length N) (flat N ++ r)) N (rows_length c (length N) (flat N ++ r)) (λ i h.
    let l : i < length N = omega (arith, rows_length c (length N) (flat N ++ r)) in
    rows_at c (length N) (flat N ++ r) i l ∙ row_flat c N r i s l)

-- WRITTEN MEMORY
module _ (K : Kind) (h : List ℕ) (N : Nodes) (m : List ℕ) (lh : length h ≡ head K) (s : AllSized (arity K) N) where
  abbrev zeros : List ℕ
  zeros = replicate (arity K * (places_in K m - length N)) 0

  abbrev beyond : List ℕ
  beyond = drop (head K + arity K * places_in K m) m

  pub write_nodes : rows (arity K) (length N) (drop (head K) (write K h N m)) ≡ N
  unfolding write
  write_nodes = ap (rows (arity K) (length N)) (drop_at h (flat N ++ (zeros ++ beyond)) (head K) lh) ∙ rows_flat (arity K) N (zeros ++ beyond) s

  module _ (few : length N ≤ places_in K m) (room : head K ≤ length m) where
    zeros_long : length zeros ≡ arity K * (places_in K m - length N)
    zeros_long = length-replicate (arity K * (places_in K m - length N)) 0

    pub write_length : length (write K h N m) ≡ length m
    unfolding write
    write_length =
        omega (
          arith,
          length-append h (flat N ++ (zeros ++ beyond)),
          length-append (flat N) (zeros ++ beyond),
          length-append zeros beyond,
          zeros_long,
          length-drop (head K + arity K * places_in K m) m,
          flat_length (arity K) N s,
          spread (arity K) (length N) (places_in K m) few,
          places_end K m,
          length-drop (head K) m,
          lh,
        )

    pub write_places : places_in K (write K h N m) ≡ places_in K m
    write_places = ap (λ l. places_of l (arity K)) (length-drop (head K) (write K h N m) ∙ ap (λ l. l - head K) write_length ∙ sym (length-drop (head K) m))

    pub write_beyond : drop (head K + arity K * places_in K m) (write K h N m) ≡ beyond
    unfolding write
    write_beyond =
        let p = h ++ (flat N ++ zeros) in
        let e : p ++ beyond ≡ h ++ (flat N ++ (zeros ++ beyond))
        = append_assoc h (flat N ++ zeros) beyond ∙ ap (λ r. h ++ r) (append_assoc (flat N) zeros beyond) in
        let l : length p ≡ head K + arity K * places_in K m
        = omega (
          arith,
          length-append h (flat N ++ zeros),
          length-append (flat N) zeros,
          zeros_long,
          flat_length (arity K) N s,
          spread (arity K) (length N) (places_in K m) few,
          lh,
        ) in
        ap (drop (head K + arity K * places_in K m)) (sym e) ∙ drop_at p beyond (head K + arity K * places_in K m) l

    pub write_blank : (j : ℕ) → j < arity K * (places_in K m - length N) → get_or (write K h N m) (head K + arity K * length N + j) 0 ≡ 0
    unfolding write
    write_blank j l =
        let i : head K + arity K * length N + j ≡ length h + (length (flat N) + j) = omega (arith, lh, flat_length (arity K) N s) in
        ap (λ n. get_or (write K h N m) n 0) i
        ∙ get_or-append-add h (flat N ++ (zeros ++ beyond)) (length (flat N) + j) 0
        ∙ get_or-append-add (flat N) (zeros ++ beyond) j 0
        ∙ get_or-append zeros beyond 0 j (omega (arith, zeros_long))
        ∙ get_or-replicate (arity K * (places_in K m - length N)) j 0 0 l

    pub write_room : count K (write K h N m) ≡ length N → Room K (write K h N m)
    write_room c = record {
      headed = subst (λ l. head K ≤ l) (sym write_length) room;
      within = subst (λ n. n ≤ places_in K (write K h N m)) (sym c) (subst (λ p. length N ≤ p) (sym write_places) few);
      blank = subst (λ n. (j : ℕ) → j < arity K * (places_in K (write K h N m) - n) → get_or (write K h N m) (head K + arity K * n + j) 0 ≡ 0) (sym c)
          (subst (λ p. (j : ℕ) → j < arity K * (p - length N) → get_or (write K h N m) (head K + arity K * length N + j) 0 ≡ 0) (sym write_places) write_blank);
    }

    -- the next store written over it
    pub write_write : (h' : List ℕ) (N' : Nodes) → write K h' N' (write K h N m) ≡ write K h' N' m
    unfolding write
    write_write h' N' =
        (λ i. h' ++ (flat N' ++ (replicate (arity K * (write_places i - length N')) 0 ++ drop (head K + arity K * write_places i) (write K h N m))))
        ∙ ap (λ r. h' ++ (flat N' ++ (replicate (arity K * (places_in K m - length N')) 0 ++ r))) write_beyond

-- STORES
formed_all : {k : ℕ} {S : Store} (K : Kind) → WellFormed k S → AllSized (arity K) (nodes K S)
formed_all K F = record { each = (formed_sized K F).each }

-- S of k fields, written into M
module _ (k : ℕ) (S : Store) (M : Memories) where
  -- the head of each kind's memory
  abbrev pub head_in : Kind → List ℕ
  head_in K = head_of K k (length (nodes K S))

  pub head_long : (K : Kind) → length (head_in K) ≡ head K
  head_long set = refl
  head_long rel = refl

  head_count : (K : Kind) → count K (write K (head_in K) (nodes K S) (memory K M)) ≡ length (nodes K S)
  unfolding write
  head_count set = refl
  head_count rel = refl

  pub encode_memory : (K : Kind) → memory K (encode k S M) ≡ write K (head_in K) (nodes K S) (memory K M)
  unfolding encode
  encode_memory set = refl
  encode_memory rel = refl

  pub encode_count : (K : Kind) → count K (memory K (encode k S M)) ≡ length (nodes K S)
  encode_count K = ap (count K) (encode_memory K) ∙ head_count K

  pub encode_fields : fields (encode k S M) ≡ k
  unfolding encode write
  encode_fields = refl

-- there is place for S in M
pub record Space (S : Store) (M : Memories) : Type 0 where
  pub headed : (K : Kind) → head K ≤ length (memory K M)
  pub within : (K : Kind) → length (nodes K S) ≤ places_in K (memory K M)

-- what is written is read back
pub decode_encode : {k : ℕ} {S : Store} (M : Memories) (j : ℕ) → WellFormed k S → decode (encode j S M) ≡ S
unfolding decode
decode_encode {S = S} M j F i = record { sets = read set i; rels = read rel i }
  where
    read : (K : Kind) → nodes_in K (memory K (encode j S M)) ≡ nodes K S
    read K =
        let h = head_in j S M K in
        (λ i. rows (arity K) (encode_count j S M K i) (drop (head K) (encode_memory j S M K i)))
        ∙ write_nodes K h (nodes K S) (memory K M) (head_long j S M K) (formed_all K F)

module _ {k : ℕ} {S : Store} {M : Memories} (F : WellFormed k S) (p : Space S M) where
  pub encode_length : (K : Kind) (j : ℕ) → length (memory K (encode j S M)) ≡ length (memory K M)
  encode_length K j = ap length (encode_memory j S M K)
      ∙ write_length K (head_in j S M K) (nodes K S) (memory K M) (head_long j S M K) (formed_all K F) (p.within K) (p.headed K)

  pub encode_places : (K : Kind) (j : ℕ) → places_in K (memory K (encode j S M)) ≡ places_in K (memory K M)
  encode_places K j = ap (places_in K) (encode_memory j S M K)
      ∙ write_places K (head_in j S M K) (nodes K S) (memory K M) (head_long j S M K) (formed_all K F) (p.within K) (p.headed K)

  pub encode_store : k ≤ 32 → IsStore (encode k S M)
  encode_store b = record {
    few = subst (λ j. j ≤ 32) (sym (encode_fields k S M)) b;
    room = λ K. subst (Room K) (sym (encode_memory k S M K)) (write_room K (head_in k S M K) (nodes K S) (memory K M) (head_long k S M K)
        (formed_all K F) (p.within K) (p.headed K) (head_count k S M K));
    formed = subst (λ j. WellFormed j (decode (encode k S M))) (sym (encode_fields k S M)) (subst (WellFormed k) (sym (decode_encode M k F)) F);
  }

  over_one : (K : Kind) (j : ℕ) (h : List ℕ) (N : Nodes) → write K h N (write K (head_in j S M K) (nodes K S) (memory K M)) ≡ write K h N (memory K M)
  over_one K j h N = write_write K (head_in j S M K) (nodes K S) (memory K M) (head_long j S M K) (formed_all K F)
      (p.within K) (p.headed K) h N

  -- the next store written over it
  pub encode_encode : (j i : ℕ) (T : Store) → encode i T (encode j S M) ≡ encode i T M
  unfolding encode
  encode_encode j i T d = record {
    relations = over_one rel j (head_in i T M rel) T.rels d;
    sets = over_one set j (head_in i T M set) T.sets d;
  }
