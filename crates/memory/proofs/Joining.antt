-- `join` makes the node that `mk` makes, and leaves the working memory right for it.
-- A NODE THAT IS THERE, or not, among nodes that are all different
use mathlib.Core.Path.{◌≡◌, refl, sym, ap, ◌∙◌, subst}
use mathlib.Core.Logic.{◌⊎◌, inl, inr}
use mathlib.Core.List.{List, [], ◌∷◌, ◌++◌}
use Rattle.std.specs.Prelude.{Option, Some, None}
use mathlib.Core.Bool.{Bool, true, false, ◌||◌}
use Prim.Native.Nat.{ℕ, ◌+◌, ◌*◌, ◌%◌, ◌<◌, ◌≤◌}
use native.Mathlib.Omega.{arith}
use native.Mathlib.Decide.{dec_lt, ℕ_discrete}
use lib.ListN.{get_or-eq_default, length, get_or, take, drop, length-append, length-set}
use lib.Seq.{get_or-set_same, get_or-set_other, set_out, take-set-le, paste}
use lib.Dec.{ltb, leb, T, lt→ltb}
use borrow.Author.Tests.{le-leb, lt-leb}
use Rattle.model.specs.Programs.{mk, run}
use Rattle.model.specs.Safety.{Kids, Safe}
use Rattle.model.specs.Store.{Kind, set, rel, arity, Nodes, Store, nodes, with_nodes, index, handle_of, with_sign, get, place, having, sign, stored}
use Rattle.model.specs.Store.{mk_store, mk_handle}
use Rattle.model.specs.WellFormed.{Distinct, WellFormed, Extends}
use Rattle.model.proofs.Extends.{ext_held}
use Rattle.model.proofs.Levels.{held_once, held_at}
use Rattle.model.proofs.Mk.{Had, had, mk_ext, handle_big, mk_formed}
use Rattle.model.proofs.Reducing.{formed_more}
use Rattle.model.proofs.Settle.{agrees_kept, settled_later}
use Rattle.model.proofs.Signs.{index_handle, with_sign_zero}
use Rattle.memory.specs.Performing.{run_state, going, Ready, ends, Runs, Joins}
use Rattle.memory.specs.Finding.{Search, Entered}
use Rattle.memory.specs.Noting.{Noted}
use Rattle.memory.specs.Rows.{row, rows, places, plain, most_places}
use Rattle.memory.specs.Working.{memo_size, links_at, words_at, Indexed, properties_in, Has, Known, Words, Entry, Remembers, Right, index_size, part_size}
use Rattle.memory.proofs.Chains.{indexed_agree}
use Rattle.memory.proofs.Known.{known_nothing}
use Rattle.memory.proofs.Parts.{words_same, entry_same}
use Rattle.memory.proofs.Rows.{place_fits, plain_nodes, plain_length, plain_at, paste_long, paste_head, paste_rest, paste_row, rows_paste}
use Rattle.memory.proofs.Steps.{writes_same, false≢true, ext_longer}

module _ (x : List ℕ) (N : Nodes) where
  pub there : Distinct N → (i : ℕ) → i < length N → get_or N i [] ≡ x → (having x N ≡ N) × (place x N ≡ i)
  there D i l e = go (had x N)
    where
      go : Had x N (having x N) (place x N) → (having x N ≡ N) × (place x N ≡ i)
      go h = elim h.new [
        | inl q ↦ (q, D (place x N) i (subst (λ M. place x N < length M) q h.inside) l (ap (λ M. get_or M (place x N) []) (sym q) ∙ h.found ∙ sym e))
        | inr q ↦ absurd (q.2 i l e)
      ]

  pub absent : ((i : ℕ) → i < length N → ¬ (get_or N i [] ≡ x)) → (having x N ≡ N ++ (x ∷ [])) × (place x N ≡ length N)
  absent n = go (had x N)
    where
      go : Had x N (having x N) (place x N) → (having x N ≡ N ++ (x ∷ [])) × (place x N ≡ length N)
      go h = elim h.new [
        | inl q ↦ absurd (n (place x N) (subst (λ M. place x N < length M) q h.inside) (ap (λ M. get_or M (place x N) []) (sym q) ∙ h.found))
        | inr q ↦ (q.0, q.1)
      ]

-- WORDS of nodes that stay
or_right : (p q : Bool) → T q → T (p || q)
or_right true q t = tt
or_right false q t = t

pub known_later : {k : ℕ} {S S' : Store} (J : Kind) (i v : ℕ) → WellFormed k S → Extends S S' → i < length (nodes J S) → Known J S (handle_of J 0 i) v
    → Known J S' (handle_of J 0 i) v
known_later {S = S} {S' = S'} J i v F E l f z n A =
    let h = handle_of J 0 i in
    let t : T (ltb (index J h) (length (nodes J S))) = lt→ltb _ _ (subst (λ j. j < length (nodes J S)) (sym (index_handle J 0 i)) l) in
    let a = held_at J h F (or_right (ltb h 2) _ t) in
    let e : n ≡ a.0 = held_once J S' n a.0 h A (ext_held E J a.0 h a.2) in
    let b = f z a.0 a.2 in
    subst (λ n. Has J S' n h (properties_in v)) (sym e) (record {
      empty = agrees_kept _ J a.0 h E a.2 ∙ b.empty;
      universal = agrees_kept _ J a.0 h E a.2 ∙ b.universal;
      identity = λ q. agrees_kept _ J a.0 h E a.2 ∙ b.identity q;
      level = b.level;
    })

pub entry_later : (x y : ℕ) {S S' : Store} → Extends S S' → Entry x y S → Entry x y S'
unfolding Entry
entry_later x y E f z = settled_later E (f z)

-- PARTS of the working memory after a word was noted and a node entered the index
apart : (J K : Kind) (l i n : ℕ) → i < most_places → n < most_places → words_at J l + i ≡ words_at K l + n → (J ≡ K) × (i ≡ n)
apart set set l i n a b e = (refl, omega arith)
apart rel rel l i n a b e = (refl, omega arith)
apart set rel l i n a b e = absurd (omega arith)
apart rel set l i n a b e = absurd (omega arith)

after_index : (K : Kind) (l n i : ℕ) → i < index_size → memo_size l + i < words_at K l + n
after_index set l n i h = omega arith
after_index rel l n i h = omega arith

module _ (K : Kind) (x : List ℕ) (n : ℕ) (w w₁ : List ℕ) (N : Noted K x n w w₁) where
  noted_long : length w₁ ≡ length w
  noted_long = elim N.written [ inl e ↦ ap length e.1 | inr e ↦ ap length e ∙ length-set w _ _ ]

  -- a number at another place is as it was
  noted_other : (j : ℕ) → ¬ (j ≡ words_at K (length w) + n) → get_or w₁ j 0 ≡ get_or w j 0
  noted_other j o = elim N.written [ inl e ↦ ap (λ v. get_or v j 0) e.1 | inr e ↦ ap (λ v. get_or v j 0) e ∙ get_or-set_other w _ j _ 0 o ]

  noted_memo : take (memo_size (length w)) w₁ ≡ take (memo_size (length w)) w
  noted_memo = elim N.written [
    | inl e ↦ ap (take (memo_size (length w))) e.1
    | inr e ↦ ap (take (memo_size (length w))) e ∙ take-set-le (memo_size (length w)) w _ _ (omega (arith, after_index K (length w) n 0 (omega arith)))
  ]

  noted_index : {node : ℕ → List ℕ} → Indexed node w n → n ≤ most_places → Indexed node w₁ n
  noted_index {node} h q l = let c = h (subst (λ k. links_at k + part_size ≤ k) noted_long l) in record {
    heads = λ a i. ap (λ k. get_or w₁ (memo_size k + a) 0) noted_long ∙ noted_other _ (λ e. omega (arith, e, after_index K (length w) n a (omega arith)))
        ∙ c.heads a i;
    links = λ a i. ap (λ k. get_or w₁ (memo_size k + part_size + a) 0) noted_long
        ∙ noted_other _ (λ e. omega (arith, e, after_index K (length w) n (part_size + a) (omega arith))) ∙ c.links a i;
  }

  -- the word that was noted, where there was room for it
  noted_word : (get_or w₁ (words_at K (length w₁) + n) 0 ≡ N.word) ⊎ (get_or w₁ (words_at K (length w₁) + n) 0 ≡ 0)
  noted_word = elim N.written [
    | inl e ↦ inr (ap (λ v. get_or v (words_at K (length v) + n) 0) e.1 ∙ get_or-eq_default w 0 e.0)
    | inr e ↦ elim (dec_lt (words_at K (length w) + n) (length w)) [
      | yes h ↦ inl (ap (λ k. get_or w₁ (words_at K k + n) 0) noted_long ∙ ap (λ v. get_or v (words_at K (length w) + n) 0) e ∙ get_or-set_same w _ _ 0 h)
      | no h ↦ inr (ap (λ k. get_or w₁ (words_at K k + n) 0) noted_long ∙ ap (λ v. get_or v (words_at K (length w) + n) 0) (e ∙ set_out w _ _ (omega arith))
          ∙ get_or-eq_default w 0 (omega arith))
    ]
  ]

-- WHAT `join` DOES, over a store B: the node x, which is y as it is stored, is found; it is not and there is no place; it is put after the others
with_with : (K : Kind) (N M : Nodes) (B : Store) → with_nodes K N (with_nodes K M B) ≡ with_nodes K N B
with_with set N M B = refl
with_with rel N M B = refl

with_same : (K : Kind) (S : Store) → with_nodes K (nodes K S) S ≡ S
with_same set S = refl
with_same rel S = refl

module _ {K : Kind} {B : Store} {n : ℕ} {m w : List ℕ} (y x : List ℕ) (R : Ready K (mk K y) B (going n) m w) (e : x ≡ stored K y) where
  pub join_found : (i h : ℕ) → i < n → row (arity K) m i ≡ x → h ≡ handle_of K (sign y) i → Runs K (mk K y) B (going n) m m w w (run_state true n h)
  unfolding run ends mk_store mk_handle
  join_found i h l q v =
      let S = plain K B m n in
      let F = R.live refl in
      let t = there (stored K y) (nodes K S) (F.work.formed.distinct K) i (omega (arith, plain_length K B m n)) (plain_at K B m n i l ∙ q ∙ e) in
      let same : mk_store K y S ≡ S = ap (λ N. with_nodes K N S) t.0 ∙ with_same K S in
      record {
        okay = sym ((λ j. leb (length (nodes K (same j))) (places (arity K) m))
            ∙ le-leb _ (places (arity K) m) (omega (arith, plain_length K B m n, R.room)));
        done = λ _. record { store = sym same; value = v ∙ ap (handle_of K (sign y)) (sym t.1); work = F.work };
        writes = writes_same R.room;
        work_length = refl;
      }

  module _ (none : (i : ℕ) → i < n → row (arity K) m i ≡ x → ⊥) where
    not_there : (having (stored K y) (nodes K (plain K B m n)) ≡ nodes K (plain K B m n) ++ (stored K y ∷ [])) ×
        (place (stored K y) (nodes K (plain K B m n)) ≡ n)
    not_there =
        let S = plain K B m n in
        let t = absent (stored K y) (nodes K S) (λ i l q. let j : i < n = omega (arith, plain_length K B m n) in none i j
        (sym (plain_at K B m n i j) ∙ q ∙ sym e)) in
        (t.0, t.1 ∙ plain_length K B m n)

    ends_more : ends K (mk K y) (plain K B m n) ≡ n + 1
    unfolding ends run mk_store
    ends_more =
        let S = plain K B m n in
        ap (λ N. length (nodes K (with_nodes K N S))) not_there.0 ∙ counted K (nodes K S ++ (stored K y ∷ [])) S
        ∙ length-append (nodes K S) (stored K y ∷ [])
        ∙ ap (λ k. k + 1) (plain_length K B m n)
      where
        counted : (K : Kind) (N : Nodes) (S : Store) → length (nodes K (with_nodes K N S)) ≡ length N
        counted set N S = refl
        counted rel N S = refl

    pub join_full : (h : ℕ) → places (arity K) m ≤ n → Runs K (mk K y) B (going n) m m w w (run_state false n h)
    join_full h l = record {
      okay = sym ((λ j. leb (ends_more j) (places (arity K) m)) ∙ lt-leb _ (places (arity K) m) (omega arith));
      done = λ t. absurd (false≢true t);
      writes = writes_same R.room;
      work_length = refl;
    }

    module _ (m' w₁ w₂ : List ℕ) (sized : length x ≡ arity K) (l : n < places (arity K) m) (p : m' ≡ paste m (arity K * n) x (arity K))
        (N : Noted K x n w w₁) (E : Entered (row (arity K) m') n w₁ w₂) where
      fits : arity K * n + arity K ≤ length m
      fits = place_fits (arity K) m n l

      put_head : take (arity K * n) m' ≡ take (arity K * n) m
      put_head = ap (take (arity K * n)) p ∙ paste_head (arity K) n m x sized fits

      -- the store with the node is `mk`'s
      put_store : plain K B m' (n + 1) ≡ mk_store K y (plain K B m n)
      unfolding mk_store
      put_store =
          ap (λ M. with_nodes K (rows (arity K) (n + 1) M) B) p ∙ ap (λ M. with_nodes K M B) (rows_paste (arity K) n m x sized fits)
          ∙ ap (λ z. with_nodes K (rows (arity K) n m ++ (z ∷ [])) B) e
          ∙ ap (λ M. with_nodes K (M ++ (stored K y ∷ [])) B) (sym (plain_nodes K B m n))
          ∙ ap (λ M. with_nodes K M B) (sym not_there.0) ∙ sym (with_with K _ _ B)

      put_extends : Extends (plain K B m n) (plain K B m' (n + 1))
      put_extends = subst (λ T'. Extends (plain K B m n) T') (sym put_store) (mk_ext K y (plain K B m n))

      new_kids : Kids K y (plain K B m n)
      unfolding Safe
      new_kids = (R.live refl).safe

      more_fields : ℕ
      more_fields = (R.live refl).work.fields + new_kids.level + 1

      put_formed : WellFormed more_fields (plain K B m' (n + 1))
      unfolding more_fields
      put_formed = let F = (R.live refl).work in subst (WellFormed _) (sym put_store)
          (mk_formed {l = new_kids.level} K y (formed_more (omega arith) F.formed) (omega arith) new_kids.sized new_kids.held)

      -- the words as they were say nothing wrong with the node there
      words_before : Words w (plain K B m' (n + 1))
      words_before J i a b = let F = (R.live refl).work in elim (dec_lt i (length (nodes J (plain K B m n)))) [
        | yes o ↦ known_later J i _ F.formed put_extends o (F.words J i a o)
        | no o ↦ known_nothing _ (F.unset J i (omega arith) a)
      ]

      put_get : get K (plain K B m' (n + 1)) (handle_of K 0 n) ≡ x
      unfolding get
      put_get = ap (λ i. with_sign K (handle_of K 0 n % 2) (get_or (nodes K (plain K B m' (n + 1))) i [])) (index_handle K 0 n)
          ∙ ap (with_sign K (handle_of K 0 n % 2)) (plain_at K B m' (n + 1) n (omega arith) ∙ ap (λ M. row (arity K) M n) p
          ∙ paste_row (arity K) n m x sized fits)
          ∙ plus K
        where
          plus : (K : Kind) → with_sign K (handle_of K 0 n % 2) x ≡ x
          plus rel = refl
          plus set = let z : 2 * (n + 1) % 2 ≡ 0 = omega arith in ap (λ k. with_sign set k x) z ∙ with_sign_zero x

      long : length w₁ ≡ length w
      long = noted_long K x n w w₁ N

      -- each word but the new one is as it was
      word_entered : (J : Kind) (i : ℕ) → get_or w₂ (words_at J (length w₂) + i) 0 ≡ get_or w₁ (words_at J (length w₁) + i) 0
      word_entered = words_same w₁ w₂ E.apart.work_length E.apart.words

      word_other : (J : Kind) (i : ℕ) → ¬ ((J ≡ K) × (i ≡ n)) → i < most_places
          → get_or w₂ (words_at J (length w₂) + i) 0 ≡ get_or w (words_at J (length w) + i) 0
      word_other J i o a = word_entered J i ∙ ap (λ k. get_or w₁ (words_at J k + i) 0) long
          ∙ noted_other K x n w w₁ N _ (λ q. o (apart J K (length w) i n a (omega arith) q))

      kinds : (J : Kind) → Dec (J ≡ K)
      kinds J = both J K
        where
          both : (J K : Kind) → Dec (J ≡ K)
          both set set = yes refl
          both rel rel = yes refl
          both set rel = no (λ q. let z : ◌≡◌ {A = ℕ} 0 1 = cc in omega arith)
          both rel set = no (λ q. let z : ◌≡◌ {A = ℕ} 0 1 = cc in omega arith)

      words_after : Words w₂ (plain K B m' (n + 1))
      words_after J i a b = elim (kinds J) [
        | yes q ↦ elim (ℕ_discrete i n) [
          | yes r ↦ new J i q r
          | no r ↦ old J i (λ z. r z.1) a b
        ]
        | no q ↦ old J i (λ z. q z.0) a b
      ]
        where
          S' : Store
          S' = plain K B m' (n + 1)

          old : (J : Kind) (i : ℕ) → ¬ ((J ≡ K) × (i ≡ n)) → i < most_places → i < length (nodes J S')
              → Known J S' (handle_of J 0 i) (get_or w₂ (words_at J (length w₂) + i) 0)
          old J i o a b = subst (λ v. Known J S' (handle_of J 0 i) v) (sym (word_other J i o a)) (words_before J i a b)

          noted : Known K S' (handle_of K 0 n) N.word
          noted = N.known more_fields S' (handle_of K 0 n) put_formed words_before (handle_big K 0 n) put_get

          new : (J : Kind) (i : ℕ) → J ≡ K → i ≡ n → Known J S' (handle_of J 0 i) (get_or w₂ (words_at J (length w₂) + i) 0)
          new J i q r = subst (λ J. Known J S' (handle_of J 0 i) (get_or w₂ (words_at J (length w₂) + i) 0)) (sym q)
              (subst (λ i. Known K S' (handle_of K 0 i) (get_or w₂ (words_at K (length w₂) + i) 0)) (sym r)
              (subst (λ v. Known K S' (handle_of K 0 n) v) (sym (word_entered K n))
              (elim (noted_word K x n w w₁ N) [
                | inl z ↦ subst (λ v. Known K S' (handle_of K 0 n) v) (sym z) noted
                | inr z ↦ known_nothing _ z
              ])))

      memo_after : Remembers w₂ (plain K B m' (n + 1))
      memo_after j f =
          let g : 2 * j + 1 < memo_size (length w) = subst (λ k. 2 * j + 1 < memo_size k) (E.apart.work_length ∙ long) f in
          let t : take (memo_size (length w)) w₂ ≡ take (memo_size (length w)) w = subst (λ k. take (memo_size k) w₂ ≡ take (memo_size k) w₁) long
          E.apart.memo
          ∙ noted_memo K x n w w₁ N in
          entry_same w w₂ (plain K B m' (n + 1)) t j g (entry_later _ _ put_extends ((R.live refl).work.memo j g))

      past : (J : Kind) (i : ℕ) → length (nodes J (plain K B m' (n + 1))) ≤ i → ¬ ((J ≡ K) × (i ≡ n))
      past J i a z =
          let e : length (nodes J (plain K B m' (n + 1))) ≡ n + 1
          = subst (λ J. length (nodes J (plain K B m' (n + 1))) ≡ n + 1) (sym z.0) (plain_length K B m' (n + 1)) in
          omega (arith, e, z.1)

      right_after : Right K B w₂ m' (n + 1)
      right_after = let F = (R.live refl).work in record {
        fields = more_fields;
        formed = put_formed;
        memo = memo_after;
        index = E.index (noted_index K x n w w₁ N (indexed_agree (arity K) n m m' w (sym put_head) F.index) (omega arith));
        words = words_after;
        unset = λ J i a b. word_other J i (past J i a) b ∙ F.unset J i (omega (arith, ext_longer J put_extends)) b;
      }

      pub join_new : (h : ℕ) → h ≡ handle_of K (sign y) n → Runs K (mk K y) B (going n) m m' w w₂ (run_state true (n + 1) h)
      unfolding run mk_handle
      join_new h v = record {
        okay = sym ((λ j. leb (ends_more j) (places (arity K) m)) ∙ le-leb _ (places (arity K) m) (omega arith));
        done = λ _. record { store = put_store; value = v ∙ ap (handle_of K (sign y)) (sym not_there.1); work = right_after };
        writes = record {
          grows = omega arith;
          head = put_head;
          rest = ap (drop (arity K * (n + 1))) p ∙ paste_rest (arity K) n m x sized fits;
          most = omega arith;
          long = ap length p ∙ paste_long (arity K) n m x sized fits;
        };
        work_length = E.apart.work_length ∙ long;
      }

-- a place that a search finds is one of the n
pub place_found : (x m w : List ℕ) {n i : ℕ} {r : Option ℕ} → Search x m w n r → r ≡ Some i → i < n
place_found x m w {i = i} F e = ((F false (λ q. absurd (false≢true q))).hit i e).0

-- THE RETURNS of `join`, over every store: with a count that has no places, and the three above
module _ {K : Kind} {n : ℕ} {m w : List ℕ} (y x : List ℕ) where
  pub joins_never : length x ≡ arity K → places (length x) m < n → Joins K y (going n) m m w w (run_state false n 0)
  joins_never z l = record { joins = λ B h R v. absurd (omega (arith, R.room, subst (λ c. places c m < n) z l)) }

  module _ (z : length x ≡ arity K) (e : x ≡ stored K y) {r : Option ℕ} (F : Search x m w n r) where
    pub joins_found : {i : ℕ} → r ≡ Some i → Joins K y (going n) m m w w (run_state true n i)
    joins_found {i} f = let t = (F false (λ q. absurd (false≢true q))).hit i f in record {
      joins = λ B h R v. join_found y x R e i h t.0 (subst (λ c. row c m i ≡ x) z t.1) v;
    }

    no_node : {B : Store} → Ready K (mk K y) B (going n) m w → r ≡ None → (i : ℕ) → i < n → row (arity K) m i ≡ x → ⊥
    no_node R o i l q =
        let f = F true (λ _. subst (λ c. Indexed (row c m) w n) (sym z) (R.live refl).work.index) in
        f.none refl o i l (subst (λ c. row c m i ≡ x) (sym z) q)

    pub joins_full : r ≡ None → places (length x) m ≤ n → Joins K y (going n) m m w w (run_state false n 0)
    joins_full o l = record { joins = λ B h R v. join_full y x R e (no_node R o) h (subst (λ c. places c m ≤ n) z l) }

    pub joins_new : (m' w₁ w₂ : List ℕ) → r ≡ None → n < places (length x) m → m' ≡ paste m (length x * n) x (length x)
        → ((K : Kind) → length x ≡ arity K → Noted K x n w w₁) → Entered (row (length x) m') n w₁ w₂
        → Joins K y (going n) m m' w w₂ (run_state true (n + 1) n)
    joins_new m' w₁ w₂ o l p N E = record {
      joins = λ B h R v. join_new y x R e (no_node R o) m' w₁ w₂ z (subst (λ c. n < places c m) z l) (subst (λ c. m' ≡ paste m (c * n) x c) z p)
          (N K z)
          (subst (λ c. Entered (row c m') n w₁ w₂) z E) h v;
    }
