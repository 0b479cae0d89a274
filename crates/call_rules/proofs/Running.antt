-- A call on checked memories: what its check says of the verdict, and what its program leaves, for the kind K that it adds to.
use mathlib.Core.Path.{◌≡◌, refl, sym, ap, ◌∙◌, subst}
use mathlib.Core.List.{List}
use mathlib.Core.Bool.{Bool, true}
use Prim.Native.Nat.{ℕ, ◌+◌, ◌-◌, ◌*◌, ◌≤◌}
use native.Mathlib.Omega.{arith}
use lib.ListN.{length, take, drop, length-append}
use lib.Seq.{length-take-le}
use lib.Dec.{T}
use borrow.Rule.Slice.PartMut.{put_mid}
use Rattle.model.specs.Store.{Kind, set, rel, arity, Store, nodes}
use Rattle.model.specs.Programs.{Prog, Ran, run}
use Rattle.model.specs.Safety.{Safe}
use Rattle.model.specs.WellFormed.{WellFormed}
use Rattle.memory.specs.Performing.{RunState, going, ended, other, Condition, PerformsOn, OtherNodes, Writes, Runs}
use Rattle.memory.specs.Rows.{rows, places, plain, most_places}
use Rattle.memory.specs.Working.{Right}
use Rattle.memory.proofs.Rows.{places_fit}
use Rattle.call_rules.specs.OnMemories.{on_store}
use Rattle.call_rules.specs.Checking.{Low, ChecksIn, Checks, ChecksBoth, CheckedStore}
use Rattle.call_rules.specs.Finishing.{Ends}
use Rattle.store_check.specs.Commit.{Committed}
use Rattle.store_check.specs.StoreChecking.{kind_last, both, StoreChecked}
use Rattle.store_check.specs.Memory.{Memories, memory, head, count_at, count, fields, body, decode}
use Rattle.call_rules.specs.Outcome.{Verdict, runs, unless_declined, outcome}
use Rattle.store_check.specs.Valid.{IsStore}
use Rattle.call_rules.specs.Outcome.{Check}
use Rattle.std.specs.Prelude.{Option, Some, None, Ok, Err}
use Rattle.call_rules.specs.declared.Refusal.{Refusal}
use Rattle.call_rules.specs.declared.Refusal.TheVariants.{UsedUp}
use Rattle.store_check.proofs.Decide.{store_says}
use Rattle.call_rules.proofs.Outcomes.{with_memory, decoded, given, ran_on}
use Rattle.store_check.proofs.Whole.{whole_part}
use Rattle.call_rules.proofs.Writing.{tail_put}

-- checked memories
pub checked_ready : {M : Memories} {w w' : List ℕ} {last r : Bool} → StoreChecked M last w w' r → r ≡ true → CheckedStore (kind_last last) M w'
checked_ready {M} J t = record { store = (store_says M).iff.0 (subst T (sym t ∙ J.says) tt); right = J.right t }

-- the part after the head, as the code lends it on
abbrev pub part_of : Kind → Memories → List ℕ
part_of K M = take (length (memory K M) - head K) (drop (head K) (memory K M))

-- the first n nodes of that part are the store's own
pub record Here (K : Kind) (M : Memories) (w : List ℕ) (n : ℕ) : Type 0 where
  pub nodes : plain K (decode M) (part_of K M) n ≡ decode M
  pub room : n ≤ places (arity K) (part_of K M)
  pub right : Right K (decode M) w (part_of K M) n

module _ (K : Kind) (M : Memories) (s : IsStore M) (n : ℕ) (en : n ≡ count K (memory K M)) where
  nodes_here : plain K (decode M) (part_of K M) n ≡ decode M
  nodes_here = (λ i. plain K (decode M) (whole_part (head K) (memory K M) i) (en i)) ∙ decoded K M

  room_here : n ≤ places (arity K) (part_of K M)
  room_here = subst (λ b. n ≤ places (arity K) b) (sym (whole_part (head K) (memory K M)))
      (subst (λ n. n ≤ places (arity K) (body K (memory K M))) (sym en) (s.room K).within)

pub ready_here : (K : Kind) (M : Memories) (w : List ℕ) (n : ℕ) → CheckedStore K M w → n ≡ count K (memory K M) → Here K M w n
ready_here K M w n Y en = let e = whole_part (head K) (memory K M) in record {
  nodes = nodes_here K M Y.store n en;
  room = room_here K M Y.store n en;
  right = subst (λ b. Right K (decode M) w b n) (sym e) (subst (λ n. Right K (decode M) w (body K (memory K M)) n) (sym en) Y.right);
}

-- A CHECK that says whether the call is declined
module _ (M : Memories) (s : IsStore M) (check : ℕ → Store → Check) (r : Check) (G : ChecksIn (fields M) (decode M) (check (fields M)) r) where
  module _ {A : Type 0} (refuse : Refusal → A) where
    pub check_no : (v : ℕ → Store → ℕ → Verdict A) (q : Refusal) → r ≡ Err q
        → outcome (refuse q) M ≡ on_store refuse (λ k S. unless_declined refuse (check k S) (v k S)) M
    check_no v q e = given refuse _ M s (refuse q) (ap (λ c. unless_declined refuse c (v (fields M) (decode M))) (G.says ∙ e))

    pub check_passed : (v : ℕ → Verdict A) (l : ℕ) → r ≡ Ok l → unless_declined refuse (check (fields M) (decode M)) v ≡ v l
    check_passed v l e = ap (λ c. unless_declined refuse c v) (G.says ∙ e)

  pub check_low : (l : ℕ) → r ≡ Ok l → l ≤ 32
  check_low l e = let h = subst (Low (fields M)) e G.low in let f = s.few in omega arith

pub checked_here : {M : Memories} {n : ℕ} {check : Store → Check} {r : Check} (K : Kind) (s : IsStore M)
    → n ≡ count K (memory K M) → Checks K (part_of K M) n (fields M) check r → ChecksIn (fields M) (decode M) check r
checked_here {M} {n} {check} {r} K s en C = let e = nodes_here K M s n en in record {
  says = subst (λ S. check S ≡ r) e (C.says (decode M) (room_here K M s n en) (subst (WellFormed (fields M)) (sym e) s.formed));
  low = C.low;
}

nodes_are : (M : Memories) (K : Kind) → nodes K (decode M) ≡ rows (arity K) (count K (memory K M)) (body K (memory K M))
unfolding decode
nodes_are M set = refl
nodes_are M rel = refl

-- BOTH KINDS: the nodes in the two parts are the store's own
module _ (M : Memories) (s : IsStore M) where
  pub other_here : (K : Kind) (j : ℕ) → j ≡ count (other K) (memory (other K) M) → OtherNodes K (part_of (other K) M) j (decode M)
  other_here K j e = let L = other K in let q = whole_part (head L) (memory L M) in record {
    read = nodes_are M L ∙ sym (λ i. rows (arity L) (e i) (q i));
    within = room_here L M s j e;
  }

  pub both_here : {check : Store → Check} {r : Check} {n j : ℕ} → n ≡ count rel M.relations → j ≡ count set M.sets
      → ChecksBoth (part_of rel M) n (part_of set M) j (fields M) check r → ChecksIn (fields M) (decode M) check r
  both_here {check} {r} {n} {j} en ej C =
      let a = other_here set n en in
      let b = other_here rel j ej in
      let e : both rel (part_of rel M) n (part_of set M) j ≡ decode M = λ i. record { sets = sym b.read i; rels = sym a.read i } in
      subst (λ S. ChecksIn (fields M) S check r) e (C.checks a.within b.within (subst (WellFormed (fields M)) (sym e) s.formed))

-- a run ends with this count, whatever it gave
ended_count : (n : ℕ) (r : Option ℕ) → (ended n r).n ≡ n
ended_count n (Some h) = refl
ended_count n None = refl

-- A PROGRAM of the kind K
module _ (K : Kind) (M : Memories) (w : List ℕ) (Y : CheckedStore K M w) (n : ℕ) (en : n ≡ count K (memory K M)) where
  abbrev m : List ℕ
  m = memory K M

  abbrev part : List ℕ
  part = part_of K M

  H : Here K M w n
  H = ready_here K M w n Y en

  module _ {Q : Condition} (on : Q (decode M)) (p q : Prog) (b w' : List ℕ) (end : ℕ) (made : Option ℕ) (eq : q ≡ p) (s : Safe p (decode M))
      (P : PerformsOn Q K q (going n) part b w w' (ended end made)) where
    abbrev r : RunState
    r = ended end made

    pub runs_here : Runs K p (decode M) (going (count K m)) (body K m) b w w' r
    runs_here =
        subst (λ n. Runs K p (decode M) (going n) (body K m) b w w' r) en
        (subst (λ x. Runs K p (decode M) (going n) x b w w' r) (whole_part (head K) m)
        (subst (λ p. Runs K p (decode M) (going n) part b w w' r) eq (P.runs (decode M) on (record {
          room = H.room;
          live = λ _. record { safe = subst (Safe q) (sym H.nodes) (subst (λ p. Safe p (decode M)) (sym eq) s); work = H.right };
        }))))

    -- what the program wrote is within the memory
    pub within_memory : (n ≤ end) × (end ≤ most_places) × (head K + arity K * end ≤ length (put_mid (head K) (length m - head K) m b))
    within_memory =
        let W = subst (λ e. Writes (arity K) (count K m) (body K m) b e) (ended_count end made) runs_here.writes in
        let l : length (put_mid (head K) (length m - head K) m b) ≡ head K + length b
        = ap length (tail_put (head K) m b) ∙ length-append (take (head K) m) b
        ∙ ap (λ h. h + length b) (length-take-le (head K) m (Y.store.room K).headed) in (
          subst (λ n. n ≤ end) (sym en) W.grows,
          omega (arith, W.most),
          omega (arith, l, W.long, places_fit (arity K) (body K m) end W.most),
        )

    pub ran_here : {A : Type 0} (refuse : Refusal → A) (v : ℕ → Store → Verdict A) (f : Ran → A) (m' : List ℕ) (a : A) → v (fields M) (decode M) ≡ runs p f
        → Committed (put_mid (head K) (length m - head K) m b) m' (count_at K) (head K) (arity K) n r
        → Ends K (decode M) r (run p (decode M)) f (refuse UsedUp) a
        → outcome a (with_memory K m' M) ≡ on_store refuse v M
    ran_here refuse v f m' a e C E =
        ran_on refuse v M Y.store K p f (put_mid (head K) (length m - head K) m b) m' b w w' r a e runs_here (tail_put (head K) m b)
        (subst (λ n. Committed (put_mid (head K) (length m - head K) m b) m' (count_at K) (head K) (arity K) n r) en C) E
