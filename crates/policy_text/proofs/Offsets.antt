-- Where a text is refused: up to there it can be completed, and one byte further it cannot.
use mathlib.Core.Path.{◌≡◌, refl, sym, ap, subst, ◌∙◌}
use Prim.Native.Nat.{ℕ, suc, ◌+◌, ◌≤◌, ◌<◌}
use native.Mathlib.Omega.{arith}
use mathlib.Core.List.{List, [], ◌∷◌, ◌++◌, append_assoc}
use mathlib.Core.Bool.{Bool, true, false, cond}
use lib.ListN.{length, take, length-append}
use lib.Seq.{take_at}
use lib.Dec.{eqb, ltb}
use borrow.Author.Tests.{ltb-true, lt-ltb}
use mathlib.Core.Logic.{inl}
use Rattle.model.specs.Policies.{Policy}
use Rattle.policy_text.specs.Lexicon.{Whole, unspelt, field, Lexicon, Lawful}
use Rattle.policy_text.specs.Grammar.{Completable, NotPolicy, TooDeep}
use Rattle.policy_text.specs.Machine.{Acc, nothing, Left, opening, Frame, paren, Mid, spelt, colon, bit, State, need, inside, post, MidStep, more, whole}
use Rattle.policy_text.specs.Machine.{not_mid, ByteStep, go, stop, over, Out, accept, bad, deep, negs, join_seq, join_term, nesting, leaf}
use Rattle.policy_text.specs.Machine.{does_mix, after_name, mid_step, mid_go, close, byte_step, final, onward, scan, start, reads}
use Rattle.policy_text.proofs.Sound.{sound_at, bad≢accept, deep≢accept}
use Rattle.policy_text.proofs.Spellings.{whole_begins, not_before}
use Rattle.policy_text.proofs.Complete.{scan_cons, adv_spelt, complete_at}

module _ {X : Lexicon} (laws : Lawful X) where
  -- From every state the text can be completed.
  closing : List Frame → List ℕ
  closing [] = []
  closing (f ∷ σ) = 41 ∷ closing σ

  closes : (σ : List Frame) (L at : ℕ) (v : Policy) (sa : Left) (pa : Acc) → (p : Policy) × (scan X L (post v sa pa σ) at (closing σ) ≡ accept p)
  unfolding closing scan final byte_step close onward
  closes [] L at v sa pa = (join_term sa (join_seq pa v), refl)
  closes (paren sb pb n ∷ σ) L at v sa pa = closes σ L (at + 1) (negs n (join_term sa (join_seq pa v))) sb pb

  -- a state inside a test or an assignment, where the bytes read so far begin a spelling
  abbrev Spelling : Mid → Type 0
  Spelling (spelt s) = X.does_begin s ≡ true
  Spelling (colon n) = Unit {0}
  Spelling (bit k n) = Unit {0}

  abbrev Begun : State → Type 0
  Begun (need sa pa n σ) = Unit {0}
  Begun (inside m sa pa n σ) = Spelling m
  Begun (post v sa pa σ) = Unit {0}

  record Finishes (q : State) : Type 0 where
    rest : List ℕ
    accepts : (L at : ℕ) → (p : Policy) × (scan X L q at rest ≡ accept p)

  finishes : (q : State) → Begun q → Finishes q
  unfolding scan onward byte_step mid_step mid_go after_name
  finishes (need sa pa n σ) g = record { rest = 48 ∷ closing σ; accepts = λ L at. closes σ L (at + 1) (negs n Policy.fail) sa pa }
  finishes (inside (spelt s) sa pa n σ) g =
      let w = laws.begun s g in
      let u = w.0 in record {
        rest = u ++ (61 ∷ 48 ∷ closing σ);
        accepts = λ L at.
            let a = adv_spelt laws L sa pa n σ s u at (61 ∷ 48 ∷ closing σ) (whole_begins laws (s ++ u) w.1 w.2) in
            let z = closes σ L (a.0 + 1 + 1) (negs n (leaf false w.1 false)) sa pa in (
              z.0,
              a.1 ∙ scan_cons laws L (inside (spelt (s ++ u)) sa pa n σ) (inside (bit false w.1) sa pa n σ) a.0 61 (48 ∷ closing σ)
                  (simp (not_before laws (s ++ u) 61 (inl refl), laws.whole (s ++ u) w.1 w.2)) ∙ z.1,
            );
      }
  finishes (inside (colon k) sa pa n σ) g = record { rest = 61 ∷ 48 ∷ closing σ; accepts = λ L at. closes σ L (at + 1 + 1) (negs n (leaf true k false)) sa pa }
  finishes (inside (bit b k) sa pa n σ) g = record { rest = 48 ∷ closing σ; accepts = λ L at. closes σ L (at + 1) (negs n (leaf b k false)) sa pa }
  finishes (post v sa pa σ) g = record { rest = closing σ; accepts = λ L at. closes σ L at v sa pa }

  -- A higher limit changes only what was over the limit.
  abbrev Keeps : ByteStep → ByteStep → Type 0
  Keeps (go q) y = y ≡ go q
  Keeps stop y = y ≡ stop
  Keeps over y = Unit {0}

  keeps_refl : (x : ByteStep) → Keeps x x
  keeps_refl (go q) = refl
  keeps_refl stop = refl
  keeps_refl over = tt

  by_both : (P : ByteStep → ByteStep → Type 0) (c : Bool) {x x' y y' : ByteStep} → P x x' → P y y' → P (cond c x y) (cond c x' y')
  by_both P true h k = h
  by_both P false h k = k

  by_limit : (n L K : ℕ) (x : ByteStep) → L ≤ K → Keeps (cond (ltb n L) x over) (cond (ltb n K) x over)
  by_limit n L K x h = by (ltb n L) refl
    where
      by : (c : Bool) → ltb n L ≡ c → Keeps (cond c x over) (cond (ltb n K) x over)
      by true e = let l = ltb-true n L e in rw (lt-ltb n K (omega arith)) (keeps_refl x)
      by false e = tt

  keeps : (L K : ℕ) (q : State) (b : ℕ) → L ≤ K → Keeps (byte_step X L q b) (byte_step X K q b)
  unfolding byte_step
  keeps L K (need sa pa n σ) b h =
      by_both Keeps (eqb b 48) (keeps_refl (go (post (negs n Policy.fail) sa pa σ)))
      (by_both Keeps (eqb b 49) (keeps_refl (go (post (negs n Policy.skip) sa pa σ)))
      (by_both Keeps (eqb b 84) (keeps_refl (go (post (negs n Policy.full) sa pa σ)))
      (by_both Keeps (eqb b 33) (by_limit (n + nesting σ) L K (go (need sa pa (suc n) σ)) h)
      (by_both Keeps (eqb b 40) (by_limit (n + nesting σ) L K (go (need (opening nothing) nothing 0 (paren sa pa n ∷ σ))) h)
      (keeps_refl (cond (X.does_begin (b ∷ [])) (go (inside (spelt (b ∷ [])) sa pa n σ)) stop))))))
  keeps L K (inside m sa pa n σ) b h = keeps_refl (mid_go (mid_step X m b) sa pa n σ)
  keeps L K (post v sa pa σ) b h = keeps_refl (byte_step X L (post v sa pa σ) b)

  -- The depth of a state that a scan reaches is within the limit, and what is read of a spelling begins one.
  abbrev Within : ℕ → State → Type 0
  Within L (need sa pa n σ) = n + nesting σ ≤ L
  Within L (inside m sa pa n σ) = (n + nesting σ ≤ L) × Spelling m
  Within L (post v sa pa σ) = nesting σ ≤ L

  abbrev Stays : ℕ → ByteStep → Type 0
  Stays L (go q) = Within L q
  Stays L stop = Unit {0}
  Stays L over = Unit {0}

  stays_if : (P : ByteStep → Type 0) (c : Bool) {x y : ByteStep} → (c ≡ true → P x) → P y → P (cond c x y)
  stays_if P true h k = h refl
  stays_if P false h k = k

  -- what a byte inside a test or an assignment leaves
  abbrev MidStays : MidStep → Type 0
  MidStays (more m) = Spelling m
  MidStays (whole p) = Unit {0}
  MidStays not_mid = Unit {0}

  mid_if : (P : MidStep → Type 0) (c : Bool) {x y : MidStep} → (c ≡ true → P x) → P y → P (cond c x y)
  mid_if P true h k = h refl
  mid_if P false h k = k

  mid_name : (x : Whole) (b : ℕ) → MidStays (after_name x b)
  unfolding after_name
  mid_name unspelt b = tt
  mid_name (field n) b = mid_if MidStays (eqb b 61) (λ _. tt) (mid_if MidStays (eqb b 58) (λ _. tt) tt)

  mid_stays : (m : Mid) (b : ℕ) → MidStays (mid_step X m b)
  unfolding mid_step
  mid_stays (spelt s) b = mid_if MidStays (X.does_begin (s ++ (b ∷ []))) (λ h. h) (mid_name (X.is_whole s) b)
  mid_stays (colon n) b = mid_if MidStays (eqb b 61) (λ _. tt) tt
  mid_stays (bit k n) b = mid_if MidStays (eqb b 48) (λ _. tt) (mid_if MidStays (eqb b 49) (λ _. tt) tt)

  stays_mid : (L : ℕ) (k : MidStep) (sa : Left) (pa : Acc) (n : ℕ) (σ : List Frame) → n + nesting σ ≤ L → MidStays k → Stays L (mid_go k sa pa n σ)
  unfolding mid_go
  stays_mid L (more m) sa pa n σ h g = (h, g)
  stays_mid L (whole p) sa pa n σ h g = omega arith
  stays_mid L not_mid sa pa n σ h g = tt

  stays_close : (L : ℕ) (v : Policy) (sa : Left) (pa : Acc) (σ : List Frame) → nesting σ ≤ L → Stays L (close v sa pa σ)
  unfolding close nesting
  stays_close L v sa pa [] h = tt
  stays_close L v sa pa (paren sb pb n ∷ σ) h = omega arith

  stays : (L : ℕ) (q : State) (b : ℕ) → Within L q → Stays L (byte_step X L q b)
  unfolding byte_step nesting
  stays L (need sa pa n σ) b h =
      stays_if (Stays L) (eqb b 48) (λ _. omega arith)
      (stays_if (Stays L) (eqb b 49) (λ _. omega arith)
      (stays_if (Stays L) (eqb b 84) (λ _. omega arith)
      (stays_if (Stays L) (eqb b 33) (λ _. stays_if (Stays L) (ltb (n + nesting σ) L) (λ e. let l = ltb-true (n + nesting σ) L e in omega arith) tt)
      (stays_if (Stays L) (eqb b 40) (λ _. stays_if (Stays L) (ltb (n + nesting σ) L) (λ e. let l = ltb-true (n + nesting σ) L e in omega arith) tt)
      (stays_if (Stays L) (X.does_begin (b ∷ [])) (λ e. (h, e)) tt)))))
  stays L (inside m sa pa n σ) b h = stays_mid L (mid_step X m b) sa pa n σ h.0 (mid_stays m b)
  stays L (post v sa pa σ) b h =
      stays_if (Stays L) (eqb b 42) (λ _. h) (stays_if (Stays L) (eqb b 59) (λ _. omega arith)
      (stays_if (Stays L) (does_mix b) (λ _. omega arith) (stays_if (Stays L) (eqb b 43) (λ _. omega arith)
      (stays_if (Stays L) (eqb b 41) (λ _. stays_close L v sa pa σ h) tt))))

  -- Where a run is refused: the text before that place, the state there, and what follows.
  abbrev halt : Bool → ℕ → Out
  halt true i = bad i
  halt false i = deep i

  abbrev Ends : ℕ → Bool → State → ℕ → List ℕ → Type 0
  Ends L true q i [] = final q i ≡ bad i
  Ends L true q i (b ∷ s) = byte_step X L q b ≡ stop
  Ends L false q i [] = ⊥
  Ends L false q i (b ∷ s) = byte_step X L q b ≡ over

  record Reached (L : ℕ) (k : Bool) (q : State) (at : ℕ) (s : List ℕ) (i : ℕ) : Type 0 where
    front : List ℕ
    back : List ℕ
    state : State
    split : s ≡ front ++ back
    offset : i ≡ at + length front
    runs : (K : ℕ) → L ≤ K → (w : List ℕ) → scan X K q at (front ++ w) ≡ scan X K state i w
    within : Within L state
    ends : Ends L k state i back

  halt_same : (k : Bool) (i j : ℕ) → halt k i ≡ halt k j → i ≡ j
  halt_same true i j e = cc
  halt_same false i j e = cc

  bad≢deep : {i j : ℕ} → bad i ≡ deep j → ⊥
  bad≢deep e = let z : ◌≡◌ {A = ℕ} 0 1 = cc in omega arith

  here : (L : ℕ) (k : Bool) (q : State) (at : ℕ) (s : List ℕ) (i : ℕ) → Within L q → at ≡ i → Ends L k q i s → Reached L k q at s i
  here L k q at s i w e h = record {
    front = [];
    back = s;
    state = q;
    split = refl;
    offset = omega arith;
    runs = (λ K l r. ap (λ (a : ℕ). scan X K q a r) e);
    within = w;
    ends = h;
  }

  final_bad : (q : State) (at i : ℕ) → final q at ≡ bad i → at ≡ i
  unfolding final
  final_bad (need sa pa n σ) at i e = halt_same true at i e
  final_bad (inside m sa pa n σ) at i e = halt_same true at i e
  final_bad (post v sa pa []) at i e = absurd (bad≢accept (sym e))
  final_bad (post v sa pa (f ∷ σ)) at i e = halt_same true at i e

  final_deep : (q : State) (at i : ℕ) → final q at ≡ deep i → ⊥
  unfolding final
  final_deep (need sa pa n σ) at i e = bad≢deep e
  final_deep (inside m sa pa n σ) at i e = bad≢deep e
  final_deep (post v sa pa []) at i e = deep≢accept (sym e)
  final_deep (post v sa pa (f ∷ σ)) at i e = bad≢deep e

  reached_end : (L : ℕ) (k : Bool) (q : State) (at i : ℕ) → Within L q → final q at ≡ halt k i → Reached L k q at [] i
  reached_end L true q at i w e = let h = final_bad q at i e in here L true q at [] i w h (ap (final q) (sym h) ∙ e)
  reached_end L false q at i w e = absurd (final_deep q at i e)

  further : (L : ℕ) (k : Bool) (q q' : State) (at b : ℕ) (s : List ℕ) (i : ℕ) → byte_step X L q b ≡ go q' → Reached L k q' (at + 1) s i
      → Reached L k q at (b ∷ s) i
  further L k q q' at b s i e R = record {
    front = b ∷ R.front;
    back = R.back;
    state = R.state;
    split = ap {B = List ℕ} (λ (r : List ℕ). b ∷ r) R.split;
    offset = omega (arith, R.offset);
    runs = (λ K l w. scan_cons laws K q q' at b (R.front ++ w) (go_keeps (byte_step X L q b) e (keeps L K q b l)) ∙ R.runs K l w);
    within = R.within;
    ends = R.ends;
  }
    where
      go_keeps : {y : ByteStep} (x : ByteStep) → x ≡ go q' → Keeps x y → y ≡ go q'
      go_keeps (go r) h c = c ∙ h
      go_keeps stop h c = c ∙ h
      go_keeps over h c = absurd (let z : ◌≡◌ {A = ℕ} 0 1 = cc in omega arith)

  reached : (L : ℕ) (k : Bool) (s : List ℕ) (q : State) (at i : ℕ) → Within L q → scan X L q at s ≡ halt k i → Reached L k q at s i
  unfolding scan onward
  reached L k [] q at i w e = reached_end L k q at i w e
  reached L k (b ∷ s) q at i w e = by k (byte_step X L q b) refl (stays L q b w) (λ q' w' e'. reached L k s q' (at + 1) i w' e') e
    where
      by : (k : Bool) (x : ByteStep) → byte_step X L q b ≡ x → Stays L x
          → ((q' : State) → Within L q' → scan X L q' (at + 1) s ≡ halt k i → Reached L k q' (at + 1) s i)
          → onward x (λ z. scan X L z (at + 1) s) at ≡ halt k i → Reached L k q at (b ∷ s) i
      by k (go q') h st f e = further L k q q' at b s i h (f q' st e)
      by true stop h st f e = here L true q at (b ∷ s) i w (halt_same true at i e) h
      by false stop h st f e = absurd (bad≢deep e)
      by true over h st f e = absurd (bad≢deep (sym e))
      by false over h st f e = here L false q at (b ∷ s) i w (halt_same false at i e) h

  take_front : (s front back : List ℕ) (i : ℕ) → s ≡ front ++ back → i ≡ 0 + length front → take i s ≡ front
  take_front s front back i e h = ap (λ (x : List ℕ). take i x) e ∙ take_at front back i (omega arith)

  take_next : (s front back : List ℕ) (b i : ℕ) → s ≡ front ++ (b ∷ back) → i ≡ 0 + length front → take (suc i) s ≡ front ++ (b ∷ [])
  take_next s front back b i e h = ap (λ (x : List ℕ). take (suc i) x) (e ∙ sym (append_assoc front (b ∷ []) back)) ∙ take_at (front ++ (b ∷ [])) back (suc i)
      (simp length-append (omega arith))

  within_begun : (L : ℕ) (q : State) → Within L q → Begun q
  within_begun L (need sa pa n σ) h = tt
  within_begun L (inside m sa pa n σ) h = h.1
  within_begun L (post v sa pa σ) h = tt

  start_within : (L : ℕ) → Within L start
  unfolding nesting
  start_within L = omega arith

  module _ (t : List ℕ) (i : ℕ) where
    front_extends : (K : ℕ) (k : Bool) → 32 ≤ K → Reached 32 k start 0 t i → Completable X K (take i t)
    unfolding Completable
    front_extends K k l R =
        let F = finishes R.state (within_begun 32 R.state R.within) in
        let f = F.accepts K i in (
          F.rest,
          f.0,
          rw (take_front t R.front R.back i R.split R.offset)
              (sound_at laws K (R.front ++ F.rest) f.0 (R.runs K l F.rest ∙ f.1)),
        )

    -- what a byte does at the place, at a higher limit, and so what the text up to that byte does
    next_runs : (K : ℕ) (k : Bool) (b : ℕ) (back : List ℕ) → 32 ≤ K → (R : Reached 32 k start 0 t i) → R.back ≡ b ∷ back → (w : List ℕ)
        → scan X K start 0 (take (suc i) t ++ w) ≡ onward (byte_step X K R.state b) (λ z. scan X K z (i + 1) w) i
    unfolding scan
    next_runs K k b back l R e w =
        ap (λ (x : List ℕ). scan X K start 0 (x ++ w)) (take_next t R.front back b i (R.split ∙ ap (λ (x : List ℕ). R.front ++ x) e) R.offset)
        ∙ ap (λ (x : List ℕ). scan X K start 0 x) (append_assoc R.front (b ∷ []) w)
        ∙ R.runs K l (b ∷ w)

  stop_keeps : (K : ℕ) (q : State) (b : ℕ) → 32 ≤ K → byte_step X 32 q b ≡ stop → byte_step X K q b ≡ stop
  stop_keeps K q b l e = by (byte_step X 32 q b) e (keeps 32 K q b l)
    where
      by : {y : ByteStep} (x : ByteStep) → x ≡ stop → Keeps x y → y ≡ stop
      by (go r) h c = c ∙ h
      by stop h c = c
      by over h c = absurd (let z : ◌≡◌ {A = ℕ} 0 1 = cc in omega arith)

  -- a `(` or `!` over the limit of 32 is within that of 33
  abbrev Lifts : ByteStep → ByteStep → Type 0
  Lifts x y = x ≡ over → (q : State) × (y ≡ go q) × Begun q

  never_over : (q : State) (y : ByteStep) → Lifts (go q) y
  never_over q y e = absurd (let z : ◌≡◌ {A = ℕ} 0 1 = cc in omega arith)

  never_stop : (y : ByteStep) → Lifts stop y
  never_stop y e = absurd (let z : ◌≡◌ {A = ℕ} 0 1 = cc in omega arith)

  lifts_limit : (n : ℕ) (q : State) → Begun q → n ≤ 32 → Lifts (cond (ltb n 32) (go q) over) (cond (ltb n 33) (go q) over)
  lifts_limit n q g h e = (q, simp (lt-ltb n 33 (omega arith)), g)

  lifts_mid : (k : MidStep) (sa : Left) (pa : Acc) (n : ℕ) (σ : List Frame) → Lifts (mid_go k sa pa n σ) (mid_go k sa pa n σ)
  unfolding mid_go
  lifts_mid (more m) sa pa n σ = never_over _ _
  lifts_mid (whole p) sa pa n σ = never_over _ _
  lifts_mid not_mid sa pa n σ = never_stop _

  lifts_close : (v : Policy) (sa : Left) (pa : Acc) (σ : List Frame) → Lifts (close v sa pa σ) (close v sa pa σ)
  unfolding close
  lifts_close v sa pa [] = never_stop _
  lifts_close v sa pa (paren sb pb n ∷ σ) = never_over _ _

  lifts : (q : State) (b : ℕ) → Within 32 q → Lifts (byte_step X 32 q b) (byte_step X 33 q b)
  unfolding byte_step
  lifts (need sa pa n σ) b h =
      by_both Lifts (eqb b 48) (never_over _ _)
      (by_both Lifts (eqb b 49) (never_over _ _)
      (by_both Lifts (eqb b 84) (never_over _ _)
      (by_both Lifts (eqb b 33) (lifts_limit (n + nesting σ) (need sa pa (suc n) σ) tt h)
      (by_both Lifts (eqb b 40) (lifts_limit (n + nesting σ) (need (opening nothing) nothing 0 (paren sa pa n ∷ σ)) tt h)
      (by_both Lifts (X.does_begin (b ∷ [])) (never_over _ _) (never_stop _))))))
  lifts (inside m sa pa n σ) b h = lifts_mid (mid_step X m b) sa pa n σ
  lifts (post v sa pa σ) b h =
      by_both Lifts (eqb b 42) (never_over _ _) (by_both Lifts (eqb b 59) (never_over _ _)
      (by_both Lifts (does_mix b) (never_over _ _) (by_both Lifts (eqb b 43) (never_over _ _)
      (by_both Lifts (eqb b 41) (lifts_close v sa pa σ) (never_stop _)))))

  module _ (t : List ℕ) (i : ℕ) where
    place_in : (k : Bool) (R : Reached 32 k start 0 t i) → length t ≡ i + length R.back
    place_in k R = ap length R.split ∙ length-append R.front R.back ∙ ap (λ (x : ℕ). x + length R.back) (sym (omega (arith, R.offset)))

    -- at the place is a byte that stops the scan at every limit
    stops_there : (R : Reached 32 true start 0 t i) (K : ℕ) → 32 ≤ K → (back : List ℕ) → R.back ≡ back → i < length t → (w : List ℕ)
        → scan X K start 0 (take (suc i) t ++ w) ≡ bad i
    unfolding onward
    stops_there R K l [] e h w = absurd (omega (arith, place_in true R, ap length e))
    stops_there R K l (b ∷ back) e h w =
        next_runs t i K true b back l R e w
        ∙ ap (λ (x : ByteStep). onward x (λ z. scan X K z (i + 1) w) i)
        (stop_keeps K R.state b l (subst (λ (x : List ℕ). Ends 32 true R.state i x) e R.ends))

    whole_stops : (R : Reached 32 true start 0 t i) (K : ℕ) → 32 ≤ K → (back : List ℕ) → R.back ≡ back → scan X K R.state i back ≡ bad i
    unfolding scan onward
    whole_stops R K l [] e = subst (λ (x : List ℕ). Ends 32 true R.state i x) e R.ends
    whole_stops R K l (b ∷ back) e = ap (λ (x : ByteStep). onward x (λ z. scan X K z (i + 1) back) i)
        (stop_keeps K R.state b l (subst (λ (x : List ℕ). Ends 32 true R.state i x) e R.ends))

    -- refusal 7, not a policy
    pub not_policy : reads X t ≡ bad i → NotPolicy X t i
    unfolding Completable reads
    not_policy e =
        let R : Reached 32 true start 0 t i = reached 32 true t start 0 i (start_within 32) e in
        record {
          inside = omega (arith, place_in true R);
          before = front_extends t i 32 true (omega arith) R;
          cannot = (λ l d x. bad≢accept (sym (stops_there R (d + 32) (omega arith) R.back refl l x.0) ∙ complete_at laws (d + 32) (omega arith) x.2));
          not_whole = (λ d p x. bad≢accept (sym (ap (λ (z : List ℕ). scan X (d + 32) start 0 z) R.split ∙ R.runs (d + 32) (omega arith) R.back
              ∙ whole_stops R (d + 32) (omega arith) R.back refl) ∙ complete_at laws (d + 32) (omega arith) x));
        }

    over_there : (R : Reached 32 false start 0 t i) (back : List ℕ) → R.back ≡ back → TooDeep X t i
    unfolding Completable onward
    over_there R [] e = absurd (subst (λ (x : List ℕ). Ends 32 false R.state i x) e R.ends)
    over_there R (b ∷ back) e =
        let h : byte_step X 32 R.state b ≡ over = subst (λ (x : List ℕ). Ends 32 false R.state i x) e R.ends in
        let q = lifts R.state b R.within h in
        let F = finishes q.0 q.2 in
        let f = F.accepts 33 (i + 1) in
        record {
          inside = omega (arith, place_in false R, ap length e);
          before = front_extends t i 32 false (omega arith) R;
          cannot = (λ x. deep≢accept (sym (next_runs t i 32 false b back (omega arith) R e x.0
              ∙ ap (λ (z : ByteStep). onward z (λ z. scan X 32 z (i + 1) x.0) i) h) ∙ complete_at laws 32 (omega arith) x.2));
          deeper = (
            F.rest,
            f.0,
            sound_at laws 33 (take (suc i) t ++ F.rest) f.0
                (next_runs t i 33 false b back (omega arith) R e F.rest ∙ ap (λ (z : ByteStep). onward z (λ z. scan X 33 z (i + 1) F.rest) i) q.1
                ∙ f.1),
          );
        }

    -- refusal 9, nested too deep
    pub too_deep : reads X t ≡ deep i → TooDeep X t i
    unfolding reads
    too_deep e = let R : Reached 32 false start 0 t i = reached 32 false t start 0 i (start_within 32) e in over_there R R.back refl
