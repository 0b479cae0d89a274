-- What the reader accepts follows the grammar. With each state goes what the bytes read so far are.
use mathlib.Core.Path.{◌≡◌, refl, sym, ◌∙◌}
use Prim.Native.Nat.{ℕ, zero, suc, ◌+◌, ◌-◌, ◌≤◌, ◌<◌}
use native.Mathlib.Omega.{arith}
use native.Mathlib.Nat.{lt_of_lt_of_le, lt-suc_self}
use mathlib.Core.List.{List, [], ◌∷◌, ◌++◌, append_assoc, append-nil}
use mathlib.Core.Bool.{Bool, true, false, cond}
use lib.Dec.{eqb, ltb}
use borrow.Author.Tests.{eqb-true, ltb-true}
use Rattle.model.specs.Policies.{Mix, Policy}
use Rattle.policy_text.specs.Lexicon.{Whole, unspelt, field, Lexicon, Lawful}
use Rattle.policy_text.specs.Grammar.{Bit, b_zero, b_one, MixSign, Atom, a_zero, a_one, a_full, a_test, a_assign}
use Rattle.policy_text.specs.Grammar.{a_neg, a_paren, Starred, s_atom, s_star, Product, p_one, p_seq, Term, t_one, t_mix, Sum, u_one, u_plus}
use Rattle.policy_text.specs.Machine.{Acc, nothing, sofar, Left, opening, joining, Frame, paren, Mid, spelt, colon, bit, State, need, inside, post}
use Rattle.policy_text.specs.Machine.{MidStep, more, whole, not_mid, ByteStep, go, stop, over, accept, bad, deep, negs, join_seq, join_plus}
use Rattle.policy_text.specs.Machine.{sum_before, join_mix, join_term, after_name, mid_step, mid_go, close, byte_step, final, onward, scan, start, reads}
use Rattle.policy_text.specs.Machine.{nesting, leaf, does_mix}
use Rattle.policy_text.proofs.MixSigns.{sign_of}

pub bad≢accept : {i : ℕ} {p : Policy} → bad i ≡ accept p → ⊥
bad≢accept e = let z : ◌≡◌ {A = ℕ} 0 1 = cc in omega arith

pub deep≢accept : {i : ℕ} {p : Policy} → deep i ≡ accept p → ⊥
deep≢accept e = let z : ◌≡◌ {A = ℕ} 0 1 = cc in omega arith

pub accept_same : {p q : Policy} → accept p ≡ accept q → p ≡ q
accept_same e = cc

module _ {X : Lexicon} (laws : Lawful X) where
  -- n `!`
  bangs : ℕ → List ℕ
  bangs zero = []
  bangs (suc n) = bangs n ++ (33 ∷ [])

  -- the left operand of a `;`, with the `;`
  data SeqL (d : ℕ) : List ℕ → Acc → Type 0 where
    seq_none : SeqL d [] nothing
    seq_some : {s : List ℕ} {p : Policy} → Product X d s p → SeqL d (s ++ (59 ∷ [])) (sofar p)

  -- the left operand of a `+`, with the `+`
  data PlusL (d : ℕ) : List ℕ → Acc → Type 0 where
    plus_none : PlusL d [] nothing
    plus_some : {s : List ℕ} {p : Policy} → Sum X d s p → PlusL d (s ++ (43 ∷ [])) (sofar p)

  -- what stands before a product: the sum, with its `+`, and what a sign joins the product to, with the sign
  data LeftL (d : ℕ) : List ℕ → Left → Type 0 where
    left_opening : {x : List ℕ} {sa : Acc} → PlusL d x sa → LeftL d x (opening sa)
    left_joining : {c : ℕ} {x y : List ℕ} {m : Mix} {sa : Acc} {p : Policy} → MixSign c m → PlusL d x sa → Term X d y p
        → LeftL d (x ++ (y ++ (c ∷ []))) (joining sa m p)

  -- what is before a level that has d left, with the `(` that opens it
  data Stack (L : ℕ) : ℕ → List ℕ → List Frame → Type 0 where
    stack_none : Stack L L [] []
    stack_paren : {d e n : ℕ} {s x y : List ℕ} {sa : Left} {pa : Acc} {σ : List Frame} → Stack L d s σ → LeftL d x sa → SeqL d y pa → suc (n + e) ≡ d
        → Stack L e (s ++ (x ++ (y ++ (bangs n ++ (40 ∷ []))))) (paren sa pa n ∷ σ)

  -- what was read of a test or an assignment
  data MidText : List ℕ → Mid → Type 0 where
    t_spelt : {s : List ℕ} → MidText s (spelt s)
    t_colon : {n : ℕ} {s : List ℕ} → X.Spells s n → MidText (s ++ (58 ∷ [])) (colon n)
    t_test : {n : ℕ} {s : List ℕ} → X.Spells s n → MidText (s ++ (61 ∷ [])) (bit false n)
    t_assign : {n : ℕ} {s : List ℕ} → X.Spells s n → MidText (s ++ (58 ∷ 61 ∷ [])) (bit true n)

  -- the bytes before the present operand, at a level that has d left
  record Before (L d : ℕ) (sa : Left) (pa : Acc) (σ : List Frame) : Type 0 where
    s : List ℕ
    x : List ℕ
    y : List ℕ
    stack : Stack L d s σ
    left : LeftL d x sa
    seq : SeqL d y pa

  abbrev all : {L d : ℕ} {sa : Left} {pa : Acc} {σ : List Frame} → Before L d sa pa σ → List ℕ → List ℕ
  all b w = b.s ++ (b.x ++ (b.y ++ w))

  abbrev Inv : ℕ → State → List ℕ → Type 0
  Inv L (need sa pa n σ) r = (d : ℕ) × (b : Before L d sa pa σ) × (n ≤ d) × (r ≡ all b (bangs n))
  Inv L (inside m sa pa n σ) r = (d : ℕ) × (b : Before L d sa pa σ) × (n ≤ d) × (w : List ℕ) × (MidText w m) × (r ≡ all b (bangs n ++ w))
  Inv L (post v sa pa σ) r = (d : ℕ) × (b : Before L d sa pa σ) × (w : List ℕ) × (Starred X d w v) × (r ≡ all b w)

  join_product : {d : ℕ} {y w : List ℕ} {pa : Acc} {v : Policy} → SeqL d y pa → Starred X d w v → Product X d (y ++ w) (join_seq pa v)
  unfolding join_seq
  join_product seq_none h = p_one h
  join_product (seq_some g) h = rw append_assoc (p_seq g h)

  join_sum : {d : ℕ} {x y : List ℕ} {sa : Acc} {q : Policy} → PlusL d x sa → Term X d y q → Sum X d (x ++ y) (join_plus sa q)
  unfolding join_plus
  join_sum plus_none h = u_one h
  join_sum (plus_some g) h = rw append_assoc (u_plus g h)

  -- a product ends the term and the sum
  join_left : {d : ℕ} {x y : List ℕ} {l : Left} {q : Policy} → LeftL d x l → Product X d y q → Sum X d (x ++ y) (join_term l q)
  unfolding join_term join_mix sum_before
  join_left (left_opening g) h = join_sum g (t_one h)
  join_left {y = z} (left_joining {c = c} {x = x} {y = y} s g t) h = rw (append_assoc x (y ++ (c ∷ [])) z, append_assoc y (c ∷ []) z) (join_sum g (t_mix s t h))

  -- a sign after it
  left_mix : {d c : ℕ} {x y : List ℕ} {l : Left} {m : Mix} {q : Policy} → MixSign c m → LeftL d x l → Product X d y q
      → LeftL d ((x ++ y) ++ (c ∷ [])) (joining (sum_before l) m (join_mix l q))
  unfolding join_mix sum_before
  left_mix {c = c} {x = x} {y = y} s (left_opening g) h = rw (append_assoc x y (c ∷ [])) (left_joining s g (t_one h))
  left_mix {c = c} {y = z} s (left_joining {c = b} {x = x} {y = y} r g t) h = rw (
    append_assoc x (y ++ (b ∷ [])) z,
    append_assoc y (b ∷ []) z,
    append_assoc x (y ++ (b ∷ z)) (c ∷ []),
  ) (left_joining s g (t_mix r t h))

  weaken : {d e : ℕ} {s : List ℕ} {p : Policy} → e ≤ d → Atom X e s p → Atom X d s p
  weaken h a_zero = a_zero
  weaken h a_one = a_one
  weaken h a_full = a_full
  weaken h (a_test f b) = a_test f b
  weaken h (a_assign f b) = a_assign f b
  weaken h (a_neg l a) = a_neg (lt_of_lt_of_le l h) a
  weaken h (a_paren l a) = a_paren (lt_of_lt_of_le l h) a

  -- an atom with `!` in front
  with_bangs : {d e : ℕ} {s : List ℕ} {p : Policy} (n : ℕ) → n + e ≤ d → Atom X e s p → Atom X d (bangs n ++ s) (negs n p)
  unfolding bangs negs
  with_bangs zero h a = weaken (omega arith) a
  with_bangs {e = e} (suc n) h a = rw append_assoc (with_bangs {e = suc e} n (omega arith) (a_neg (lt-suc_self e) a))

  stack_depth : {L d : ℕ} {s : List ℕ} {σ : List Frame} → Stack L d s σ → d + nesting σ ≡ L
  unfolding nesting
  stack_depth stack_none = omega arith
  stack_depth (stack_paren k p q h) = omega (arith, stack_depth k)

  by_cond : {A : Type 0} (P : A → Type 0) (c : Bool) {x y : A} → (c ≡ true → P x) → (c ≡ false → P y) → P (cond c x y)
  by_cond P true f g = f refl
  by_cond P false f g = g refl

  -- one byte more
  abbrev MidGood : List ℕ → ℕ → MidStep → Type 0
  MidGood w b (more m) = MidText (w ++ (b ∷ [])) m
  MidGood w b (whole p) = (d : ℕ) → Atom X d (w ++ (b ∷ [])) p
  MidGood w b not_mid = Unit {0}

  good_name : (s : List ℕ) (x : Whole) (b : ℕ) → X.is_whole s ≡ x → MidGood s b (after_name x b)
  unfolding after_name
  good_name s unspelt b e = tt
  good_name s (field n) b e = by_cond (MidGood s b) (eqb b 61) (λ h. rw (eqb-true b 61 h) (t_test (laws.spelt s n e)))
      (λ _. by_cond (MidGood s b) (eqb b 58) (λ h. rw (eqb-true b 58 h) (t_colon (laws.spelt s n e))) (λ _. tt))

  good_bit : (w : List ℕ) (n : ℕ) (k : Bool) (b : ℕ) → ((d c : ℕ) (v : Bool) → Bit c v → Atom X d (w ++ (c ∷ [])) (leaf k n v))
      → MidGood w b (mid_step X (bit k n) b)
  unfolding mid_step
  good_bit w n k b a = by_cond (MidGood w b) (eqb b 48) (λ h. λ d. rw (eqb-true b 48 h) (a d 48 false b_zero))
      (λ _. by_cond (MidGood w b) (eqb b 49) (λ h. λ d. rw (eqb-true b 49 h) (a d 49 true b_one)) (λ _. tt))

  good_mid : {w : List ℕ} {m : Mid} (b : ℕ) → MidText w m → MidGood w b (mid_step X m b)
  unfolding mid_step leaf
  good_mid b (t_spelt {s = s}) = by_cond (MidGood s b) (X.does_begin (s ++ (b ∷ []))) (λ _. t_spelt) (λ _. good_name s (X.is_whole s) b refl)
  good_mid b (t_colon {s = w} f) = by_cond (MidGood (w ++ (58 ∷ [])) b) (eqb b 61) (λ h. rw (eqb-true b 61 h, append_assoc) (t_assign f)) (λ _. tt)
  good_mid b (t_test {n = n} {s = w} f) = good_bit (w ++ (61 ∷ [])) n false b (λ d c v h. rw append_assoc (a_test f h))
  good_mid b (t_assign {n = n} {s = w} f) = good_bit (w ++ (58 ∷ 61 ∷ [])) n true b (λ d c v h. rw append_assoc (a_assign f h))

  abbrev Good : ℕ → List ℕ → ℕ → ByteStep → Type 0
  Good L r b (go q) = Inv L q (r ++ (b ∷ []))
  Good L r b stop = Unit {0}
  Good L r b over = Unit {0}

  grow : {L d : ℕ} {sa : Left} {pa : Acc} {σ : List Frame} (B : Before L d sa pa σ) (r w : List ℕ) (b c : ℕ) → b ≡ c → r ≡ all B w
      → r ++ (b ∷ []) ≡ all B (w ++ (c ∷ []))
  grow B r w b c e h = rw (e, h) (simp append_assoc)

  good_need : (L : ℕ) (sa : Left) (pa : Acc) (n : ℕ) (σ : List Frame) (r : List ℕ) (b : ℕ) → Inv L (need sa pa n σ) r
      → Good L r b (byte_step X L (need sa pa n σ) b)
  unfolding byte_step bangs
  good_need L sa pa n σ r b i =
      let d = i.0 in
      let B = i.1 in
      let P : ByteStep → Type 0 = Good L r b in
      let dep = stack_depth B.stack in
      by_cond P (eqb b 48) (λ h. (
        d,
        B,
        bangs n ++ (48 ∷ []),
        s_atom (with_bangs {e = 0} n (omega (arith, i.2)) a_zero),
        grow B r (bangs n) b 48
            (eqb-true b 48 h) i.3,
      ))
      (λ _. by_cond P (eqb b 49) (λ h. (
        d,
        B,
        bangs n ++ (49 ∷ []),
        s_atom (with_bangs {e = 0} n (omega (arith, i.2)) a_one),
        grow B r (bangs n) b 49
            (eqb-true b 49 h) i.3,
      ))
      (λ _. by_cond P (eqb b 84) (λ h. (
        d,
        B,
        bangs n ++ (84 ∷ []),
        s_atom (with_bangs {e = 0} n (omega (arith, i.2)) a_full),
        grow B r (bangs n) b 84
            (eqb-true b 84 h) i.3,
      ))
      (λ _. by_cond P (eqb b 33) (λ h. by_cond P (ltb (n + nesting σ) L) (λ k. let l = ltb-true (n + nesting σ) L k in
      bang d B l dep (eqb-true b 33 h) i.3) (λ _. tt))
      (λ _. by_cond P (eqb b 40) (λ h. by_cond P (ltb (n + nesting σ) L) (λ k. let l = ltb-true (n + nesting σ) L k in
      opens d B l dep (eqb-true b 40 h) i.3) (λ _. tt))
      (λ _. by_cond P (X.does_begin (b ∷ [])) (λ h. (d, B, i.2, b ∷ [], t_spelt, grow B r (bangs n) b b refl i.3))
      (λ _. tt))))))
    where
      bang : (d : ℕ) (B : Before L d sa pa σ) → n + nesting σ < L → d + nesting σ ≡ L → b ≡ 33 → r ≡ all B (bangs n)
          → Inv L (need sa pa (suc n) σ) (r ++ (b ∷ []))
      bang d B l dep e h = (d, B, omega arith, grow B r (bangs n) b 33 e h)

      opens : (d : ℕ) (B : Before L d sa pa σ) → n + nesting σ < L → d + nesting σ ≡ L → b ≡ 40 → r ≡ all B (bangs n)
          → Inv L (need (opening nothing) nothing 0 (paren sa pa n ∷ σ)) (r ++ (b ∷ []))
      opens d B l dep e h = (
        d - suc n,
        record {
          s = all B (bangs n ++ (40 ∷ []));
          x = [];
          y = [];
          stack = stack_paren {d = d} {e = d - suc n} {n = n} B.stack B.left B.seq
              (omega arith);
          left = left_opening plus_none;
          seq = seq_none;
        },
        omega arith,
        grow B r (bangs n) b 40 e h ∙ sym (append-nil _),
      )

  good_inside : (L : ℕ) (m : Mid) (sa : Left) (pa : Acc) (n : ℕ) (σ : List Frame) (r : List ℕ) (b : ℕ) → Inv L (inside m sa pa n σ) r
      → Good L r b (byte_step X L (inside m sa pa n σ) b)
  unfolding byte_step mid_go
  good_inside L m sa pa n σ r b i = by (mid_step X m b) (good_mid b i.4)
    where
      by : (k : MidStep) → MidGood i.3 b k → Good L r b (mid_go k sa pa n σ)
      by (more m') g = (i.0, i.1, i.2, i.3 ++ (b ∷ []), g, grow i.1 r (bangs n ++ i.3) b b refl i.5 ∙ simp append_assoc)
      by (whole p) g = (
        i.0,
        i.1,
        bangs n ++ (i.3 ++ (b ∷ [])),
        s_atom (with_bangs {d = i.0} {e = 0} n (omega (arith, i.2)) (g 0)),
        grow i.1 r
            (bangs n ++ i.3) b b refl i.5 ∙ simp append_assoc,
      )
      by not_mid g = tt

  good_close : (L : ℕ) (v : Policy) (sa : Left) (pa : Acc) (σ : List Frame) (r : List ℕ) (b : ℕ) (d : ℕ) (s x y w : List ℕ) → Stack L d s σ → LeftL d x sa
      → SeqL d y pa → Starred X d w v → b ≡ 41
      → r ≡ s ++ (x ++ (y ++ w)) → Good L r b (close v sa pa σ)
  unfolding close
  good_close L v sa pa σ r b d s x y w stack_none p q g e h = tt
  good_close L v sa pa σ r b d s x y w (stack_paren {d = D} {n = n} {s = s'} {x = x'} {y = y'} k p' q' l) p q g e h = (
    D,
    record { s = s'; x = x'; y = y'; stack = k; left = p'; seq = q' },
    bangs n ++ (40 ∷ ((x ++ (y ++ w)) ++ (41 ∷ []))),
    s_atom (with_bangs {d = D} {e = suc d} n (omega arith) (a_paren (lt-suc_self d) (join_left p (join_product q g)))),
    rw (e, h) (simp append_assoc),
  )

  good_post : (L : ℕ) (v : Policy) (sa : Left) (pa : Acc) (σ : List Frame) (r : List ℕ) (b : ℕ) → Inv L (post v sa pa σ) r
      → Good L r b (byte_step X L (post v sa pa σ) b)
  unfolding byte_step bangs
  good_post L v sa pa σ r b i =
      let d = i.0 in
      let B = i.1 in
      let w = i.2 in
      let P : ByteStep → Type 0 = Good L r b in
      by_cond P (eqb b 42) (λ h. (d, B, w ++ (42 ∷ []), s_star i.3, grow B r w b 42 (eqb-true b 42 h) i.4))
      (λ _. by_cond P (eqb b 59) (λ h. (
        d,
        record {
          s = B.s;
          x = B.x;
          y = (B.y ++ w) ++ (59 ∷ []);
          stack = B.stack;
          left = B.left;
          seq = seq_some
              (join_product B.seq i.3);
        },
        omega arith,
        grow B r w b 59 (eqb-true b 59 h) i.4 ∙ simp (append_assoc, append-nil),
      ))
      (λ _. by_cond P (does_mix b) (λ h. mixes i (sign_of b h))
      (λ _. by_cond P (eqb b 43) (λ h. (
        d,
        record {
          s = B.s;
          x = (B.x ++ (B.y ++ w)) ++ (43 ∷ []);
          y = [];
          stack = B.stack;
          left = left_opening (plus_some
              (join_left B.left (join_product B.seq i.3)));
          seq = seq_none;
        },
        omega arith,
        grow B r w b 43 (eqb-true b 43 h) i.4 ∙ simp
            (append_assoc, append-nil),
      ))
      (λ _. by_cond P (eqb b 41) (λ h. good_close L v sa pa σ r b d B.s B.x B.y w B.stack B.left B.seq i.3 (eqb-true b 41 h) i.4)
      (λ _. tt)))))
    where
      mixes : {m : Mix} → Inv L (post v sa pa σ) r → MixSign b m
          → Inv L (need (joining (sum_before sa) m (join_mix sa (join_seq pa v))) nothing 0 σ) (r ++ (b ∷ []))
      mixes i s = let B = i.1 in let w = i.2 in (
        i.0,
        record {
          s = B.s;
          x = (B.x ++ (B.y ++ w)) ++ (b ∷ []);
          y = [];
          stack = B.stack;
          left = left_mix s B.left (join_product B.seq i.3);
          seq = seq_none;
        },
        omega arith,
        grow B r w b b refl i.4 ∙ simp (append_assoc, append-nil),
      )

  good : (L : ℕ) (q : State) (r : List ℕ) (b : ℕ) → Inv L q r → Good L r b (byte_step X L q b)
  good L (need sa pa n σ) r b i = good_need L sa pa n σ r b i
  good L (inside m sa pa n σ) r b i = good_inside L m sa pa n σ r b i
  good L (post v sa pa σ) r b i = good_post L v sa pa σ r b i

  ends_all : {L d : ℕ} {s x y w : List ℕ} {sa : Left} {pa : Acc} {v : Policy} → Stack L d s [] → LeftL d x sa → SeqL d y pa → Starred X d w v
      → Sum X L (s ++ (x ++ (y ++ w))) (join_term sa (join_seq pa v))
  ends_all stack_none p q g = join_left p (join_product q g)

  ends : (L : ℕ) (q : State) (at : ℕ) (r : List ℕ) (p : Policy) → Inv L q r → final q at ≡ accept p → Sum X L r p
  unfolding final
  ends L (need sa pa n σ) at r p i e = absurd (bad≢accept e)
  ends L (inside m sa pa n σ) at r p i e = absurd (bad≢accept e)
  ends L (post v sa pa []) at r p i e = rw i.4 (rw (accept_same e) at (ends_all i.1.stack i.1.left i.1.seq i.3))
  ends L (post v sa pa (f ∷ σ)) at r p i e = absurd (bad≢accept e)

  sound_scan : (L : ℕ) (t : List ℕ) (q : State) (at : ℕ) (r : List ℕ) (p : Policy) → Inv L q r → scan X L q at t ≡ accept p → Sum X L (r ++ t) p
  unfolding scan onward
  sound_scan L [] q at r p i e = rw append-nil (ends L q at r p i e)
  sound_scan L (b ∷ t) q at r p i e = rw (← (append_assoc r (b ∷ []) t))
      (by (byte_step X L q b) (good L q r b i) (λ q' i' e'. sound_scan L t q' (at + 1) (r ++ (b ∷ [])) p i' e') e)
    where
      by : (k : ByteStep) → Good L r b k → ((q' : State) → Inv L q' (r ++ (b ∷ [])) → scan X L q' (at + 1) t ≡ accept p → Sum X L ((r ++ (b ∷ [])) ++ t) p)
          → onward k (λ z. scan X L z (at + 1) t) at ≡ accept p → Sum X L ((r ++ (b ∷ [])) ++ t) p
      by (go q') g f e = f q' g e
      by stop g f e = absurd (bad≢accept e)
      by over g f e = absurd (deep≢accept e)

  start_inv : (L : ℕ) → Inv L start []
  unfolding bangs
  start_inv L = (L, record { s = []; x = []; y = []; stack = stack_none; left = left_opening plus_none; seq = seq_none }, omega arith, refl)

  pub sound_at : (L : ℕ) (t : List ℕ) (p : Policy) → scan X L start 0 t ≡ accept p → Sum X L t p
  sound_at L t p e = sound_scan L t start 0 [] p (start_inv L) e

  -- what is accepted follows the grammar
  pub sound : (t : List ℕ) (p : Policy) → reads X t ≡ accept p → Sum X 32 t p
  unfolding reads
  sound t p e = sound_at 32 t p e
