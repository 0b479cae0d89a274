-- How the run moves on at an offset of the text, and what that makes of the functions' promises.
use mathlib.Core.Path.{◌≡◌, refl, sym, ap, subst, ◌∙◌}
use Prim.Native.Nat.{ℕ, zero, suc, ◌+◌, ◌≤◌, ◌<◌}
use native.Mathlib.Numerals.{add-one}
use native.Mathlib.Omega.{arith}
use mathlib.Core.List.{List, [], ◌∷◌}
use mathlib.Core.Bool.{Bool, true, false, not, ◌||◌, true≢false}
use lib.ListN.{length, drop, get_or}
use lib.Seq.{drop-cons}
use Rattle.std.specs.Prelude.{Result, Ok, Err}
use Rattle.std.specs.List.{prefix_len}
use Rattle.std.proofs.lemmas.List.{drop_all, get_or-drop, length-drop}
use Rattle.std.proofs.lemmas.List.Sums.{prefix_len-le-length, prefix_len_passes, prefix_len_stops}
use borrow.Author.Tests.{eq-eqb, ne_eqb, lt-ltb, le-ltb, eqb-true, eqb-false}
use Rattle.model.specs.Policies.{Policy}
use mathlib.Core.Logic.{◌⊎◌, inl, inr}
use native.Mathlib.Nat.{zero-add}
use lib.Dec.{eqb}
use Rattle.policy_text.specs.Lexicon.{Lexicon}
use Rattle.policy_text.specs.Machine.{Acc, nothing, sofar, Left, opening, paren, negs, join_seq, join_term, close, Frame, State, need, inside, bit}
use Rattle.policy_text.specs.Machine.{leaf, mid_step, mid_go, post}
use Rattle.policy_text.specs.Machine.{does_mix, Out, accept, bad, deep, nesting, scan, reads, byte_step, final, start, onward, go, stop, over, ByteStep}
use Rattle.policy_text.specs.Misreads.{misread}
use Rattle.policy_text.specs.Posts.{continues_starred, continues_product, continues_term, continues_sum, continues_part, continues_rank, does_join}
use Rattle.policy_text.specs.Posts.{scan_at, Open, AtomPost, JoinPost, StarsPost, read_of}
use Rattle.policy_text.specs.declared.Fault.{Fault}
use Rattle.policy_text.specs.declared.Misread.{Misread}
use Rattle.policy_text.specs.declared.Rank.{Rank}

-- the ranks from the lowest up
abbrev pub rank_number : Rank → ℕ
rank_number Rank.Product = 1
rank_number Rank.Term = 2
rank_number Rank.Sum = 3

pub not_true : (x : Bool) → not x ≡ true → x ≡ false
not_true true e = sym e
not_true false e = refl

pub not_false : (x : Bool) → not x ≡ false → x ≡ true
not_false true e = refl
not_false false e = sym e

pub or_false : (x y : Bool) → x || y ≡ false → (x ≡ false) × (y ≡ false)
or_false true y h = absurd (true≢false h)
or_false false y h = (refl, h)

pub or_falses : (x y : Bool) → x ≡ false → y ≡ false → x || y ≡ false
or_falses true y h k = h
or_falses false y h k = k

module _ (X : Lexicon) where
  module _ (sa : Left) (pa : Acc) (n : ℕ) (σ : List Frame) (b : ℕ) where
    pub step_bang : b ≡ 33 → n + nesting σ < 32 → byte_step X 32 (need sa pa n σ) b ≡ go (need sa pa (suc n) σ)
    unfolding byte_step
    step_bang e h = ap (λ (b : ℕ). byte_step X 32 (need sa pa n σ) b) e ∙ simp (lt-ltb _ _ h)

    pub step_bang_over : b ≡ 33 → 32 ≤ n + nesting σ → byte_step X 32 (need sa pa n σ) b ≡ over
    unfolding byte_step
    step_bang_over e h = ap (λ (b : ℕ). byte_step X 32 (need sa pa n σ) b) e ∙ simp (le-ltb _ _ h)

    pub step_open : b ≡ 40 → n + nesting σ < 32 → byte_step X 32 (need sa pa n σ) b ≡ go (need (opening nothing) nothing 0 (paren sa pa n ∷ σ))
    unfolding byte_step
    step_open e h = ap (λ (b : ℕ). byte_step X 32 (need sa pa n σ) b) e ∙ simp (lt-ltb _ _ h)

    pub step_open_over : b ≡ 40 → 32 ≤ n + nesting σ → byte_step X 32 (need sa pa n σ) b ≡ over
    unfolding byte_step
    step_open_over e h = ap (λ (b : ℕ). byte_step X 32 (need sa pa n σ) b) e ∙ simp (le-ltb _ _ h)

  module _ (v : Policy) (sa : Left) (pa : Acc) (σ : List Frame) (b : ℕ) where
    pub step_semi : b ≡ 59 → byte_step X 32 (post v sa pa σ) b ≡ go (need sa (sofar (join_seq pa v)) 0 σ)
    unfolding byte_step
    step_semi e = ap (λ (b : ℕ). byte_step X 32 (post v sa pa σ) b) e

    pub step_plus : b ≡ 43 → byte_step X 32 (post v sa pa σ) b ≡ go (need (opening (sofar (join_term sa (join_seq pa v)))) nothing 0 σ)
    unfolding byte_step
    step_plus e = ap (λ (b : ℕ). byte_step X 32 (post v sa pa σ) b) e

    -- `&`, `-` or `^`
    pub step_mix : true ≡ does_mix b → (sb : Left) × (byte_step X 32 (post v sa pa σ) b ≡ go (need sb nothing 0 σ))
    unfolding byte_step
    step_mix e = by (eqb b 38) (eqb b 45) (eqb b 94) refl refl refl e
      where
        by : (x y z : Bool) → eqb b 38 ≡ x → eqb b 45 ≡ y → eqb b 94 ≡ z → true ≡ (x || y) || z
            → (sb : Left) × (byte_step X 32 (post v sa pa σ) b ≡ go (need sb nothing 0 σ))
        by true y z f g h i = (_, ap (λ (b : ℕ). byte_step X 32 (post v sa pa σ) b) (eqb-true b 38 f))
        by false true z f g h i = (_, ap (λ (b : ℕ). byte_step X 32 (post v sa pa σ) b) (eqb-true b 45 g))
        by false false true f g h i = (_, ap (λ (b : ℕ). byte_step X 32 (post v sa pa σ) b) (eqb-true b 94 h))
        by false false false f g h i = absurd (true≢false i)

    pub step_close : b ≡ 41 → byte_step X 32 (post v sa pa σ) b ≡ close v sa pa σ
    unfolding byte_step
    step_close e = ap (λ (b : ℕ). byte_step X 32 (post v sa pa σ) b) e

    pub step_after : continues_sum b ≡ false → (b ≡ 41 → ⊥) → byte_step X 32 (post v sa pa σ) b ≡ stop
    unfolding byte_step
    step_after e f =
        let p = or_false (continues_term b) (eqb b 43) e in
        let q = or_false (continues_product b) (does_mix b) p.0 in
        let r = or_false (eqb b 42) (eqb b 59) q.0 in
        simp (r.0, r.1, q.1, p.1, ne_eqb _ _ f)

  pub step_after_all : (v : Policy) (sa : Left) (pa : Acc) (b : ℕ) → continues_sum b ≡ false → byte_step X 32 (post v sa pa []) b ≡ stop
  unfolding close
  step_after_all v sa pa b e = by (eqb b 41) refl
    where
      by : (x : Bool) → eqb b 41 ≡ x → byte_step X 32 (post v sa pa []) b ≡ stop
      by true h = step_close v sa pa [] b (eqb-true b 41 h)
      by false h = step_after v sa pa [] b e (eqb-false b 41 h)

  module _ (t : List ℕ) where
    pub scan_step : (q : State) (at : ℕ) → at < length t → scan_at X t q at ≡ onward (byte_step X 32 q (get_or t at 0)) (λ r. scan_at X t r (at + 1)) at
    unfolding scan_at scan
    scan_step q at h = ap (λ (s : List ℕ). scan X 32 q at s) (drop-cons t at 0 h)
        ∙ ap (λ (k : ℕ). onward (byte_step X 32 q (get_or t at 0)) (λ r. scan X 32 r (at + 1) (drop k t)) at) (sym (add-one at))

    pub scan_go : (q r : State) (at : ℕ) → at < length t → byte_step X 32 q (get_or t at 0) ≡ go r → scan_at X t q at ≡ scan_at X t r (at + 1)
    unfolding onward
    scan_go q r at h e = scan_step q at h ∙ ap (λ (s : ByteStep). onward s (λ r. scan_at X t r (at + 1)) at) e

    pub scan_stop : (q : State) (at : ℕ) → at < length t → byte_step X 32 q (get_or t at 0) ≡ stop → scan_at X t q at ≡ bad at
    unfolding onward
    scan_stop q at h e = scan_step q at h ∙ ap (λ (s : ByteStep). onward s (λ r. scan_at X t r (at + 1)) at) e

    pub scan_over : (q : State) (at : ℕ) → at < length t → byte_step X 32 q (get_or t at 0) ≡ over → scan_at X t q at ≡ deep at
    unfolding onward
    scan_over q at h e = scan_step q at h ∙ ap (λ (s : ByteStep). onward s (λ r. scan_at X t r (at + 1)) at) e

    pub scan_end : (q : State) (at : ℕ) → length t ≤ at → scan_at X t q at ≡ final q at
    unfolding scan_at scan
    scan_end q at e = ap (λ (s : List ℕ). scan X 32 q at s) (drop_all at t e)

    -- one byte, and then an atom's rest
    pub atom_go : (d : ℕ) (q r : Open) (at : ℕ) (x : Result ℕ Misread) → at < length t
        → ((sa : Left) (pa : Acc) (n : ℕ) (σ : List Frame) → byte_step X 32 (q sa pa n σ) (get_or t at 0) ≡ go (r sa pa n σ))
        → AtomPost X t d r (at + 1) x → AtomPost X t d q at x
    unfolding AtomPost
    atom_go d q r at (Ok e) h s a = (
      omega (arith, a.0),
      a.1,
      λ sa pa n σ g. let u = a.2 sa pa n σ g in
          (u.0, scan_go (q sa pa n σ) (r sa pa n σ) at h (s sa pa n σ) ∙ u.1),
    )
    atom_go d q r at (Err m) h s a = λ sa pa n σ g. ap read_of (scan_go (q sa pa n σ) (r sa pa n σ) at h (s sa pa n σ)) ∙ a sa pa n σ g

    -- one byte, which ends the atom
    pub atom_whole : (d : ℕ) (q : Open) (at : ℕ) (p : ℕ → Policy) → at < length t
        → ((sa : Left) (pa : Acc) (n : ℕ) (σ : List Frame) → byte_step X 32 (q sa pa n σ) (get_or t at 0) ≡ go (post (p n) sa pa σ))
        → AtomPost X t d q at (Ok (at + 1))
    unfolding AtomPost
    atom_whole d q at p h s = (omega arith, omega arith, λ sa pa n σ g. (p n, scan_go (q sa pa n σ) (post (p n) sa pa σ) at h (s sa pa n σ)))

    pub atom_stop : (d : ℕ) (q : Open) (at : ℕ) (m : Misread) → at < length t → m ≡ misread Fault.NotPolicy at
        → ((sa : Left) (pa : Acc) (n : ℕ) (σ : List Frame) → byte_step X 32 (q sa pa n σ) (get_or t at 0) ≡ stop)
        → AtomPost X t d q at (Err m)
    unfolding AtomPost read_of
    atom_stop d q at m h e s = λ sa pa n σ g. ap read_of (scan_stop (q sa pa n σ) at h (s sa pa n σ)) ∙ ap Err (sym e)

    pub atom_end : (d : ℕ) (q : Open) (at : ℕ) (m : Misread) (x : Result ℕ Misread) → x ≡ Err m → (length t ≤ at) × (m ≡ misread Fault.NotPolicy at)
        → ((sa : Left) (pa : Acc) (n : ℕ) (σ : List Frame) → final (q sa pa n σ) at ≡ bad at)
        → AtomPost X t d q at x
    unfolding AtomPost read_of
    atom_end d q at m x k e s = subst (λ (y : Result ℕ Misread). AtomPost X t d q at y) (sym k)
        (λ sa pa n σ g. ap read_of (scan_end (q sa pa n σ) at e.0 ∙ s sa pa n σ) ∙ ap Err (sym e.1))

    -- the value b of a test or an assignment; `0`, `1` or `T`
    pub atom_bit : (d : ℕ) (k : Bool) (n at : ℕ) → at < length t → 48 ≤ get_or t at 0 → get_or t at 0 ≤ 49 → AtomPost X t d (inside (bit k n)) at (Ok (at + 1))
    unfolding byte_step mid_step mid_go
    atom_bit d k n at h l u = by (eqb (get_or t at 0) 48) refl
      where
        by : (x : Bool) → eqb (get_or t at 0) 48 ≡ x → AtomPost X t d (inside (bit k n)) at (Ok (at + 1))
        by true e = atom_whole d (inside (bit k n)) at (λ m. negs m (leaf k n false)) h (λ sa pa m σ. simp e)
        by false e = atom_whole d (inside (bit k n)) at (λ m. negs m (leaf k n true)) h
            (λ sa pa m σ. simp (e, eq-eqb (get_or t at 0) 49 (omega (arith, eqb-false _ 48 e))))

    pub atom_leaf : (d at : ℕ) → at < length t → ((48 ≤ get_or t at 0) × (get_or t at 0 ≤ 49)) ⊎ (get_or t at 0 ≡ 84) → AtomPost X t d need at (Ok (at + 1))
    unfolding byte_step
    atom_leaf d at h (inr e) = atom_whole d need at (λ m. negs m Policy.full) h (λ sa pa m σ. ap (byte_step X 32 (need sa pa m σ)) e)
    atom_leaf d at h (inl (l, u)) = by (eqb (get_or t at 0) 48) refl
      where
        by : (x : Bool) → eqb (get_or t at 0) 48 ≡ x → AtomPost X t d need at (Ok (at + 1))
        by true e = atom_whole d need at (λ m. negs m Policy.fail) h (λ sa pa m σ. simp e)
        by false e = atom_whole d need at (λ m. negs m Policy.skip) h
            (λ sa pa m σ. simp (e, eq-eqb (get_or t at 0) 49 (omega (arith, l, u, eqb-false _ 48 e))))

    -- a byte that no atom begins with
    pub atom_none : (d at : ℕ) (m : Misread) → at < length t → m ≡ misread Fault.NotPolicy at → X.does_begin (get_or t at 0 ∷ []) ≡ false
        → (get_or t at 0 < 48 ⊎ 49 < get_or t at 0) × (get_or t at 0 ≡ 84 → ⊥) × (get_or t at 0 ≡ 33 → ⊥) × (get_or t at 0 ≡ 40 → ⊥)
        → AtomPost X t d need at (Err m)
    unfolding byte_step
    atom_none d at m h e w (b, f, g, k) = atom_stop d need at m h e (λ sa pa n σ. simp (
      ne_eqb (get_or t at 0) 48 (λ z. omega (arith, z, b)),
      ne_eqb (get_or t at 0) 49 (λ z. omega (arith, z, b)),
      ne_eqb _ _ f,
      ne_eqb _ _ g,
      ne_eqb _ _ k,
      w,
    ))

    -- no star so far; one star more; all stars of what is left
    Stars : ℕ → ℕ → Type 0
    Stars at i = (v : Policy) (sa : Left) (pa : Acc) (σ : List Frame) → (u : Policy) × (scan_at X t (post v sa pa σ) at ≡ scan_at X t (post u sa pa σ) i)

    stars_none : (at : ℕ) → Stars at at
    unfolding Stars
    stars_none at v sa pa σ = (v, refl)

    stars_more : (at i j : ℕ) → i < length t → get_or t i 0 ≡ 42 → j ≡ i + 1 → Stars at i → Stars at j
    unfolding Stars byte_step
    stars_more at i j h e k s v sa pa σ = let u = s v sa pa σ in
        (Policy.stars u.0, u.1 ∙ rw k (scan_go (post u.0 sa pa σ) (post (Policy.stars u.0) sa pa σ) i h (simp (eq-eqb _ _ e))))

    module _ (at : ℕ) (h : at ≤ length t) where
      stars_within : prefix_len continues_starred (drop at t) + at ≤ length t
      stars_within = omega (arith, prefix_len-le-length continues_starred (drop at t), length-drop at t)

      stars_run : (k : ℕ) → k ≤ prefix_len continues_starred (drop at t) → Stars at (at + k)
      stars_run zero l = subst (Stars at) (omega arith) (stars_none at)
      stars_run (suc k) l =
          let e = prefix_len_passes continues_starred (drop at t) k 0 (omega arith) in
          stars_more at (at + k) (at + suc k) (omega (arith, stars_within)) (sym (get_or-drop at t k 0) ∙ eqb-true _ 42 e) (omega arith)
          (stars_run k (omega arith))

      pub stars_post : (n : ℕ) → n ≡ prefix_len continues_starred (drop at t) → StarsPost X t at (at + n)
      unfolding Stars StarsPost
      stars_post n e = (
        omega arith,
        omega (arith, e, stars_within),
        (λ l. sym (ap continues_starred (get_or-drop at t n 0)) ∙ rw e (prefix_len_stops continues_starred (drop at t) 0 (omega (arith, e, length-drop at t)))),
        stars_run n (omega (arith, e)),
      )

    -- joins
    pub join_stars : (d at e r : ℕ) → AtomPost X t d need at (Ok e) → StarsPost X t e r → JoinPost X continues_starred t d at (Ok r)
    unfolding AtomPost JoinPost StarsPost
    join_stars d at e r a s = (
      omega (arith, a.0, s.0),
      s.1,
      s.2,
      λ sa pa σ g. let u = a.2 sa pa 0 σ (zero-add _ ∙ g) in let w = s.3 u.0 sa pa σ in
          (sa, pa, w.0, u.1 ∙ w.1),
    )

    pub join_atom_refused : (g : ℕ → Bool) (d at : ℕ) (m : Misread) (x : Result ℕ Misread) → x ≡ Err m → AtomPost X t d need at (Err m) → JoinPost X g t d at x
    unfolding AtomPost JoinPost
    join_atom_refused g d at m x k a = subst (λ (y : Result ℕ Misread). JoinPost X g t d at y) (sym k) (λ sa pa σ h. a sa pa 0 σ (zero-add _ ∙ h))

    pub join_refused : (g h : ℕ → Bool) (d at : ℕ) (m : Misread) (x : Result ℕ Misread) → x ≡ Err m → JoinPost X g t d at (Err m) → JoinPost X h t d at x
    unfolding JoinPost
    join_refused g h d at m x k a = subst (λ (y : Result ℕ Misread). JoinPost X h t d at y) (sym k) a

    pub join_from : (g : ℕ → Bool) (d at e : ℕ) → JoinPost X g t d at (Ok e) → at ≤ e
    unfolding JoinPost
    join_from g d at e a = a.0

    pub join_in : (g : ℕ → Bool) (d at e : ℕ) → JoinPost X g t d at (Ok e) → e ≤ length t
    unfolding JoinPost
    join_in g d at e a = a.1

    pub atom_in : (d at e : ℕ) → AtomPost X t d need at (Ok e) → e ≤ length t
    unfolding AtomPost
    atom_in d at e a = a.1

    -- the parts of a rank up to e, and what follows them: nothing that joins them, so that the rank ends
    pub rank_ends : (r : Rank) (d at e : ℕ) → (e < length t → does_join r (get_or t e 0) ≡ false) → JoinPost X (continues_part r) t d at (Ok e)
        → JoinPost X (continues_rank r) t d at (Ok e)
    unfolding JoinPost
    rank_ends r d at e f a = (a.0, a.1, (λ l. or_falses _ _ (a.2 l) (f l)), a.3)

    -- what joins the parts leaves an operand to be read
    joins : (r : Rank) (b : ℕ) (v : Policy) (sa : Left) (pa : Acc) (σ : List Frame) → true ≡ does_join r b
        → (sb : Left) × (pb : Acc) × (byte_step X 32 (post v sa pa σ) b ≡ go (need sb pb 0 σ))
    joins Rank.Product b v sa pa σ e = (_, _, step_semi v sa pa σ b (eqb-true b 59 (sym e)))
    joins Rank.Term b v sa pa σ e = let u = step_mix v sa pa σ b e in (u.0, _, u.1)
    joins Rank.Sum b v sa pa σ e = (_, _, step_plus v sa pa σ b (eqb-true b 43 (sym e)))

    -- one part more, or its refusal
    pub rank_more : (r : Rank) (g : ℕ → Bool) (d at e : ℕ) (x : Result ℕ Misread) → e < length t → true ≡ does_join r (get_or t e 0)
        → JoinPost X g t d at (Ok e) → JoinPost X g t d (e + 1) x → JoinPost X g t d at x
    unfolding JoinPost
    rank_more r g d at e (Ok f) l j a b = (
      omega (arith, a.0, b.0),
      b.1,
      b.2,
      λ sa pa σ k.
          let u = a.3 sa pa σ k in
          let z = joins r (get_or t e 0) u.2 u.0 u.1 σ j in
          let w = b.3 z.0 z.1 σ k in
          (w.0, w.1, w.2, u.3 ∙ scan_go (post u.2 u.0 u.1 σ) (need z.0 z.1 0 σ) e l z.2 ∙ w.3),
    )
    rank_more r g d at e (Err m) l j a b = λ sa pa σ k.
        let u = a.3 sa pa σ k in
        let z = joins r (get_or t e 0) u.2 u.0 u.1 σ j in
        ap read_of (u.3 ∙ scan_go (post u.2 u.0 u.1 σ) (need z.0 z.1 0 σ) e l z.2) ∙ b z.0 z.1 σ k

    -- `!` and an atom
    pub atom_bang : (d i at : ℕ) (x : Result ℕ Misread) → at < length t → get_or t at 0 ≡ 33 → (d < 32) × (i ≡ d + 1) → AtomPost X t i need (at + 1) x
        → AtomPost X t d need at x
    unfolding AtomPost
    atom_bang d i at (Ok e) h b (l, j) a = (
      omega (arith, a.0),
      a.1,
      λ sa pa n σ g. let u = a.2 sa pa (suc n) σ (omega arith) in
          (u.0, scan_go _ _ at h (step_bang sa pa n σ _ b (omega arith)) ∙ u.1),
    )
    atom_bang d i at (Err m) h b (l, j) a = λ sa pa n σ g.
        ap read_of (scan_go _ _ at h (step_bang sa pa n σ _ b (omega arith))) ∙ a sa pa (suc n) σ (omega arith)

    pub atom_over : (d at : ℕ) (m : Misread) (x : Result ℕ Misread) → x ≡ Err m → at < length t → (get_or t at 0 ≡ 33) ⊎ (get_or t at 0 ≡ 40)
        → (32 ≤ d) × (m ≡ misread Fault.TooDeep at) → AtomPost X t d need at x
    unfolding AtomPost read_of
    atom_over d at m x k h b (l, e) = subst (λ (y : Result ℕ Misread). AtomPost X t d need at y) (sym k) (by b)
      where
        by : (get_or t at 0 ≡ 33) ⊎ (get_or t at 0 ≡ 40) → AtomPost X t d need at (Err m)
        by (inl b) = λ sa pa n σ g. ap read_of (scan_over _ at h (step_bang_over sa pa n σ _ b (omega arith))) ∙ ap Err (sym e)
        by (inr b) = λ sa pa n σ g. ap read_of (scan_over _ at h (step_open_over sa pa n σ _ b (omega arith))) ∙ ap Err (sym e)

    -- `(`, a sum, and `)`, or what is in its place
    module _ (d i at : ℕ) (h : at < length t) (b : get_or t at 0 ≡ 40) (l : (d < 32) × (i ≡ d + 1)) where
      opened : (sa : Left) (pa : Acc) (n : ℕ) (σ : List Frame) → n + nesting σ ≡ d
          → scan_at X t (need sa pa n σ) at ≡ scan_at X t (need (opening nothing) nothing 0 (paren sa pa n ∷ σ)) (at + 1)
      opened sa pa n σ g = scan_go _ _ at h (step_open sa pa n σ _ b (omega (arith, l.0)))

      within : (sa : Left) (pa : Acc) (n : ℕ) (σ : List Frame) → n + nesting σ ≡ d → nesting (paren sa pa n ∷ σ) ≡ i
      unfolding nesting
      within sa pa n σ g = omega (arith, l.1)

      pub paren_refused : (m : Misread) (x : Result ℕ Misread) → x ≡ Err m → JoinPost X continues_sum t i (at + 1) (Err m) → AtomPost X t d need at x
      unfolding AtomPost JoinPost
      paren_refused m x k a = subst (λ (y : Result ℕ Misread). AtomPost X t d need at y) (sym k)
          (λ sa pa n σ g. ap read_of (opened sa pa n σ g) ∙ a (opening nothing) nothing (paren sa pa n ∷ σ) (within sa pa n σ g))

      pub paren_closed : (e : ℕ) → JoinPost X continues_sum t i (at + 1) (Ok e) → e < length t → get_or t e 0 ≡ 41 → AtomPost X t d need at (Ok (e + 1))
      unfolding AtomPost JoinPost close
      paren_closed e a k c = (
        omega (arith, a.0),
        omega arith,
        λ sa pa n σ g.
            let u = a.3 (opening nothing) nothing (paren sa pa n ∷ σ) (within sa pa n σ g) in (
              negs n (join_term u.0 (join_seq u.1 u.2)),
              opened sa pa n σ g ∙ u.3 ∙ scan_go _ _ e k
                  (step_close u.2 u.0 u.1 (paren sa pa n ∷ σ) _ c),
            ),
      )

      pub paren_ends : (e : ℕ) (m : Misread) (x : Result ℕ Misread) → x ≡ Err m → JoinPost X continues_sum t i (at + 1) (Ok e)
          → (length t ≤ e) × (m ≡ misread Fault.NotPolicy e) → AtomPost X t d need at x
      unfolding AtomPost JoinPost final read_of
      paren_ends e m x f a k = subst (λ (y : Result ℕ Misread). AtomPost X t d need at y) (sym f) (λ sa pa n σ g.
          let u = a.3 (opening nothing) nothing (paren sa pa n ∷ σ) (within sa pa n σ g) in
          ap read_of (opened sa pa n σ g ∙ u.3 ∙ scan_end _ e k.0) ∙ ap Err (sym k.1))

      pub paren_stops : (e : ℕ) (m : Misread) → JoinPost X continues_sum t i (at + 1) (Ok e) → e < length t → (get_or t e 0 ≡ 41 → ⊥)
          → m ≡ misread Fault.NotPolicy e → AtomPost X t d need at (Err m)
      unfolding AtomPost JoinPost read_of
      paren_stops e m a k c f = λ sa pa n σ g.
          let u = a.3 (opening nothing) nothing (paren sa pa n ∷ σ) (within sa pa n σ g) in
          ap read_of (opened sa pa n σ g ∙ u.3 ∙ scan_stop _ e k (step_after u.2 u.0 u.1 (paren sa pa n ∷ σ) _ (a.2 k) c)) ∙ ap Err (sym f)

    -- the whole text
    whole_from : (x : Out) → scan_at X t start 0 ≡ x → reads X t ≡ x
    unfolding scan_at reads
    whole_from x e = e

    pub whole_refused : (m : Misread) → JoinPost X continues_sum t 0 0 (Err m) → Err m ≡ read_of (reads X t)
    unfolding JoinPost nesting
    whole_refused m a = sym (ap read_of (whole_from _ refl) ∙ a (opening nothing) nothing [] refl)

    pub whole_ends : (e : ℕ) → JoinPost X continues_sum t 0 0 (Ok e) → e ≡ length t → Ok tt ≡ read_of (reads X t)
    unfolding JoinPost nesting read_of final
    whole_ends e a k =
        let u = a.3 (opening nothing) nothing [] refl in
        sym (ap read_of (whole_from (accept (join_term u.0 (join_seq u.1 u.2)))
        (u.3 ∙ scan_end (post u.2 u.0 u.1 []) e (omega arith))))

    pub whole_stops : (e : ℕ) (m : Misread) → JoinPost X continues_sum t 0 0 (Ok e) → (e ≡ length t → ⊥) → m ≡ misread Fault.NotPolicy e
        → Err m ≡ read_of (reads X t)
    unfolding JoinPost nesting read_of
    whole_stops e m a k f =
        let u = a.3 (opening nothing) nothing [] refl in
        let l : e < length t = omega (arith, a.1) in
        ap Err f ∙ sym (ap read_of (whole_from (bad e)
        (u.3 ∙ scan_stop (post u.2 u.0 u.1 []) e l (step_after_all u.2 u.0 u.1 _ (a.2 l)))))
