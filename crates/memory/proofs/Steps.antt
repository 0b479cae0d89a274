-- Laws for functions that run a program on one kind's nodes, over each store with Q: what is left of it, and each kind of return.
use mathlib.Core.Path.{◌≡◌, refl, sym, ap, ◌∙◌, subst}
use mathlib.Core.List.{List}
use mathlib.Core.Bool.{Bool, true, false, ◌&&◌}
use Prim.Native.Nat.{ℕ, ◌+◌, ◌-◌, ◌*◌, ◌≤◌}
use native.Mathlib.Omega.{arith}
use native.Mathlib.Nat.{mul-le-mul_left}
use lib.ListN.{length, take, drop, length-append}
use lib.Seq.{drop-drop, take-take}
use lib.Dec.{eqb, ltb, leb}
use Rattle.std.specs.Prelude.{Option, Some, None}
use borrow.Author.Tests.{le-leb, lt-leb, leb-false}
use Rattle.model.specs.Programs.{is_empty, is_universal, is_identity, Test, same, less, has, holds, Prog, panic, ret, ask, look, bind, Ran, ran, run}
use Rattle.model.specs.Safety.{Sure, Safe, ReducesTo}
use Rattle.model.specs.Store.{Kind, rel, arity, Store, nodes}
use Rattle.model.specs.WellFormed.{Extends}
use Rattle.model.proofs.Bools.{by_test}
use Rattle.model.proofs.Settle.{run_ext}
use Rattle.memory.specs.declared.Properties.{Properties}
use Rattle.memory.specs.declared.Lookup.{Lookup}
use Rattle.memory.specs.declared.Lookup.TheVariants.{Answer, Operands}
use Rattle.memory.specs.Performing.{RunState, run_state, going, ended, told, Ready, ends, Writes, Runs, Condition, PerformsOn, Performs, ReducesOn}
use Rattle.memory.specs.Performing.{looked_up, LooksUpOn}
use Rattle.memory.specs.Performing.{ReadsChildren, KnowsProperties}
use Rattle.memory.specs.Rows.{places, plain, places_of}
use Rattle.memory.specs.Working.{Right}
use Rattle.memory.proofs.Rows.{plain_length}

pub writes_same : {c n : ℕ} {m : List ℕ} → n ≤ places c m → Writes c n m m n
writes_same h = record { grows = omega arith; head = refl; rest = refl; most = h; long = refl }

pub places_same : (c : ℕ) (m m' : List ℕ) → length m' ≡ length m → places c m' ≡ places c m
places_same c m m' e = ap (λ l. places_of l c) e

pub writes_then : {c a b d : ℕ} {m m₁ m₂ : List ℕ} → Writes c a m m₁ b → Writes c b m₁ m₂ d → Writes c a m m₂ d
writes_then {c} {a} {b} {d} {m} {m₁} {m₂} p q = record {
  grows = omega (arith, p.grows, q.grows);
  head = shorter m₂ m₁ q.head ∙ p.head;
  rest = q.rest ∙ later m₁ m p.rest;
  most = subst (λ n. d ≤ n) (places_same c m m₁ p.long) q.most;
  long = q.long ∙ p.long;
}
  where
    shorter : (x y : List ℕ) → take (c * b) x ≡ take (c * b) y → take (c * a) x ≡ take (c * a) y
    shorter x y e = let l = mul-le-mul_left c p.grows in sym (take-take (c * a) (c * b) x l) ∙ ap (take (c * a)) e ∙ take-take (c * a) (c * b) y l

    later : (x y : List ℕ) → drop (c * b) x ≡ drop (c * b) y → drop (c * d) x ≡ drop (c * d) y
    later x y e =
        let l = mul-le-mul_left c q.grows in
        let k : c * b + (c * d - c * b) ≡ c * d = omega arith in
        let f : (z : List ℕ) → drop (c * d) z ≡ drop (c * d - c * b) (drop (c * b) z)
        = λ z. ap (λ j. drop j z) (sym k) ∙ sym (drop-drop (c * d - c * b) (c * b) z) in
        f x ∙ ap (drop (c * d - c * b)) e ∙ sym (f y)

pub false≢true : false ≡ true → ⊥
false≢true e = let z : ◌≡◌ {A = ℕ} 0 1 = cc in omega arith

and_left : (a b : Bool) → (a && b) ≡ true → a ≡ true
and_left true b e = refl
and_left false b e = e

and_same : (b : Bool) {c d : Bool} → (b ≡ true → c ≡ d) → (b && c) ≡ (b && d)
and_same true e = e refl
and_same false e = refl

-- nothing is done after a failure
pub performs_stuck : {Q : Condition} {K : Kind} {p : Prog} {s : RunState} {m w : List ℕ} → s.ok ≡ false → PerformsOn Q K p s m m w w s
performs_stuck e = record {
  runs = λ B c R. record { okay = rw e; done = λ t. absurd (false≢true (sym e ∙ t)); writes = writes_same R.room; work_length = refl };
}

-- what holds over every store holds over those with Q
pub performs_on : {Q : Condition} {K : Kind} {p : Prog} {s r : RunState} {m m' w w' : List ℕ} → Performs K p s m m' w w' r → PerformsOn Q K p s m m' w w' r
performs_on d = record { runs = λ B c R. d.runs B tt R }

-- TWO CALLS, one after the other
pub ext_longer : (K : Kind) {S S' : Store} → Extends S S' → length (nodes K S) ≤ length (nodes K S')
ext_longer K {S} {S'} E = omega (arith, ap length (E.split K), length-append (nodes K S) (E.tail K))

-- what did not fit does not fit later
over_then : (K : Kind) (p : Prog) (f : ℕ → Prog) (S : Store) (b : Bool) (n : ℕ) → (b && leb (ends K p S) n) ≡ false
    → (b && leb (ends K (bind p f) S) n) ≡ false
unfolding ends run
over_then K p f S false n e = refl
over_then K p f S true n e = lt-leb _ n (omega (
  arith,
  leb-false (length (nodes K (run p S).store)) n e,
  ext_longer K
      (run_ext (f (run p S).value) (run p S).store),
))

module _ {K : Kind} {p : Prog} {B : Store} {s r : RunState} {m m' w w' : List ℕ} (d : Runs K p B s m m' w w' r) where
  pub was_ok : r.ok ≡ true → s.ok ≡ true
  was_ok t = and_left s.ok _ (sym d.okay ∙ t)

  -- the nodes and the value are the run's
  pub done_ran : r.ok ≡ true → ran (plain K B m' r.n) r.h ≡ run p (plain K B m s.n)
  done_ran t i = ran ((d.done t).store i) ((d.done t).value i)

module _ {Q : Condition} {K : Kind} {p : Prog} {f : ℕ → Prog} {s r₁ r₂ : RunState} {m m₁ m₂ w w₁ w₂ : List ℕ} (d : PerformsOn Q K p s m m₁ w w₁ r₁)
    (e : PerformsOn Q K (f r₁.h) r₁ m₁ m₂ w₁ w₂ r₂) (B : Store) (c : Q B) (R : Ready K (bind p f) B s m w) where
  first_runs : Runs K p B s m m₁ w w₁ r₁
  unfolding Safe
  first_runs = d.runs B c (record { room = R.room; live = λ t. record { safe = (R.live t).safe.0; work = (R.live t).work } })

  second_runs : Runs K (f r₁.h) B r₁ m₁ m₂ w₁ w₂ r₂
  unfolding Safe
  second_runs = let a = first_runs in e.runs B c (record {
    room = subst (λ n. r₁.n ≤ n) (sym (places_same (arity K) m m₁ a.writes.long)) a.writes.most;
    live = λ t. record {
      safe = subst (λ (Q : Ran). Safe (f Q.value) Q.store) (sym (done_ran a t)) (R.live (was_ok a t)).safe.1;
      work = (a.done t).work;
    };
  })

  -- the second run from where the first ended
  both_ran : r₁.ok ≡ true → run (f r₁.h) (plain K B m₁ r₁.n) ≡ run (bind p f) (plain K B m s.n)
  unfolding run
  both_ran t = ap (λ (Q : Ran). run (f Q.value) Q.store) (done_ran first_runs t)

  both_okay : r₂.ok ≡ (s.ok && leb (ends K (bind p f) (plain K B m s.n)) (places (arity K) m))
  unfolding ends
  both_okay = let a = first_runs in let b = second_runs in by_test
      (λ t. r₁.ok ≡ t → r₂.ok ≡ (s.ok && leb (ends K (bind p f) (plain K B m s.n)) (places (arity K) m))) r₁.ok
      (λ x t. b.okay ∙ (λ i. t i && leb (length (nodes K (both_ran t i).store)) (places_same (arity K) m m₁ a.writes.long i))
      ∙ ap (λ b. b && leb (ends K (bind p f) (plain K B m s.n)) (places (arity K) m)) (sym (was_ok a t)))
      (λ x t. b.okay ∙ ap (λ b. b && leb (ends K (f r₁.h) (plain K B m₁ r₁.n)) (places (arity K) m₁)) t
      ∙ sym (over_then K p f (plain K B m s.n) s.ok (places (arity K) m) (sym a.okay ∙ t)))
      refl

  both_runs : Runs K (bind p f) B s m m₂ w w₂ r₂
  both_runs = let a = first_runs in let b = second_runs in record {
    okay = both_okay;
    done = λ t. let u = was_ok b t in record {
      store = (b.done t).store ∙ ap (λ (Q : Ran). Q.store) (both_ran u);
      value = (b.done t).value ∙ ap (λ (Q : Ran). Q.value) (both_ran u);
      work = (b.done t).work;
    };
    writes = writes_then a.writes b.writes;
    work_length = b.work_length ∙ a.work_length;
  }

-- a call does not read the number that the step before it gave
performs_from : {Q : Condition} {K : Kind} {p : Prog} {n : ℕ} (h : ℕ) {r : RunState} {m m' w w' : List ℕ} → PerformsOn Q K p (going n) m m' w w' r
    → PerformsOn Q K p (run_state true n h) m m' w w' r
performs_from h d = record {
  runs = λ B c R. let b = d.runs B c (record { room = R.room; live = λ t. record { safe = (R.live t).safe; work = (R.live t).work } }) in record {
    okay = b.okay;
    done = λ t. record { store = (b.done t).store; value = (b.done t).value; work = (b.done t).work };
    writes = b.writes;
    work_length = b.work_length;
  };
}

-- one after the other, after a failure or not
pub performs_then : {Q : Condition} {K : Kind} {p : Prog} {f : ℕ → Prog} {s r₁ r₂ : RunState} {m m₁ m₂ w w₁ w₂ : List ℕ} → PerformsOn Q K p s m m₁ w w₁ r₁
    → PerformsOn Q K (f r₁.h) r₁ m₁ m₂ w₁ w₂ r₂ → PerformsOn Q K (bind p f) s m m₂ w w₂ r₂
performs_then d e = record { runs = λ B c R. both_runs d e B c R }

-- the first gave h, and the second goes on with it; the first gave nothing, so that the rest is not done
module _ {Q : Condition} {K : Kind} {p : Prog} {f : ℕ → Prog} {s : RunState} {n : ℕ} {r : Option ℕ} {m m₁ w w₁ : List ℕ}
    (d : PerformsOn Q K p s m m₁ w w₁ (ended n r)) where
  pub performs_next : {h : ℕ} {q : RunState} {m₂ w₂ : List ℕ} → r ≡ Some h → PerformsOn Q K (f h) (going n) m₁ m₂ w₁ w₂ q
      → PerformsOn Q K (bind p f) s m m₂ w w₂ q
  performs_next {h} e a = performs_then (subst (λ x. PerformsOn Q K p s m m₁ w w₁ (ended n x)) e d) (performs_from h a)

  pub performs_stop : r ≡ None → PerformsOn Q K (bind p f) s m m₁ w w₁ (ended n None)
  performs_stop e = performs_then {f = f} (subst (λ x. PerformsOn Q K p s m m₁ w w₁ (ended n x)) e d) (performs_stuck refl)

-- WHAT IS LEFT of p where it is safe and the working memory right is done by a call, after a failure or not
pub performs_left : {Q : Condition} {K : Kind} {p q : Prog} {s r : RunState} {m m' w w' : List ℕ}
    → ((B : Store) → Q B → s.n ≤ places (arity K) m → Safe p (plain K B m s.n) → Right K B w m s.n → ReducesTo p q (plain K B m s.n))
    → PerformsOn Q K q s m m' w w' r → PerformsOn Q K p s m m' w w' r
unfolding ends
performs_left {Q} {K} {p} {q} {s} {m = m} {w = w} u d = record {
  runs = λ B c R. let b = d.runs B c (record { room = R.room; live = λ t. record { safe = (left B c R t).safe; work = (R.live t).work } }) in record {
    okay = b.okay ∙ and_same s.ok (λ t. ap (λ (Q : Ran). leb (length (nodes K Q.store)) (places (arity K) m)) (sym (left B c R t).runs));
    done = λ t. let e = sym (left B c R (was_ok b t)).runs in record {
      store = (b.done t).store ∙ ap (λ (Q : Ran). Q.store) e;
      value = (b.done t).value ∙ ap (λ (Q : Ran). Q.value) e;
      work = (b.done t).work;
    };
    writes = b.writes;
    work_length = b.work_length;
  };
}
  where
    left : (B : Store) → Q B → Ready K p B s m w → s.ok ≡ true → ReducesTo p q (plain K B m s.n)
    left B c R t = u B c R.room (R.live t).safe (R.live t).work

-- the test t has the answer b wherever it may be made
pub record TestIs (Q : Condition) (K : Kind) (m w : List ℕ) (t : Test) (b : Bool) : Type 0 where
  pub decides : (B : Store) → Q B → (n : ℕ) → n ≤ places (arity K) m → Right K B w m n → Sure t (plain K B m n) → holds t (plain K B m n) ≡ b

module _ {Q : Condition} {K : Kind} {p : Prog} {m w : List ℕ} where
  pub begin : ReducesOn Q K p p m w
  begin = record { left = λ B c n l a R. record { runs = refl; safe = a } }

  pub turn : {q q' : Prog} → ReducesOn Q K p q m w
      → ((B : Store) → Q B → (n : ℕ) → n ≤ places (arity K) m → Safe q (plain K B m n) → Right K B w m n → ReducesTo q q' (plain K B m n))
      → ReducesOn Q K p q' m w
  turn u f = record {
    left = λ B c n l a R. let x = u.left B c n l a R in let y = f B c n l x.safe R in record { runs = x.runs ∙ y.runs; safe = y.safe };
  }

  pub further : {q q' : Prog} → ReducesOn Q K p q m w → ReducesOn Q K q q' m w → ReducesOn Q K p q' m w
  further u v = turn u (λ B c n l a R. v.left B c n l a R)

  -- the same program by another name
  pub by : {q q' : Prog} → ReducesOn Q K p q m w → q ≡ q' → ReducesOn Q K p q' m w
  by {q} u e = turn u (λ B c n l a R. subst (λ x. ReducesTo q x (plain K B m n)) e (record { runs = refl; safe = a }))

  -- the test holds; it does not
  pub yes : {t : Test} {q q' : Prog} → ReducesOn Q K p (ask t q q') m w → TestIs Q K m w t true → ReducesOn Q K p q m w
  unfolding run Safe
  yes u f = turn u (λ B c n l a R. let e = f.decides B c n l R a.0 in record { runs = rw e; safe = rw e at a.1 })

  pub no : {t : Test} {q q' : Prog} → ReducesOn Q K p (ask t q q') m w → TestIs Q K m w t false → ReducesOn Q K p q' m w
  unfolding run Safe
  no u f = turn u (λ B c n l a R. let e = f.decides B c n l R a.0 in record { runs = rw e; safe = rw e at a.1 })

  -- the children of h are x
  pub looked : {f : List ℕ → Prog} {h : ℕ} {x : List ℕ} → ReducesOn Q K p (look K h f) m w → ReadsChildren K m h x → ReducesOn Q K p (f x) m w
  unfolding run Safe
  looked {f} u k = turn u (λ B c n l a R. let e = k.kids B n l a.0 in record {
    runs = ap (λ y. run (f y) (plain K B m n)) e;
    safe = subst (λ y. Safe (f y) (plain K B m n)) e a.1;
  })

  -- RETURNS: all that is left is done by a call; nothing can be left at level 0
  pub called : {q : Prog} {s r : RunState} {m' w' : List ℕ} → ReducesOn Q K p q m w → PerformsOn Q K q s m m' w w' r → PerformsOn Q K p s m m' w w' r
  called {s = s} u = performs_left (λ B c. u.left B c s.n)

  pub impossible_in : {s r : RunState} {m' w' : List ℕ} → s.ok ≡ true → ReducesOn Q K p panic m w → PerformsOn Q K p s m m' w w' r
  unfolding Safe
  impossible_in {s = s} ok u = record { runs = λ B c R. let F = R.live ok in absurd (u.left B c s.n R.room F.safe F.work).safe }

  pub impossible : {n : ℕ} {r : RunState} {m' w' : List ℕ} → ReducesOn Q K p panic m w → PerformsOn Q K p (going n) m m' w w' r
  impossible u = impossible_in refl u

  -- in any state, where nothing is done
  pub never : {s : RunState} → ReducesOn Q K p panic m w → PerformsOn Q K p s m m w w s
  never {s} u = by_test (λ b. s.ok ≡ b → PerformsOn Q K p s m m w w s) s.ok (λ _ e. impossible_in e u) (λ _ e. performs_stuck e) refl

-- tests on numbers, and on known properties
pub same_says : {Q : Condition} {K : Kind} {m w : List ℕ} {a b : ℕ} {v : Bool} → eqb a b ≡ v → TestIs Q K m w (same a b) v
same_says e = record { decides = λ B c n l R s. e }

pub less_says : {Q : Condition} {K : Kind} {m w : List ℕ} {a b : ℕ} {v : Bool} → ltb a b ≡ v → TestIs Q K m w (less a b) v
less_says e = record { decides = λ B c n l R s. e }

module _ {Q : Condition} {K : Kind} {m w : List ℕ} {l h : ℕ} {r : Properties} {v : Bool} (T' : KnowsProperties K m w l h r) where
  pub empty_says : r.empty ≡ v → TestIs Q K m w (has is_empty K l h) v
  empty_says e = record { decides = λ B c n i R s. (T'.knows R.fields B n i R.formed R.words s).empty ∙ e }

  pub universal_says : r.universal ≡ v → TestIs Q K m w (has is_universal K l h) v
  universal_says e = record { decides = λ B c n i R s. (T'.knows R.fields B n i R.formed R.words s).universal ∙ e }

pub identity_says : {Q : Condition} {m w : List ℕ} {l h : ℕ} {r : Properties} {v : Bool} → KnowsProperties rel m w l h r → r.identity ≡ v
    → TestIs Q rel m w (has is_identity rel l h) v
identity_says A e = record { decides = λ B c n i R s. (A.knows R.fields B n i R.formed R.words s).identity refl ∙ e }

-- a number is given; it is what is left
pub performs_ret : {Q : Condition} {K : Kind} {n h : ℕ} {m w : List ℕ} → PerformsOn Q K (ret h) (going n) m m w w (ended n (Some h))
unfolding run ends
performs_ret {K = K} {n} {m = m} = record {
  runs = λ B c R. record {
    okay = sym (le-leb _ (places (arity K) m) (omega (arith, plain_length K B m n, R.room)));
    done = λ t. record { store = refl; value = refl; work = (R.live t).work };
    writes = writes_same R.room;
    work_length = refl;
  };
}

pub given : {Q : Condition} {K : Kind} {p : Prog} {n h : ℕ} {m w : List ℕ} → ReducesOn Q K p (ret h) m w
    → PerformsOn Q K p (going n) m m w w (ended n (Some h))
given u = called u performs_ret

-- a test is left, and is answered
pub tested : {Q : Condition} {K : Kind} {p : Prog} {n : ℕ} {t : Test} {b : Bool} {m w : List ℕ} → ReducesOn Q K p (ask t (ret 1) (ret 0)) m w
    → TestIs Q K m w t b → PerformsOn Q K p (going n) m m w w (told n b)
tested {b = true} u f = given (yes u f)
tested {b = false} u f = given (no u f)

-- the same program by another name
pub performs_by : {Q : Condition} {K : Kind} {p q : Prog} {s r : RunState} {m m' w w' : List ℕ} → p ≡ q → PerformsOn Q K q s m m' w w' r
    → PerformsOn Q K p s m m' w w' r
performs_by {Q} {K} {s = s} {r = r} {m = m} {m' = m'} {w = w} {w' = w'} e d = subst (λ x. PerformsOn Q K x s m m' w w' r) (sym e) d

-- a test on numbers made between two calls, after a failure or not
performs_test : {Q : Condition} {K : Kind} {p q : Prog} {s r : RunState} {m m' w w' : List ℕ} → ((S : Store) → run p S ≡ run q S)
    → ((S : Store) → Safe p S → Safe q S) → PerformsOn Q K q s m m' w w' r → PerformsOn Q K p s m m' w w' r
performs_test e f d = performs_left (λ B c l a R. record { runs = e _; safe = f _ a }) d

module _ {Q : Condition} {K : Kind} {q q' : Prog} {s r : RunState} {m m' w w' : List ℕ} (a b : ℕ) where
  pub performs_same : eqb a b ≡ true → PerformsOn Q K q s m m' w w' r → PerformsOn Q K (ask (same a b) q q') s m m' w w' r
  unfolding run Safe
  performs_same e = performs_test (λ S. rw e) (λ S h. rw e at h.1)

  pub performs_differ : eqb a b ≡ false → PerformsOn Q K q' s m m' w w' r → PerformsOn Q K (ask (same a b) q q') s m m' w w' r
  unfolding run Safe
  performs_differ e = performs_test (λ S. rw e) (λ S h. rw e at h.1)

  pub performs_less : ltb a b ≡ true → PerformsOn Q K q s m m' w w' r → PerformsOn Q K (ask (less a b) q q') s m m' w w' r
  unfolding run Safe
  performs_less e = performs_test (λ S. rw e) (λ S h. rw e at h.1)

  pub performs_not_less : ltb a b ≡ false → PerformsOn Q K q' s m m' w w' r → PerformsOn Q K (ask (less a b) q q') s m m' w w' r
  unfolding run Safe
  performs_not_less e = performs_test (λ S. rw e) (λ S h. rw e at h.1)

-- ANSWERS of shortcuts
module _ {Q : Condition} {K : Kind} {p : Prog} {node : ℕ → ℕ → Prog} {m w : List ℕ} where
  pub answer : {h : ℕ} → ReducesOn Q K p (ret h) m w → LooksUpOn Q K p node m w (Answer h)
  unfolding run
  answer u = record { answers = λ B c n l a R. (u.left B c n l a R).runs }

  pub answer_reduces : {r : Lookup} {h : ℕ} → LooksUpOn Q K p node m w r → r ≡ Answer h → ReducesOn Q K p (ret h) m w
  unfolding run Safe
  answer_reduces {r} {h} a e = record {
    left = λ B c n l s R. record {
      runs = subst (λ z. looked_up p node (plain K B m n) z) e
          (a.answers B c n l s R);
      safe = tt;
    };
  }

  pub node_reduces : {r : Lookup} {x y : ℕ} → LooksUpOn Q K p node m w r → r ≡ Operands x y → ReducesOn Q K p (node x y) m w
  node_reduces a e = record { left = λ B c n l s R. subst (λ z. looked_up p node (plain K B m n) z) e (a.answers B c n l s R) }
