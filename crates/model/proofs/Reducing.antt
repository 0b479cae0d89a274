-- Shorter programs: what adds nothing and answers at once is left out, step by step; and a safe program keeps a store well formed.
use mathlib.Core.Path.{◌≡◌, refl, sym, ap, ◌∙◌, subst}
use mathlib.Core.List.{List}
use mathlib.Core.Bool.{Bool}
use Prim.Native.Nat.{ℕ, ◌+◌, ◌≤◌}
use native.Mathlib.Omega.{arith}
use Rattle.model.specs.Programs.{holds, Prog, panic, ret, ask, look, mk, bind, ◌>>=◌, Ran, ran, run}
use Rattle.model.specs.Safety.{Within, Safe, Settled, ReducesTo}
use Rattle.model.specs.Store.{rel, Store, pick, get}
use Rattle.model.specs.WellFormed.{WellFormed, Extends}
use Rattle.model.proofs.Bools.{by_test}
use Rattle.model.proofs.Mk.{mk_formed}
use Rattle.model.proofs.Settle.{run_ext}

-- the program itself; two steps
pub reduces_same : {p : Prog} {S : Store} → Safe p S → ReducesTo p p S
reduces_same s = record { runs = refl; safe = s }

pub reduces_then : {p q r : Prog} {S : Store} → ReducesTo p q S → (Safe q S → ReducesTo q r S) → ReducesTo p r S
reduces_then a f = let b = f a.safe in record { runs = a.runs ∙ b.runs; safe = b.safe }

module _ {p : Prog} {f : ℕ → Prog} {S : Store} where
  -- the first program stays, and what follows it is shorter
  pub keeping : {g : ℕ → Prog} → Safe (bind p f) S
      → (Safe p S → Safe (f (run p S).value) (run p S).store → ReducesTo (f (run p S).value) (g (run p S).value) (run p S).store)
      → ReducesTo (bind p f) (bind p g) S
  unfolding run Safe
  keeping s c = let r = c s.0 s.1 in record { runs = r.runs; safe = (s.0, r.safe) }

  -- the first program adds nothing and gives v
  pub skipping : {q : Prog} {v : ℕ} → Safe (bind p f) S → (Safe p S → run p S ≡ ran S v) → (Safe p S → Safe (f v) S → ReducesTo (f v) q S)
      → ReducesTo (bind p f) q S
  unfolding run Safe
  skipping s e c = let r = c s.0 (subst (λ (R : Ran). Safe (f R.value) R.store) (e s.0) s.1) in record {
    runs = ap (λ (R : Ran). run (f R.value) R.store) (e s.0) ∙ r.runs;
    safe = r.safe;
  }

-- BECOMES: in S p runs as q, whether it is safe or not, and q is safe where p is
pub record Becomes (p q : Prog) (S : Store) : Type 0 where
  pub runs : run p S ≡ run q S
  pub safe : Safe p S → Safe q S

pub named : {p q : Prog} {S : Store} → p ≡ q → Becomes p q S
named {p} {q} {S} e = record { runs = ap (λ x. run x S) e; safe = subst (λ x. Safe x S) e }

pub further : {p q r : Prog} {S : Store} → Becomes p q S → Becomes q r S → Becomes p r S
further a b = record { runs = a.runs ∙ b.runs; safe = λ s. b.safe (a.safe s) }

-- what comes first, what comes then
pub at_first : {p q : Prog} {f : ℕ → Prog} {S : Store} → Becomes p q S → Becomes (p >>= f) (q >>= f) S
unfolding run Safe
at_first {f = f} a = record {
  runs = ap (λ (R : Ran). run (f R.value) R.store) a.runs;
  safe = λ s. (a.safe s.0, subst (λ (R : Ran). Safe (f R.value) R.store) a.runs s.1);
}

pub and_then : {p : Prog} {f g : ℕ → Prog} {S : Store} → ((S' : Store) (r : ℕ) → Extends S S' → Becomes (f r) (g r) S') → Becomes (p >>= f) (p >>= g) S
unfolding run Safe
and_then {p} {S = S} u = let v = u (run p S).store (run p S).value (run_ext p S) in record { runs = v.runs; safe = λ s. (s.0, v.safe s.1) }

-- a step that adds nothing
pub passed : {p : Prog} {f : ℕ → Prog} {S S' : Store} {h : ℕ} → Settled p S h → Extends S S' → Becomes (p >>= f) (f h) S'
unfolding run Safe
passed {f = f} {S' = S'} s E = let e = s.again S' E in record {
  runs = ap (λ (R : Ran). run (f R.value) R.store) e;
  safe = λ t. subst (λ (R : Ran). Safe (f R.value) R.store) e t.1;
}

pub regrouped : {p : Prog} {q : ℕ → Prog} {f : ℕ → Prog} {S : Store} → Becomes (p >>= λ r. q r >>= f) ((p >>= q) >>= f) S
unfolding run Safe
regrouped = record { runs = refl; safe = λ s. ((s.0, s.1.0), s.1.1) }

pub seen : {h : ℕ} {x : List ℕ} {f : List ℕ → Prog} {S : Store} → Within rel S h → get rel S h ≡ x → Becomes (f x) (look rel h f) S
unfolding run Safe
seen {f = f} {S = S} w e = record { runs = ap (λ y. run (f y) S) (sym e); safe = λ s. (w, subst (λ y. Safe (f y) S) (sym e) s) }

-- FORMED: the store is well formed, with some number of fields
pub record Formed (S : Store) : Type 0 where
  pub fields : ℕ
  pub rules : WellFormed fields S

-- more fields do no harm
pub formed_more : {k k' : ℕ} {S : Store} → k ≤ k' → WellFormed k S → WellFormed k' S
formed_more l F = record {
  fits = λ K i h. let f = F.fits K i h in record {
    sized = f.sized;
    level = f.level;
    under = omega (arith, f.under);
    below = f.below;
    earlier = f.earlier;
    even = f.even;
  };
  distinct = F.distinct;
}

pub run_formed : (p : Prog) (S : Store) → Safe p S → Formed S → Formed (run p S).store
unfolding run Safe
run_formed panic S s F = F
run_formed (ret h) S s F = F
run_formed (ask t p q) S s F =
    by_test (λ (b : Bool). pick b (Safe p S) (Safe q S) → Formed (pick b (run p S) (run q S)).store) (holds t S)
    (λ e u. run_formed p S u F)
    (λ e u. run_formed q S u F)
    s.1
run_formed (look K h f) S s F = run_formed (f (get K S h)) S s.1 F
run_formed (mk K x) S s F = record {
  fields = F.fields + s.level + 1;
  rules = mk_formed {l = s.level} K x (formed_more (omega arith) F.rules) (omega arith) s.sized s.held;
}
run_formed (bind p f) S s F = run_formed (f (run p S).value) (run p S).store s.1 (run_formed p S s.0 F)
