-- Programs on a plain store: what the Rust's methods do, as data, and how such a program runs.
use Rattle.std.specs.Prelude.{List, [], ◌∷◌, Bool, true, ◌&&◌, ℕ, zero, suc, ◌/◌, ◌%◌, eqb, ltb}
use Rattle.model.specs.Store.{Kind, arity, Store, child, pick, get, mk_store, mk_handle}

-- PROPERTIES of a handle: EMPTY, UNIVERSAL and, of relations, IDENTITY, the bits of spp.rs
pub data Property : Type 0 where
  is_empty is_universal is_identity : Property

-- where a walk along the digits ds ends, from a handle with the property; a relation's digit is 2 * input bit + output bit
abbrev pub ending : Property → List ℕ → ℕ
ending is_empty ds = 0
ending is_universal ds = 1
ending is_identity [] = 1
ending is_identity (d ∷ ds) = pick (eqb (d / 2) (d % 2)) (ending is_identity ds) 0

abbrev pub all_below : ℕ → (ℕ → Bool) → Bool
all_below zero f = true
all_below (suc n) f = f 0 && all_below n (λ d. f (suc d))

-- from h, of level l, every walk ends at f of its digits
unfoldable pub agrees : (List ℕ → ℕ) → Kind → ℕ → ℕ → Store → Bool
agrees f K zero h S = eqb h (f [])
agrees f K (suc l) h S = all_below (arity K) (λ d. agrees (λ ds. f (d ∷ ds)) K l (child K S h d) S)

-- TESTS that a program makes: two numbers are equal, one is less, a handle of level l has a property
pub data Test : Type 0 where
  same less : ℕ → ℕ → Test
  has : Property → Kind → ℕ → ℕ → Test

abbrev pub holds : Test → Store → Bool
holds (same a b) S = eqb a b
holds (less a b) S = ltb a b
holds (has P K l h) S = agrees (ending P) K l h S

-- PROGRAMS: give a number, ask, look at a handle's children (`get`), make a node (`mk`), one program after another.
-- `panic` is where the Rust would panic; no operation comes there on held operands.
pub data Prog : Type 0 where
  panic : Prog
  ret : ℕ → Prog
  ask : Test → Prog → Prog → Prog
  look : Kind → ℕ → (List ℕ → Prog) → Prog
  mk : Kind → List ℕ → Prog
  bind : Prog → (ℕ → Prog) → Prog

infixl 1 ◌>>=◌
abbrev pub ◌>>=◌ : Prog → (ℕ → Prog) → Prog
p >>= f = bind p f

pub record Ran : Type 0 where
  pub store : Store
  pub value : ℕ

abbrev pub ran : Store → ℕ → Ran
ran S v = record { store = S; value = v }

unfoldable pub run : Prog → Store → Ran
run panic S = ran S 0
run (ret h) S = ran S h
run (ask t p q) S = pick (holds t S) (run p S) (run q S)
run (look K h f) S = run (f (get K S h)) S
run (mk K x) S = ran (mk_store K x S) (mk_handle K x S)
run (bind p f) S = run (f (run p S).value) (run p S).store
