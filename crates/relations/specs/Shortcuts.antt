-- What the shortcuts of an operation on relations leave to do, where another operation may answer; and shortcuts without a name in `model`.
use Rattle.std.specs.Prelude.{◌≡◌, List, ℕ, ◌≤◌}
use Rattle.model.specs.Store.{rel, Store}
use Rattle.model.specs.Programs.{is_empty, is_universal, less, has, Prog, ret, ask, ran, run}
use Rattle.model.specs.Operations.{complement}
use Rattle.model.specs.Safety.{Safe, ReducesTo}
use Rattle.memory.specs.Rows.{places, plain}
use Rattle.memory.specs.Working.{Right}
use Rattle.memory.specs.declared.Lookup.{Lookup}
use Rattle.memory.specs.declared.Lookup.TheVariants as lookup
use Rattle.relations.specs.declared.Shortcut.{Shortcut}
use Rattle.relations.specs.declared.Shortcut.TheVariants.{Answer, Delegate, Recurse}

-- the answer of p is known, or what is left of it: another operation, or the node on these operands
abbrev pub by_shortcut : Prog → (ℕ → Prog) → (ℕ → ℕ → Prog) → Store → Shortcut → Type 0
by_shortcut p other node S (Answer h) = run p S ≡ ran S h
by_shortcut p other node S (Delegate x) = ReducesTo p (other x) S
by_shortcut p other node S (Recurse x y) = ReducesTo p (node x y) S

pub record TakesShortcut (p : Prog) (other : ℕ → Prog) (node : ℕ → ℕ → Prog) (m w : List ℕ) (r : Shortcut) : Type 0 where
  pub takes : (B : Store) (n : ℕ) → n ≤ places 4 m → Safe p (plain rel B m n) → Right rel B w m n → by_shortcut p other node (plain rel B m n) r

abbrev pub shortcut_of : Lookup → Shortcut
shortcut_of (lookup.Answer h) = Answer h
shortcut_of (lookup.Operands x y) = Recurse x y

-- the tests of `union` and `intersect` where a is not empty: x where b is full, y where b is empty or a full
abbrev pub lattice_tests : ℕ → ℕ → ℕ → ℕ → ℕ → (ℕ → ℕ → Prog) → Prog
lattice_tests l a b x y node =
    ask (has is_universal rel l b) (ret x)
    (ask (has is_empty rel l b) (ret y)
    (ask (has is_universal rel l a) (ret y)
    (ask (less b a) (node b a) (node a b))))

-- the tests of `difference` after that on equal operands
abbrev pub difference_tests : ℕ → ℕ → ℕ → (ℕ → ℕ → Prog) → Prog
difference_tests l a b node =
    ask (has is_empty rel l a) (ret a)
    (ask (has is_empty rel l b) (ret a)
    (ask (has is_universal rel l a) (complement rel l b) (node a b)))
