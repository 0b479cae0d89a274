-- Programs that say yes or no, asked one after another, and their answers as a `bool`.
use mathlib.Core.Path.{◌≡◌, refl, sym, ap, ◌∙◌, subst}
use mathlib.Core.Bool.{Bool, true, false}
use mathlib.Core.List.{List}
use mathlib.Core.Logic.{◌⊎◌, inl, inr}
use Prim.Native.Nat.{ℕ, zero, suc, ◌<◌}
use native.Mathlib.Omega.{arith}
use lib.Dec.{eqb}
use Rattle.std.specs.Int.{from_bool}
use Rattle.model.specs.Programs.{Prog, ret, ran, run}
use Rattle.model.specs.Recursion.{or_else}
use Rattle.model.specs.Safety.{Safe}
use Rattle.model.specs.Store.{Kind, Store}
use Rattle.model.proofs.Bools.{by_test}
use Rattle.memory.specs.Performing.{RunState, going, told, Condition, PerformsOn, ReducesOn}
use Rattle.memory.specs.Rows.{plain}
use Rattle.memory.proofs.Steps.{performs_left, given}
use Rattle.memory.proofs.YesNo.{YesNo, yes_no_value, either_first, either_second}

yes_is : (h : ℕ) → h < 2 → h ≡ from_bool (eqb h 1)
yes_is zero l = refl
yes_is (suc zero) l = refl
yes_is (suc (suc h)) l = absurd (omega arith)

-- a number that such a program gives is yes where it is 1
pub yes_left : {Q : Condition} {K : Kind} {p : Prog} {m w : List ℕ} {h : ℕ} → YesNo p → ReducesOn Q K p (ret h) m w
    → ReducesOn Q K p (ret (from_bool (eqb h 1))) m w
unfolding run Safe
yes_left {K = K} {p} {m} {w} {h} y u = record {
  left = λ B c n l a R. let x = u.left B c n l a R in record {
    runs = x.runs ∙ ap (ran (plain K B m n)) (yes_is h (subst (λ T. T.value < 2) x.runs (yes_no_value p (plain K B m n) y)));
    safe = tt;
  };
}

-- an answer is told
pub answer_told : {Q : Condition} {K : Kind} {p : Prog} {n : ℕ} (b : Bool) {m w : List ℕ} → ReducesOn Q K p (ret (from_bool b)) m w
    → PerformsOn Q K p (going n) m m w w (told n b)
answer_told true u = given u
answer_told false u = given u

-- after a program that says v and leaves w₁: where v is no, q is asked, says u and leaves w₂. The code joins both ways to one, where it says z and leaves x
abbrev pub Asked : Condition → Kind → Prog → ℕ → List ℕ → Bool → List ℕ → Bool → List ℕ → Type 0
Asked Q K q n m v w₁ z x = ((v ≡ true) × (x ≡ w₁) × (z ≡ v))
    ⊎ ((u : Bool) × (w₂ : List ℕ) × (v ≡ false) × PerformsOn Q K q (going n) m m w₁ w₂ (told n u) × (x ≡ w₂) × (z ≡ u))

told_as : {Q : Condition} {K : Kind} {p : Prog} {n : ℕ} (y z : Bool) {m w w₂ x : List ℕ} → x ≡ w₂ → z ≡ y
    → PerformsOn Q K p (going n) m m w w₂ (told n y) → PerformsOn Q K p (going n) m m w x (told n z)
told_as {Q} {K} {p} {n} y z {m} {w} {w₂} {x} e f a = subst (λ x. PerformsOn Q K p (going n) m m w x (told n z)) (sym e)
    (subst (λ z. PerformsOn Q K p (going n) m m w w₂ (told n z)) (sym f) a)

pub or_asked : {Q : Condition} {K : Kind} {p q : Prog} {n : ℕ} {m w w₁ : List ℕ} (v z : Bool) (x : List ℕ)
    → PerformsOn Q K p (going n) m m w w₁ (told n v) → Asked Q K q n m v w₁ z x → PerformsOn Q K (or_else p q) (going n) m m w x (told n z)
or_asked v z x d (inl a) = told_as v z a.1 a.2 (either_first d a.0)
or_asked v z x d (inr a) = told_as a.0 z a.4 a.5 (either_second d a.0 a.2 a.3)

-- the code asks two, and then a third
or_right : (a b c : Prog) (S : Store) → run (or_else a (or_else b c)) S ≡ run (or_else (or_else a b) c) S
unfolding run
or_right a b c S = by_test (λ v. eqb (run a S).value 1 ≡ v → run (or_else a (or_else b c)) S ≡ run (or_else (or_else a b) c) S)
    (eqb (run a S).value 1) (λ _ e. rw e) (λ _ e. rw e) refl

or_safe : (a b c : Prog) (S : Store) → Safe (or_else a (or_else b c)) S → Safe (or_else (or_else a b) c) S
unfolding run Safe
or_safe a b c S s = by_test (λ v. eqb (run a S).value 1 ≡ v → Safe (or_else (or_else a b) c) S)
    (eqb (run a S).value 1)
    (λ _ e. let u = rw e at s in rw e ((u.0, (tt, tt)), (tt, tt)))
    (λ _ e. let u = rw e at s in rw e ((u.0, (tt, u.1.1.0)), u.1.1.1)) refl

pub or_left : {Q : Condition} {K : Kind} {a b c : Prog} {s r : RunState} {m m' w w' : List ℕ} → PerformsOn Q K (or_else (or_else a b) c) s m m' w w' r
    → PerformsOn Q K (or_else a (or_else b c)) s m m' w w' r
or_left {a = a} {b} {c} d = performs_left (λ B q l s R. record { runs = or_right a b c _; safe = or_safe a b c _ s }) d
