-- A call that is not declined has held operands of one level.
use mathlib.Core.Path.{◌≡◌, refl, sym, ap, ◌∙◌, subst}
use mathlib.Core.Bool.{Bool, true, false}
use Prim.Native.Nat.{ℕ, zero, suc, ◌<◌, ◌≤◌}
use native.Mathlib.Omega.{arith}
use lib.Dec.{ltb, eqb, T, ltb→lt}
use Rattle.model.specs.Store.{Kind, set, rel, Store}
use Rattle.model.specs.Programs.{Prog, Ran, panic}
use Rattle.model.specs.WellFormed.{Held, WellFormed, is_held, level_of}
use Rattle.model.proofs.Bools.{eqb_iff}
use Rattle.call_rules.specs.Outcome.{Verdict, gives, runs, unless_declined, guard, also, of_one, of_pair, of_two, of_four, of_path}
use Rattle.call_rules.specs.Outcome.{Check}
use Rattle.std.specs.Prelude.{Ok, Err}
use Rattle.call_rules.specs.declared.Refusal.{Refusal}
use Rattle.call_rules.proofs.Handles.{held_here, all_four}

-- CHECKS that pass
abbrev Continues : Check → Type 0
Continues (Ok l) = Unit {0}
Continues (Err r) = ⊥

abbrev pub level_in : Check → ℕ
level_in (Ok l) = l
level_in (Err r) = 0

pub guard_passed : (r : Refusal) (b : Bool) {c : Check} {l : ℕ} → guard r b c ≡ Ok l → (b ≡ true) × (c ≡ Ok l)
unfolding guard
guard_passed r true e = (refl, e)
guard_passed r false e = absurd (subst Continues (sym e) tt)

pub also_passed : (c : Check) (r : Refusal) (t : ℕ → Bool) {l : ℕ} → also c r t ≡ Ok l → (c ≡ Ok l) × (t l ≡ true)
unfolding also
also_passed (Ok j) r t {l} e = let q = guard_passed r (t j) e in (q.1, subst (λ l. t l ≡ true) (ap level_in q.1) q.0)
also_passed (Err q) r t e = absurd (subst Continues (sym e) tt)

-- a held operand and its level
pub record Operand (k : ℕ) (K : Kind) (S : Store) (l a : ℕ) : Type 0 where
  pub level : level_of k K S a ≡ l
  pub low : l ≤ k
  pub held : Held K S l a

module _ {k : ℕ} {S : Store} {l : ℕ} (F : WellFormed k S) where
  operand : (K : Kind) (a : ℕ) → is_held K S a ≡ true → level_of k K S a ≡ l → Operand k K S l a
  operand K a e f = let h = held_here K F a e in
      record { level = f; low = subst (λ l. l ≤ k) f h.0; held = subst (λ l. Held K S l a) f h.1 }

  at_level : (K : Kind) (a : ℕ) {j : ℕ} → is_held K S a ≡ true → eqb (level_of k K S a) j ≡ true → j ≡ l → Operand k K S l a
  at_level K a e f g = operand K a e ((eqb_iff _ _).0 (subst T (sym f) tt) ∙ g)

  pub one_passed : (K : Kind) (a : ℕ) → of_one k K S a ≡ Ok l → Operand k K S l a
  unfolding of_one
  one_passed K a e = let t = guard_passed _ _ e in operand K a t.0 (ap level_in t.1)

  -- operands of two kinds, and two of one
  pub pair_passed : (K J : Kind) (a b : ℕ) → of_pair k S K a J b ≡ Ok l → Operand k K S l a × Operand k J S l b
  unfolding of_pair
  pair_passed K J a b e =
      let s = guard_passed _ _ e in
      let t = guard_passed _ _ s.1 in
      let u = guard_passed _ _ t.1 in
      let q : level_of k K S a ≡ l = ap level_in u.1 in (operand K a s.0 q, at_level J b t.0 u.0 q)

  pub two_passed : (K : Kind) (a b : ℕ) → of_two k K S a b ≡ Ok l → Operand k K S l a × Operand k K S l b
  two_passed K a b e = pair_passed K K a b e

  pub four_passed : (K : Kind) (a b c d : ℕ) → of_four k K S a b c d ≡ Ok l
      → Operand k K S l a × Operand k K S l b × Operand k K S l c × Operand k K S l d
  unfolding of_four
  four_passed K a b c d e =
      let s = guard_passed _ _ e in
      let h = all_four _ _ _ _ s.0 in
      let t = guard_passed _ _ s.1 in
      let q = all_four true _ _ _ t.0 in
      let f : level_of k K S a ≡ l = ap level_in t.1 in
      (operand K a h.0 f, at_level K b h.1 q.1 f, at_level K c h.2 q.2 f, at_level K d h.3 q.3 f)

  -- a set, a relation and a set
  pub path_passed : (p a q : ℕ) → of_path k S p a q ≡ Ok l → Operand k set S l p × Operand k rel S l a × Operand k set S l q
  unfolding of_path
  path_passed p a q e =
      let s = guard_passed _ _ e in
      let t = also_passed _ _ _ s.1 in
      let u = pair_passed rel set a p t.0 in (u.1, u.0, at_level set q s.0 t.1 refl)

-- tests on numbers that were passed
pub less : (a b : ℕ) → ltb a b ≡ true → a < b
less a b e = ltb→lt a b (subst T (sym e) tt)

pub above : (l : ℕ) → ltb 0 l ≡ true → (n : ℕ) × (l ≡ suc n)
above zero e = absurd (let h = less 0 0 e in omega arith)
above (suc l) e = (l, refl)

-- VERDICTS of a call that is not declined
abbrev pub program_in : {A : Type 0} → Verdict A → Prog
program_in (gives a) = panic
program_in (runs p f) = p

abbrev Runs : {A : Type 0} → Verdict A → Type 0
Runs (gives a) = ⊥
Runs (runs p f) = Unit {0}

pub not_runs : {A : Type 0} {a : A} {p : Prog} {f : Ran → A} → gives a ≡ runs p f → ⊥
not_runs e = subst Runs (sym e) tt

-- what a call runs, it runs at its operands' level
pub record RunsAt (c : Check) (f : ℕ → Prog) (p : Prog) : Type 0 where
  pub level : ℕ
  pub passes : c ≡ Ok level
  pub program : f level ≡ p

module _ {A : Type 0} (refuse : Refusal → A) (c : Check) where
  pub declined_runs : (f : ℕ → Prog) (h : Ran → A) (p : Prog) (g : Ran → A) → unless_declined refuse c (λ l. runs (f l) h) ≡ runs p g → RunsAt c f p
  declined_runs f h p g e = by_check c refl e
    where
      by_check : (d : Check) → c ≡ d → unless_declined refuse d (λ l. runs (f l) h) ≡ runs p g → RunsAt c f p
      by_check (Ok l) q e = record { level = l; passes = q; program = ap program_in e }
      by_check (Err r) q e = absurd (not_runs e)

  -- a call that answers runs nothing
  pub declined_gives : (f : ℕ → A) (p : Prog) (g : Ran → A) → unless_declined refuse c (λ l. gives (f l)) ≡ runs p g → ⊥
  declined_gives f p g e = by_check c e
    where
      by_check : (d : Check) → unless_declined refuse d (λ l. gives (f l)) ≡ runs p g → ⊥
      by_check (Ok l) e = not_runs e
      by_check (Err r) e = not_runs e
