-- The reading from what each pass finds, in their order; from the definitions.
use mathlib.Core.Path.{◌≡◌, refl, sym, ap, ◌∙◌}
use Prim.Native.Nat.{ℕ}
use mathlib.Core.List.{List}
use mathlib.Core.Bool.{true≢false}
use Rattle.std.specs.Prelude.{Option, Some, None, Ok, Err, is_ok}
use Rattle.policy_text.specs.Lexicon.{Lexicon}
use Rattle.policy_text.specs.Machine.{Out, accept, bad, deep, reads}
use Rattle.policy_text.specs.Misreads.{misread, Reading}
use Rattle.policy_text.specs.declared.Fault.{Fault}
use Rattle.policy_text.specs.Posts.{read_of}
use Rattle.policy_text.specs.Reading.{first, does_offend, rules, reading_of, reading}
use Rattle.policy_text.specs.declared.Misread.{Misread}

ok≢err : {u : Unit {0}} {m : Misread} → Ok u ≡ Err m → ⊥
ok≢err e = true≢false (ap is_ok e)

module _ (X : Lexicon) (k : ℕ) (t : List ℕ) where
  -- refusals 7 and 9, by the grammar alone
  pub refused_reading : (m : Misread) → Err m ≡ read_of (reads X t) → Err m ≡ reading X k t
  unfolding reading reading_of read_of
  refused_reading m e = by (reads X t) e
    where
      by : (o : Out) → Err m ≡ read_of o → Err m ≡ reading_of X k t o
      by (accept p) h = absurd (ok≢err (sym h))
      by (bad j) h = h
      by (deep j) h = h

  -- the rules
  pub whole_reading : (u : Unit {0}) (r : Reading) → Ok u ≡ read_of (reads X t) → r ≡ rules (first (X.is_outside k) 0 t) (first (does_offend X) 0 t)
      → r ≡ reading X k t
  unfolding reading reading_of read_of
  whole_reading u r e g = g ∙ by (reads X t) e
    where
      by : (o : Out) → Ok u ≡ read_of o → rules (first (X.is_outside k) 0 t) (first (does_offend X) 0 t) ≡ reading_of X k t o
      by (accept p) h = refl
      by (bad j) h = absurd (ok≢err h)
      by (deep j) h = absurd (ok≢err h)

-- refusal 5, a field that is not there
pub no_field_rules : (f g : Option ℕ) (i : ℕ) → Some i ≡ f → Err (misread Fault.NoField i) ≡ rules f g
unfolding rules
no_field_rules f g i e = rw (← e) refl

-- refusal 8, `!` over a non-predicate
pub not_predicate_rules : (f g : Option ℕ) (i : ℕ) → None ≡ f → Some i ≡ g → Err (misread Fault.NotPredicate i) ≡ rules f g
unfolding rules
not_predicate_rules f g i e h = rw (← e, ← h) refl

pub policy_rules : (f g : Option ℕ) → None ≡ f → None ≡ g → Ok tt ≡ rules f g
unfolding rules
policy_rules f g e h = rw (← e, ← h) refl
