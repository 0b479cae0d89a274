-- `test` and `assign` from the identity: what words say of it, the program opened one step, and that the loop runs as it.
use mathlib.Core.Path.{◌≡◌, refl, sym, ap, ◌∙◌, subst}
use mathlib.Core.Logic.{inl, inr}
use mathlib.Core.List.{List, [], ◌∷◌}
use mathlib.Core.Bool.{Bool, true, false}
use Prim.Native.Nat.{ℕ, zero, suc, ◌+◌, ◌-◌, ◌<◌}
use Rattle.std.specs.Prelude.{Some}
use native.Mathlib.Omega.{arith}
use lib.ListN.{length}
use lib.Dec.{T, lt→ltb}
use Rattle.model.specs.FieldsFromIdentity.{IdentityHeld, from_identity}
use Rattle.model.specs.Operations.{each_field}
use Rattle.model.specs.Programs.{Prog, look, mk, ◌>>=◌}
use Rattle.model.specs.Recursion.{x00, x01}
use Rattle.model.specs.Store.{rel, Store}
use Rattle.model.specs.WellFormed.{Held, WellFormed, is_held}
use Rattle.model.proofs.Bools.{no_true}
use Rattle.model.proofs.FieldsFromIdentity.{fields_from_identity}
use Rattle.model.proofs.Levels.{small, held_at}
use Rattle.memory.specs.Noting.{KnownWord}
use Rattle.memory.specs.Performing.{RunState, Performs, ReadsChildren}
use Rattle.memory.specs.Working.{properties_in, Has, Known}
use Rattle.memory.specs.declared.Properties.{Properties}
use Rattle.memory.proofs.Rows.{plain_length}
use Rattle.memory.proofs.Steps.{begin, by, looked, performs_left, called}
use Rattle.relations.specs.Fields.{KnowsIdentity}

-- WORDS
-- a handle below the count has a level
number_held : (S : Store) (h : ℕ) → h < length S.rels + 2 → T (is_held rel S h)
number_held S h b = elim (small h) [ inl x ↦ rw x.0 tt | inr x ↦ rw x.0 (lt→ltb (h - 2) (length S.rels) (omega (arith, x.1))) ]

-- a word that says something of it says its level
word_has : {k h v : ℕ} {S : Store} (r : Properties) → r ≡ properties_in v → WellFormed k S → h < length S.rels + 2 → 0 < v → Known rel S h v
    → Held rel S r.level h × Has rel S r.level h r
word_has {h = h} {S = S} r e F b p K =
    let x = held_at rel h F (number_held S h b) in
    let H : Has rel S x.0 h r = subst (Has rel S x.0 h) (sym e) (K p x.0 x.2) in
    subst (λ l. Held rel S l h × Has rel S l h r) H.level (x.2, H)

-- the word 0 has no property
word_says : (f : Properties → Bool) (v : ℕ) → f (properties_in 0) ≡ false → f (properties_in v) ≡ true → 0 < v
word_says f zero z e = absurd (no_true z e)
word_says f (suc v) z e = omega arith

pub identity_known : {w : List ℕ} {n l h e u v : ℕ} (p q : Properties) → KnownWord w 4 h u → KnownWord w 4 e v → p ≡ properties_in u
    → q ≡ properties_in v
    → p.identity ≡ true → p.level ≡ l → q.empty ≡ true → q.level ≡ l → h < n + 2 → e < n + 2 → KnowsIdentity w n l (Some h)
identity_known {l = l} {h} {e} {u} {v} p q U W x y pi pl qe ql i j = record {
  knows = λ one eq k S F ws c.
      let P = word_has p x F (omega arith) (word_says (λ r. r.identity) u refl (sym (ap (λ (r : Properties). r.identity) x) ∙ pi))
      (U rel k S refl F ws) in
      let Q = word_has q y F (omega arith) (word_says (λ r. r.empty) v refl (sym (ap (λ (r : Properties). r.empty) y) ∙ qe)) (W rel k S refl F ws) in
      let at : h ≡ one = cc in
      subst (IdentityHeld l S) at (record {
        held = rw (← pl) P.0;
        identity = rw (← pl) (P.1.identity refl ∙ pi);
        empty = e;
        empty_held = rw (← ql) Q.0;
        empty_is = rw (← ql) (Q.1.empty ∙ qe);
      });
}

-- THE PROGRAM opened one step
module _ (at : ℕ → ℕ → List ℕ) (v one : ℕ) where
  pub identity_first : v ≡ 0 → from_identity at v one ≡ look rel one (λ x. mk rel (at (x00 x) (x01 x)))
  unfolding from_identity
  identity_first e = ap (λ v. from_identity at v one) e

pub identity_next : (at : ℕ → ℕ → List ℕ) (v one : ℕ) → (v ≡ 0 → ⊥)
    → from_identity at v one ≡ look rel one (λ x. from_identity at (v - 1) (x00 x) >>= λ r. mk rel (r ∷ x01 x ∷ x01 x ∷ r ∷ []))
unfolding from_identity
identity_next at zero one h = absurd (h refl)
identity_next at (suc v) one h = let e : v ≡ suc v - 1 = omega arith in
    ap (λ v. look rel one (λ x. from_identity at v (x00 x) >>= λ r. mk rel (r ∷ x01 x ∷ x01 x ∷ r ∷ []))) e

module _ {s r : RunState} {m m' w w' : List ℕ} where
  pub performs_looked : {p : Prog} {f : List ℕ → Prog} {h : ℕ} {x : List ℕ} → p ≡ look rel h f → ReadsChildren rel m h x → Performs rel
      (f x) s m m' w w' r
      → Performs rel p s m m' w w' r
  performs_looked e X = called (looked (by begin e) X)

  pub performs_from_identity : (at : ℕ → ℕ → List ℕ) (v l one : ℕ) → KnowsIdentity w s.n l (Some one) → v < l
      → Performs rel (from_identity at v one) s m m' w w' r → Performs rel (each_field at v l 1 0) s m m' w w' r
  performs_from_identity at v l one I i d = performs_left (λ B c b a R.
      let e = fields_from_identity at v R.formed (I.knows one refl R.fields _ R.formed R.words (plain_length rel B m s.n)) i in
      record { runs = e.runs; safe = e.safe a }) d
