-- Nodes of the other kind, in a slice beside that of the nodes added to, are the store's: laws for code that reads both.
use mathlib.Core.Path.{◌≡◌, refl, sym, ap, ◌∙◌, subst}
use mathlib.Core.List.{List}
use mathlib.Core.Bool.{Bool}
use Prim.Native.Nat.{ℕ}
use Rattle.model.specs.Programs.{is_empty, is_universal, is_identity, has, Prog, look, run}
use Rattle.model.specs.Safety.{Within, Safe}
use Rattle.model.specs.Store.{Kind, set, rel, Store, get}
use Rattle.model.specs.WellFormed.{Held, WellFormed}
use Rattle.memory.specs.Performing.{other, OtherNodes, ReducesOn, ReadsChildren, KnowsProperties}
use Rattle.memory.specs.Rows.{rows, plain}
use Rattle.memory.specs.Working.{Has, Words, Right}
use Rattle.memory.specs.declared.Properties.{Properties}
use Rattle.memory.proofs.Steps.{TestIs, turn}

other_same : (K : Kind) {o : List ℕ} {j : ℕ} {B : Store} (m : List ℕ) (n : ℕ) → OtherNodes K o j B → plain (other K) (plain K B m n) o j ≡ plain K B m n
other_same set m n b = λ i. record { sets = rows 2 n m; rels = sym b.read i }
other_same rel m n b = λ i. record { sets = sym b.read i; rels = rows 4 n m }

-- the children of h, of the other kind, are x; a program that looks at them goes on with x
pub children_of_other : (K : Kind) {o : List ℕ} {j : ℕ} {B : Store} (m : List ℕ) (n : ℕ) {h : ℕ} {x : List ℕ} → OtherNodes K o j B
    → ReadsChildren (other K) o h x → Within (other K) (plain K B m n) h → get (other K) (plain K B m n) h ≡ x
children_of_other K {j = j} {B} m n {h} {x} c k a =
    let e = other_same K m n c in
    subst (λ T. get (other K) T h ≡ x) e (k.kids (plain K B m n) j c.within (subst (λ T. Within (other K) T h) (sym e) a))

module _ {K : Kind} {o m w : List ℕ} {j : ℕ} where
  pub read_of_other : {p : Prog} {f : List ℕ → Prog} {h : ℕ} {x : List ℕ} → ReducesOn (OtherNodes K o j) K p (look (other K) h f) m w
      → ReadsChildren (other K) o h x
      → ReducesOn (OtherNodes K o j) K p (f x) m w
  unfolding run Safe
  read_of_other {p} {f} {h} {x} u k = turn u (λ B c n l a R.
      let S = plain K B m n in
      let q : get (other K) S h ≡ x = children_of_other K m n c k a.0 in
      record { runs = ap (λ y. run (f y) S) q; safe = subst (λ y. Safe (f y) S) q a.1 })

  module _ {l h : ℕ} {r : Properties} (t : KnowsProperties (other K) o w l h r) where
    outcome : {B : Store} {n : ℕ} → OtherNodes K o j B → Right K B w m n → Held (other K) (plain K B m n) l h → Has (other K) (plain K B m n) l h r
    outcome {B} {n} c R s =
        let e = other_same K m n c in
        subst (λ T. Has (other K) T l h r) e (t.knows R.fields (plain K B m n) j c.within (subst (WellFormed R.fields) (sym e) R.formed)
        (subst (Words w) (sym e) R.words) (subst (λ T. Held (other K) T l h) (sym e) s))

    -- tests on the known properties of a handle of the other kind
    pub empty_of_other : {v : Bool} → r.empty ≡ v → TestIs (OtherNodes K o j) K m w (has is_empty (other K) l h) v
    empty_of_other e = record { decides = λ B c n i R s. (outcome c R s).empty ∙ e }

    pub universal_of_other : {v : Bool} → r.universal ≡ v → TestIs (OtherNodes K o j) K m w (has is_universal (other K) l h) v
    universal_of_other e = record { decides = λ B c n i R s. (outcome c R s).universal ∙ e }

pub identity_of_other : {o m w : List ℕ} {j l h : ℕ} {r : Properties} {v : Bool} → KnowsProperties rel o w l h r → r.identity ≡ v
    → TestIs (OtherNodes set o j) set m w (has is_identity rel l h) v
identity_of_other t e = record { decides = λ B c n i R s. (outcome t c R s).identity refl ∙ e }
