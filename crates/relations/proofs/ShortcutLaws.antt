-- What shortcuts leave to do: from the tests made to what was found, and from there to what is left.
use mathlib.Core.Path.{◌≡◌, sym, ◌∙◌, subst}
use mathlib.Core.List.{List}
use Prim.Native.Nat.{ℕ}
use Rattle.model.specs.Programs.{Prog, ret, run}
use Rattle.model.specs.Safety.{Safe, ReducesTo}
use Rattle.model.specs.Store.{rel, Store}
use Rattle.memory.specs.Performing.{looked_up, LooksUp, Reduces}
use Rattle.memory.specs.Rows.{plain}
use Rattle.memory.specs.declared.Lookup.{Lookup}
use Rattle.memory.specs.declared.Lookup.TheVariants as lookup
use Rattle.relations.specs.declared.Shortcut.{Shortcut}
use Rattle.relations.specs.declared.Shortcut.TheVariants.{Answer, Delegate, Recurse}
use Rattle.relations.specs.Shortcuts.{by_shortcut, TakesShortcut, shortcut_of}

-- tests were made before
pub answers_later : {p q : Prog} {node : ℕ → ℕ → Prog} {m w : List ℕ} {r : Lookup} → Reduces rel p q m w → LooksUp rel q node m w r
    → LooksUp rel p node m w r
answers_later {p} {q} {node} {m} {w} {r} u a = record {
  answers = λ B c n i s R. let x = u.left B c n i s R in go x r (a.answers B c n i x.safe R);
}
  where
    go : {S : Store} → ReducesTo p q S → (r : Lookup) → looked_up q node S r → looked_up p node S r
    go x (lookup.Answer h) y = x.runs ∙ y
    go x (lookup.Operands a b) y = record { runs = x.runs ∙ y.runs; safe = y.safe }

module _ {p : Prog} {other : ℕ → Prog} {node : ℕ → ℕ → Prog} {m w : List ℕ} where
  pub shortcut_answer : {h : ℕ} → Reduces rel p (ret h) m w → TakesShortcut p other node m w (Answer h)
  unfolding run
  shortcut_answer u = record { takes = λ B n i s R. (u.left B tt n i s R).runs }

  pub shortcut_delegate : {x : ℕ} → Reduces rel p (other x) m w → TakesShortcut p other node m w (Delegate x)
  shortcut_delegate u = record { takes = λ B n i s R. u.left B tt n i s R }

  pub shortcut_lookup : {q : Prog} {f : Lookup} {r : Shortcut} → Reduces rel p q m w → LooksUp rel q node m w f → r ≡ shortcut_of f
      → TakesShortcut p other node m w r
  shortcut_lookup {f = f} u a e = record {
    takes = λ B n i s R. subst (λ z. by_shortcut p other node (plain rel B m n) z) (sym e) (go (plain rel B m n) f
        ((answers_later u a).answers B tt n i s R));
  }
    where
      go : (S : Store) (f : Lookup) → looked_up p node S f → by_shortcut p other node S (shortcut_of f)
      go S (lookup.Answer h) y = y
      go S (lookup.Operands x y) z = z

  module _ {r : Shortcut} (g : TakesShortcut p other node m w r) where
    pub answer_left : {h : ℕ} → r ≡ Answer h → Reduces rel p (ret h) m w
    unfolding run Safe
    answer_left e = record {
      left = λ B _ n i s R. record { runs = subst (λ z. by_shortcut p other node (plain rel B m n) z) e (g.takes B n i s R); safe = tt };
    }

    pub other_left : {x : ℕ} → r ≡ Delegate x → Reduces rel p (other x) m w
    other_left e = record { left = λ B _ n i s R. subst (λ z. by_shortcut p other node (plain rel B m n) z) e (g.takes B n i s R) }

    pub node_left : {x y : ℕ} → r ≡ Recurse x y → Reduces rel p (node x y) m w
    node_left e = record { left = λ B _ n i s R. subst (λ z. by_shortcut p other node (plain rel B m n) z) e (g.takes B n i s R) }
