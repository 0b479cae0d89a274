-- A part whose last step gave its handle, or had no place for it: from what is known of its end and its program it is built.
use mathlib.Core.Path.{◌≡◌, sym, subst}
use mathlib.Core.List.{List, ◌++◌}
use Prim.Native.Nat.{ℕ, ◌≤◌}
use lib.ListN.{length, get_or, drop}
use Rattle.std.specs.Prelude.{Option, Some, None}
use Rattle.model.specs.Store.{rel}
use Rattle.model.specs.Policies.{Policy, policy_program}
use Rattle.memory.specs.Performing.{RunState, ended, Performs}
use Rattle.policy_build.specs.Building.{Part, Builds}
use Rattle.policy_build.specs.declared.Built.{Built}

-- the step's handle, if it gave one, and the offset after the part
abbrev pub placed : Option ℕ → ℕ → Option Built
placed (Some h) e = Some (record { handle = h; end = e })
placed None e = None

-- what is shown of each part that may begin at the offset: where it ends, and that its program was run
abbrev pub Shown : Part → (ℕ → Type 0) → ℕ → List ℕ → ℕ → ℕ → RunState → List ℕ → List ℕ → List ℕ → List ℕ → RunState → Type 0
Shown G After k t at end s m m' w w' z = (d : ℕ) (u : List ℕ) (p : Policy) (rest : List ℕ) → G d u p → drop at t ≡ u ++ rest → After (get_or rest 0 0)
    → (drop end t ≡ rest) × Performs rel (policy_program k p) s m m' w w' z

pub placed_builds : {G : Part} {After : ℕ → Type 0} {k : ℕ} {t : List ℕ} {at end c : ℕ} {s : RunState} {m m' w w' : List ℕ} (r : Option ℕ) → at ≤ end
    → end ≤ length t → Shown G After k t at end s m m' w w' (ended c r) → Builds G After k t at s m m' w w' c (placed r end)
placed_builds (Some h) l i f = record {
  from = l;
  within = i;
  part = λ d u p rest g j n. let x = f d u p rest g j n in record { text_left = x.0; performs = x.1 };
}
placed_builds None l i f = record {
  from = tt;
  within = tt;
  part = λ d u p rest g j n. record { text_left = tt; performs = (f d u p rest g j n).1 };
}

-- a step before the last had no place
pub none_builds : {G : Part} {After : ℕ → Type 0} {k : ℕ} {t : List ℕ} {at : ℕ} (c : ℕ) {s : RunState} {m m' w w' : List ℕ}
    → ((d : ℕ) (u : List ℕ) (p : Policy) (rest : List ℕ) → G d u p → drop at t ≡ u ++ rest → After (get_or rest 0 0)
    → Performs rel (policy_program k p) s m m' w w' (ended c None)) → Builds G After k t at s m m' w w' c None
none_builds c f = record {
  from = tt;
  within = tt;
  part = λ d u p rest g j n. record { text_left = tt; performs = f d u p rest g j n };
}

-- what the code gives back after a `?` is `None`
pub none_given : {G : Part} {After : ℕ → Type 0} {k : ℕ} {t : List ℕ} {at c : ℕ} {s : RunState} {m m' w w' : List ℕ} {r : Option Built} → r ≡ None
    → Builds G After k t at s m m' w w' c None → Builds G After k t at s m m' w w' c r
none_given {G} {After} {k} {t} {at} {c} {s} {m} {m'} {w} {w'} e B = subst (Builds G After k t at s m m' w w' c) (sym e) B
