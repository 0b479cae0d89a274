-- Places: 01, "6 is returned exactly when the call, creating nodes as the Rust does, would end with more nodes of either kind than there are places."
use Rattle.std.specs.Prelude.{Bool, ◌&&◌, ℕ, length, leb}
use Rattle.model.specs.Store.{Store, pick, get, mk_store, mk_handle}
use Rattle.model.specs.Programs.{Prog, panic, ret, ask, look, mk, bind, holds, Ran, ran}

-- the nodes fit m places of sets and n of relations
abbrev pub fits_places : ℕ → ℕ → Store → Bool
fits_places m n S = leb (length S.sets) m && leb (length S.rels) n

-- a run on limited places: it stops where a new node has none
pub data Bounded : Type 0 where
  used_up : Bounded
  ended : Ran → Bounded

abbrev pub and_then : Bounded → (Ran → Bounded) → Bounded
and_then used_up f = used_up
and_then (ended r) f = f r

unfoldable pub bounded : ℕ → ℕ → Prog → Store → Bounded
bounded m n panic S = ended (ran S 0)
bounded m n (ret h) S = ended (ran S h)
bounded m n (ask t p q) S = pick (holds t S) (bounded m n p S) (bounded m n q S)
bounded m n (look K h f) S = bounded m n (f (get K S h)) S
bounded m n (mk K x) S = pick (fits_places m n (mk_store K x S)) (ended (ran (mk_store K x S) (mk_handle K x S))) used_up
bounded m n (bind p f) S = and_then (bounded m n p S) (λ r. bounded m n (f r.value) r.store)
