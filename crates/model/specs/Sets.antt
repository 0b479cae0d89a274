-- The operations of sets alone, after sp.rs. `l` is the level of the operands.
use Rattle.std.specs.Prelude.{[], ◌∷◌, ℕ, zero, suc}
use Rattle.model.specs.Store.{set, signed}
use Rattle.model.specs.Programs.{is_empty, is_universal, same, less, has, Prog, panic, ret, ask, look, mk, ◌>>=◌}
use Rattle.model.specs.Recursion.{Op2, op2, x0, x1, or_else}

-- sp.rs, `intersects`: 1 for yes, 0 for no
abbrev pub intersects_tests : ℕ → ℕ → ℕ → (ℕ → ℕ → Prog) → Prog
intersects_tests l a b node =
    ask (same a (signed 1 b)) (ret 0)
    (ask (has is_empty set l a) (ret 0)
    (ask (has is_empty set l b) (ret 0)
    (ask (same a b) (ret 1)
    (ask (has is_universal set l a) (ret 1)
    (ask (has is_universal set l b) (ret 1)
    (ask (less b a) (node b a) (node a b)))))))

abbrev pub intersects_op : Op2
intersects_op = record { first = set; second = set; short = intersects_tests; kids = λ l f x y. or_else (f (x0 x) (x0 y)) (f (x1 x) (x1 y)) }

unfoldable pub intersects : ℕ → ℕ → ℕ → Prog
intersects l a b = op2 intersects_op l a b

-- sp.rs, `ifelse`: 01, "the first branch where the field is 1, else the second"
unfoldable pub ifelse : ℕ → ℕ → ℕ → ℕ → Prog
ifelse zero v t e = panic
ifelse (suc l) zero t e = look set t λ x. look set e λ y. mk set (x0 y ∷ x1 x ∷ [])
ifelse (suc l) (suc v) t e = look set t λ x. look set e λ y.
    ifelse l v (x0 x) (x0 y) >>= λ r0. ifelse l v (x1 x) (x1 y) >>= λ r1. mk set (r0 ∷ r1 ∷ [])
