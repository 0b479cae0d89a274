-- `test` and `assign`, which name a field: the loop opened one step, the node at a field, and their numbers in the memo.
use mathlib.Core.Path.{◌≡◌, refl, sym, ap, ◌∙◌}
use mathlib.Core.List.{List, [], ◌∷◌}
use mathlib.Core.Bool.{Bool, true, false}
use Prim.Native.Nat.{ℕ, zero, suc, ◌-◌}
use native.Mathlib.Omega.{arith}
use lib.Dec.{eqb}
use Rattle.model.specs.Operations.{each_field, test_node, assign_node, test, assign}
use Rattle.model.specs.Programs.{ret, mk, ◌>>=◌}
use Rattle.model.specs.Store.{rel, pick}
use Rattle.memory.specs.Memo.{memo_program, op_test, op_assign}
use Rattle.relations.specs.declared.fields.Naming.TheVariants.{Test, Assign}
use Rattle.relations.specs.Fields.{field_node}
use Rattle.std.specs.Int.{from_bool}

module _ (at : ℕ → ℕ → List ℕ) (v n res z : ℕ) where
  pub fields_zero : n ≡ 0 → each_field at v n res z ≡ ret res
  unfolding each_field
  fields_zero e = ap (λ n. each_field at v n res z) e

pub fields_step : (at : ℕ → ℕ → List ℕ) (v n res z : ℕ) → (n ≡ 0 → ⊥) → each_field at v n res z ≡
    (mk rel (pick (eqb (n - 1) v) (at res z) (res ∷ z ∷ z ∷ res ∷ [])) >>= λ r. mk rel (z ∷ z ∷ z ∷ z ∷ []) >>= λ y. each_field at v (n - 1) r y)
unfolding each_field
fields_step at v zero res z h = absurd (h refl)
fields_step at v (suc i) res z h = let e : i ≡ suc i - 1 = omega arith in
    ap (λ i. mk rel (pick (eqb i v) (at res z) (res ∷ z ∷ z ∷ res ∷ [])) >>= λ r. mk rel (z ∷ z ∷ z ∷ z ∷ []) >>= λ y. each_field at v i r y) e

-- in the memo the value is a number that is 1 or not
memo_at : (k v c : ℕ) → (each_field (assign_node (eqb c 1)) v k 1 0 ≡ memo_program op_assign k v c) × (each_field (test_node
    (eqb c 1)) v k 1 0 ≡ memo_program op_test k v c)
unfolding memo_program test assign
memo_at k v c = (refl, refl)

bit_is : (b : Bool) → eqb (from_bool b) 1 ≡ b
bit_is true = refl
bit_is false = refl

pub test_memo : (b : Bool) (k v : ℕ) → each_field (field_node (Test b)) v k 1 0 ≡ memo_program op_test k v (from_bool b)
test_memo b k v = ap (λ x. each_field (test_node x) v k 1 0) (sym (bit_is b)) ∙ (memo_at k v (from_bool b)).1

pub assign_memo : (b : Bool) (k v : ℕ) → each_field (field_node (Assign b)) v k 1 0 ≡ memo_program op_assign k v (from_bool b)
assign_memo b k v = ap (λ x. each_field (assign_node x) v k 1 0) (sym (bit_is b)) ∙ (memo_at k v (from_bool b)).0
