-- The operations that sets and relations both have, after sp.rs and spp.rs: the same shortcuts in the same order, the
-- same order of operands and children. `l` is the level of the operands; 01, "The operations".
use Rattle.std.specs.Prelude.{List, [], ◌∷◌, Bool, true, false, ℕ, zero, suc, ◌-◌, replicate, eqb}
use Rattle.model.specs.Store.{Kind, set, rel, arity, pick, signed}
use Rattle.model.specs.Programs.{is_empty, is_universal, same, less, has, Prog, ret, ask, mk, ◌>>=◌}
use Rattle.model.specs.Recursion.{Op1, op1, Op2, op2, each1, each2}

-- the handle of level l whose every walk ends at c
unfoldable pub constant : Kind → ℕ → ℕ → Prog
constant K c zero = ret c
constant K c (suc l) = constant K c l >>= λ z. mk K (replicate (arity K) z)

-- sp.rs and spp.rs, `zero_at_depth`
abbrev pub zero_at_depth : Kind → ℕ → Prog
zero_at_depth K l = constant K 0 l

-- spp.rs, `top_at_depth`
abbrev pub top_at_depth : ℕ → Prog
top_at_depth l = constant rel 1 l

-- spp.rs, `one_at_depth`: the identity
unfoldable pub identity_at_depth : ℕ → Prog
identity_at_depth zero = ret 1
identity_at_depth (suc l) = identity_at_depth l >>= λ one. zero_at_depth rel l >>= λ z. mk rel (one ∷ z ∷ z ∷ one ∷ [])

-- sp.rs and spp.rs, `one_at_depth`: the full set, the identity
abbrev pub one_at_depth : Kind → ℕ → Prog
one_at_depth set l = constant set 1 l
one_at_depth rel l = identity_at_depth l

-- sp.rs and spp.rs, `is_zero`: 1 for yes, 0 for no
unfoldable pub is_zero : Kind → ℕ → ℕ → Prog
is_zero K l a = ask (has is_empty K l a) (ret 1) (ret 0)

-- sp.rs, `complement`: the other sign; spp.rs, `complement`: child by child
abbrev pub complement_op : Op1
complement_op = record { kind = rel; short = λ l a node. ask (less a 2) (ret (1 - a)) node; kids = λ l. each1 rel }

unfoldable pub complement : Kind → ℕ → ℕ → Prog
complement set l a = ret (signed 1 a)
complement rel l a = op1 complement_op l a

-- sp.rs and spp.rs, `union`; only sp.rs has the shortcut on complementary operands
abbrev pub on_opposites : Kind → ℕ → ℕ → Prog → Prog → Prog
on_opposites set a b p q = ask (same a (signed 1 b)) p q
on_opposites rel a b p q = q

abbrev pub union_tests : Kind → ℕ → ℕ → ℕ → (ℕ → ℕ → Prog) → Prog
union_tests K l a b node =
    ask (has is_empty K l a) (ret b)
    (ask (has is_universal K l b) (ret b)
    (ask (has is_empty K l b) (ret a)
    (ask (has is_universal K l a) (ret a)
    (ask (less b a) (node b a) (node a b)))))

abbrev pub union_op : Kind → Op2
union_op K = record {
  first = K;
  second = K;
  short = λ l a b node. ask (same a b) (ret a) (on_opposites K a b (one_at_depth K l) (union_tests K l a b node));
  kids = λ l. each2 K;
}

unfoldable pub union : Kind → ℕ → ℕ → ℕ → Prog
union K l a b = op2 (union_op K) l a b

-- sp.rs, `intersect`: through `union`; spp.rs, `intersect`
abbrev pub intersect_op : Op2
intersect_op = record {
  first = rel;
  second = rel;
  short = λ l a b node.
      ask (same a b) (ret a)
      (ask (has is_empty rel l a) (ret a)
      (ask (has is_universal rel l b) (ret a)
      (ask (has is_empty rel l b) (ret b)
      (ask (has is_universal rel l a) (ret b)
      (ask (less b a) (node b a) (node a b))))));
  kids = λ l. each2 rel;
}

unfoldable pub intersect : Kind → ℕ → ℕ → ℕ → Prog
intersect set l a b = union set l (signed 1 a) (signed 1 b) >>= λ r. ret (signed 1 r)
intersect rel l a b = op2 intersect_op l a b

-- sp.rs and spp.rs, `xor`
abbrev pub xor_tests : Kind → ℕ → ℕ → ℕ → (ℕ → ℕ → Prog) → Prog
xor_tests K l a b node =
    ask (has is_empty K l a) (ret b)
    (ask (has is_empty K l b) (ret a)
    (ask (has is_universal K l a) (complement K l b)
    (ask (has is_universal K l b) (complement K l a)
    (ask (less b a) (node b a) (node a b)))))

abbrev pub xor_op : Kind → Op2
xor_op K = record {
  first = K;
  second = K;
  short = λ l a b node. ask (same a b) (zero_at_depth K l) (xor_tests K l a b node);
  kids = λ l. each2 K;
}

unfoldable pub xor : Kind → ℕ → ℕ → ℕ → Prog
xor K l a b = op2 (xor_op K) l a b

-- sp.rs, `difference`: through `union`; spp.rs, `difference`
abbrev pub difference_op : Op2
difference_op = record {
  first = rel;
  second = rel;
  short = λ l a b node.
      ask (same a b) (zero_at_depth rel l)
      (ask (has is_empty rel l a) (ret a)
      (ask (has is_empty rel l b) (ret a)
      (ask (has is_universal rel l a) (complement rel l b) (node a b))));
  kids = λ l. each2 rel;
}

unfoldable pub difference : Kind → ℕ → ℕ → ℕ → Prog
difference set l a b = union set l (signed 1 a) b >>= λ r. ret (signed 1 r)
difference rel l a b = op2 difference_op l a b

-- TEST and ASSIGN of field v among k fields. sp.rs, `test`: the level of the field, then one node a field above it
unfoldable pub raise : ℕ → ℕ → Prog
raise zero r = ret r
raise (suc n) r = mk set (r ∷ r ∷ []) >>= λ s. raise n s

-- spp.rs, the loop of `test` and `assign`: from the last field up, at field v the node `at`, elsewhere the identity's
unfoldable pub each_field : (ℕ → ℕ → List ℕ) → ℕ → ℕ → ℕ → ℕ → Prog
each_field at v zero res z = ret res
each_field at v (suc i) res z =
    mk rel (pick (eqb i v) (at res z) (res ∷ z ∷ z ∷ res ∷ [])) >>= λ r. mk rel (z ∷ z ∷ z ∷ z ∷ []) >>= λ z'. each_field at v i r z'

abbrev pub test_node : Bool → ℕ → ℕ → List ℕ
test_node true res z = z ∷ z ∷ z ∷ res ∷ []
test_node false res z = res ∷ z ∷ z ∷ z ∷ []

abbrev pub assign_node : Bool → ℕ → ℕ → List ℕ
assign_node true res z = z ∷ res ∷ z ∷ res ∷ []
assign_node false res z = res ∷ z ∷ res ∷ z ∷ []

-- sp.rs and spp.rs, `test`
unfoldable pub test : Kind → ℕ → ℕ → Bool → Prog
test set k v b =
    zero_at_depth set (k - v - 1) >>= λ z. mk set (z ∷ signed 1 z ∷ []) >>= λ r. raise v r >>= λ s. ret (signed (pick b 0 1) s)
test rel k v b = each_field (test_node b) v k 1 0

-- spp.rs, `assign`
unfoldable pub assign : ℕ → ℕ → Bool → Prog
assign k v b = each_field (assign_node b) v k 1 0
