-- Programs that say yes or no give 1 or 0, wherever they run; so a function that runs one can say it as a `bool`.
use mathlib.Core.Path.{◌≡◌, refl, sym, ◌∙◌, subst}
use mathlib.Core.List.{List}
use mathlib.Core.Bool.{Bool, true, false}
use Rattle.std.specs.Prelude.{Some}
use mir.Val.{bool_byte}
use Prim.Native.Nat.{ℕ, zero, suc, ◌<◌}
use native.Mathlib.Omega.{arith}
use Rattle.model.specs.Images.{has_image_op, has_image, has_path_short, has_path_node, has_path}
use Rattle.model.specs.Programs.{holds, Prog, panic, ret, ask, look, mk, bind, run}
use Rattle.model.specs.Recursion.{Op2, node2, op2, x1, x11, or_else}
use Rattle.model.specs.Sets.{intersects_op, intersects}
use Rattle.model.specs.Store.{Kind, Store, pick, get}
use Rattle.model.proofs.Bools.{by_test}
use Rattle.memory.specs.Performing.{going, ended, told, Condition, PerformsOn, ReducesOn, KeepsEntry}
use Rattle.memory.specs.Memo.{memo_program}
use Rattle.memory.proofs.Remembering.{called_kept}
use Rattle.memory.proofs.Steps.{performs_next, performs_ret, performs_same, performs_differ}

-- p gives 1 or 0
unfoldable pub YesNo : Prog → Type 0
YesNo panic = Unit {0}
YesNo (ret h) = h < 2
YesNo (ask t p q) = YesNo p × YesNo q
YesNo (look K h f) = (x : List ℕ) → YesNo (f x)
YesNo (mk K x) = ⊥
YesNo (bind p f) = (h : ℕ) → YesNo (f h)

pub yes_no_value : (p : Prog) (S : Store) → YesNo p → (run p S).value < 2
unfolding run YesNo
yes_no_value panic S r = omega arith
yes_no_value (ret h) S r = r
yes_no_value (ask t p q) S r =
    by_test (λ (b : Bool). (pick b (run p S) (run q S)).value < 2) (holds t S) (λ e. yes_no_value p S r.0) (λ e. yes_no_value q S r.1)
yes_no_value (look K h f) S r = yes_no_value (f (get K S h)) S (r (get K S h))
yes_no_value (mk K x) S r = absurd r
yes_no_value (bind p f) S r = yes_no_value (f (run p S).value) (run p S).store (r (run p S).value)

-- an operation says yes or no where its shortcuts and its node do
pub op2_yes_no : (O : Op2) → ((l a b : ℕ) (node : ℕ → ℕ → Prog) → ((a b : ℕ) → YesNo (node a b)) → YesNo (O.short l a b node))
    → ((l : ℕ) (f : ℕ → ℕ → Prog) (x y : List ℕ) → ((a b : ℕ) → YesNo (f a b)) → YesNo (O.kids l f x y)) → (l a b : ℕ) → YesNo (op2 O l a b)
unfolding op2 node2 YesNo
op2_yes_no O short kids l a b = short l a b (node2 O l) (node l)
  where
    node : (l a b : ℕ) → YesNo (node2 O l a b)
    node zero a b = tt
    node (suc l) a b = λ x y. kids l _ x y (λ a b. short l a b (node2 O l) (node l))

zero_small : 0 < 2
zero_small = omega arith

one_small : 1 < 2
one_small = omega arith

pub intersects_yes_no : (l a b : ℕ) → YesNo (intersects l a b)
unfolding intersects YesNo
intersects_yes_no = op2_yes_no intersects_op
    (λ l a b node n. (zero_small, (zero_small, (zero_small, (one_small, (one_small, (one_small, (n b a, n a b))))))))
    (λ l f x y n. λ r. (one_small, n (x1 x) (x1 y)))

pub has_image_yes_no : (l p a : ℕ) → YesNo (has_image l p a)
unfolding has_image YesNo
has_image_yes_no = op2_yes_no has_image_op (λ l p a node n. (zero_small, (zero_small, (one_small, (one_small, (one_small, n p a))))))
    (λ l f p r n. λ i. (one_small, λ j. (one_small, λ k. (one_small, n (x1 p) (x11 r)))))

pub has_path_yes_no : (l p a q : ℕ) → YesNo (has_path l p a q)
unfolding has_path has_path_node YesNo
has_path_yes_no l p a q = short l p a q
  where
    short : (l p a q : ℕ) → YesNo (has_path_short l p a q (has_path_node l p a q))
    short zero p a q =
        (zero_small, (zero_small, (zero_small, (one_small, (intersects_yes_no 0 p q, (has_image_yes_no 0 p a, tt))))))
    short (suc l) p a q = (
      zero_small,
      (
        zero_small,
        (
          zero_small,
          (
            one_small,
            (
              intersects_yes_no (suc l) p q,
              (has_image_yes_no (suc l) p a, λ x y r i. (one_small, λ j. (one_small, λ k. (one_small, short l (x1 x) (x11 r) (x1 y))))),
            ),
          ),
        ),
      ),
    )

-- such a program's answer as a `bool`
pub performs_told : {Q : Condition} {K : Kind} {p : Prog} {n h : ℕ} {b : Bool} {m m' w w' : List ℕ} → YesNo p
    → PerformsOn Q K p (going n) m m' w w' (ended n (Some h)) → (b ≡ true → h ≡ 1) → (b ≡ false → h ≡ 1 → ⊥)
    → PerformsOn Q K p (going n) m m' w w' (told n b)
performs_told {Q} {K} {p} {n} {h} {b = true} {m} {m'} {w} {w'} y d t f = subst (λ h. PerformsOn Q K p (going n) m m' w w' (ended n (Some h))) (t refl) d
performs_told {Q} {K} {p} {n} {h} {b = false} {m} {m'} {w} {w'} y d t f = record {
  runs = λ B c R. let a = d.runs B c R in record {
    okay = a.okay;
    done = λ _. let e = a.done refl in let o = f refl in record {
      store = e.store;
      value = sym (less h (subst (λ v. v < 2) (sym e.value) (yes_no_value p _ y)) o) ∙ e.value;
      work = e.work;
    };
    writes = a.writes;
    work_length = a.work_length;
  };
}
  where
    less : (h : ℕ) → h < 2 → (h ≡ 1 → ⊥) → h ≡ 0
    less h l o = omega arith

-- the second is asked where the first says no
module _ {Q : Condition} {K : Kind} {p q : Prog} {n : ℕ} {m w w₁ : List ℕ} {a : Bool} (d : PerformsOn Q K p (going n) m m w w₁ (told n a)) where
  pub either_first : a ≡ true → PerformsOn Q K (or_else p q) (going n) m m w w₁ (told n a)
  either_first e = subst (λ x. PerformsOn Q K (or_else p q) (going n) m m w w₁ (told n x)) (sym e)
      (performs_next (subst (λ x. PerformsOn Q K p (going n) m m w w₁ (told n x)) e d) refl (performs_same 1 1 refl performs_ret))

  pub either_second : (b : Bool) {w₂ : List ℕ} → a ≡ false → PerformsOn Q K q (going n) m m w₁ w₂ (told n b)
      → PerformsOn Q K (or_else p q) (going n) m m w w₂ (told n b)
  either_second b e f = performs_next (subst (λ x. PerformsOn Q K p (going n) m m w w₁ (told n x)) e d) refl (performs_differ 0 1 refl f)

-- the answer to what is left is kept in the memo as 1 or 0
pub told_kept : {Q : Condition} {K : Kind} {p q : Prog} {n h : ℕ} {m w w₁ w₂ : List ℕ} (b : Bool) (op l a c : ℕ) → q ≡ memo_program op l a c
    → ReducesOn Q K p q m w → PerformsOn Q K q (going n) m m w w₁ (told n b) → h ≡ bool_byte b → KeepsEntry w₁ w₂ op l a c h
    → PerformsOn Q K p (going n) m m w w₂ (told n b)
told_kept {w₁ = w₁} {w₂} true op l a c e u d f k = called_kept op l a c e u d refl (subst (λ h. KeepsEntry w₁ w₂ op l a c h) f k)
told_kept {w₁ = w₁} {w₂} false op l a c e u d f k = called_kept op l a c e u d refl (subst (λ h. KeepsEntry w₁ w₂ op l a c h) f k)
