-- Operands of both kinds: what a call on a relation and sets declines, from which handles are held and at which level.
use mathlib.Core.Path.{◌≡◌, refl, sym, ◌∙◌, subst}
use mathlib.Core.List.{List}
use mathlib.Core.Bool.{Bool, true, false}
use Prim.Native.Nat.{ℕ, ◌≤◌}
use lib.ListN.{length}
use lib.Dec.{eqb}
use borrow.Author.Tests.{eq-eqb, ne_eqb}
use Rattle.model.specs.Store.{Kind, set, rel, arity, Store, nodes}
use Rattle.model.specs.WellFormed.{WellFormed, is_held, level_of}
use Rattle.memory.specs.Noting.{LevelIs}
use Rattle.memory.specs.Rows.{places}
use Rattle.memory.proofs.Rows.{rows_length}
use Rattle.call_rules.specs.Checking.{Low, Checks, ChecksBoth}
use Rattle.store_check.specs.StoreChecking.{both}
use Rattle.call_rules.specs.Outcome.{also, of_pair, of_path}
use Rattle.call_rules.specs.Outcome.{Check}
use Rattle.std.specs.Prelude.{Ok, Err, IsErrAnd}
use Rattle.call_rules.specs.declared.Refusal.{Refusal}
use Rattle.call_rules.specs.declared.Refusal.TheVariants.{NotHeld, LevelsDiffer}
use Rattle.call_rules.proofs.Handles.{guard_yes, guard_no, pair_first, pair_second, pair_apart, pair_are, level_known, also_no, also_yes, still_no, handed_on}

-- whether h is held among n nodes of c numbers, as `is_held` says it
abbrev HeldIs : ℕ → ℕ → ℕ → Bool → Type 0
HeldIs c n h x = (K : Kind) (S : Store) → c ≡ arity K → length (nodes K S) ≡ n → is_held K S h ≡ x

module _ (o t : List ℕ) (n j k : ℕ) where
  -- a check of relations alone
  pub checks_relations : {check : Store → Check} {r : Check} → Checks rel o n k check r → ChecksBoth o n t j k check r
  checks_relations C = record { checks = λ f g F. record { says = C.says (both rel o n t j) f F; low = C.low } }

  -- A RELATION a AND A SET p
  module _ (a p : ℕ) {x : Bool} (A : HeldIs 4 n a x) where
    held_relation : is_held rel (both rel o n t j) a ≡ x
    held_relation = A rel (both rel o n t j) refl (rows_length 4 n o)

    pub pair_no_relation : x ≡ false → ChecksBoth o n t j k (λ S. of_pair k S rel a set p) (Err NotHeld)
    pair_no_relation e = record { checks = λ f g F. record { says = pair_first rel set F a p (held_relation ∙ e); low = tt } }

    module _ {y : Bool} (e : x ≡ true) (P : HeldIs 2 j p y) where
      held_set : is_held set (both rel o n t j) p ≡ y
      held_set = P set (both rel o n t j) refl (rows_length 2 j t)

      pub pair_no_set : y ≡ false → ChecksBoth o n t j k (λ S. of_pair k S rel a set p) (Err NotHeld)
      pair_no_set f = record { checks = λ _ _ F. record { says = pair_second rel set F a p (held_relation ∙ e) (held_set ∙ f); low = tt } }

      module _ {l i : ℕ} (f : y ≡ true) (L : LevelIs o 4 k a l) (I : LevelIs t 2 k p i) where
        pub pair_levels_differ : (i ≡ l → ⊥) → ChecksBoth o n t j k (λ S. of_pair k S rel a set p) (Err LevelsDiffer)
        pair_levels_differ d = record {
          checks = λ r s F. record {
            says = pair_apart rel set F a p l i (held_relation ∙ e) (held_set ∙ f)
                (level_known rel (both rel o n t j) o n L refl r F (held_relation ∙ e)) (level_known set (both rel o n t j) t j I refl s F (held_set ∙ f)) d;
            low = tt;
          };
        }

        pub pair_passes : l ≤ k → i ≡ l → ChecksBoth o n t j k (λ S. of_pair k S rel a set p) (Ok l)
        pair_passes b d = record {
          checks = λ r s F. record {
            says = pair_are rel set F a p l i (held_relation ∙ e) (held_set ∙ f)
                (level_known rel (both rel o n t j) o n L refl r F (held_relation ∙ e)) (level_known set (both rel o n t j) t j I refl s F (held_set ∙ f)) d;
            low = b;
          };
        }

  -- A SET p, A RELATION a AND A SET q
  module _ (p a q : ℕ) {x : Bool} (Q : HeldIs 2 j q x) where
    held_output : is_held set (both rel o n t j) q ≡ x
    held_output = Q set (both rel o n t j) refl (rows_length 2 j t)

    pub path_no_output : x ≡ false → ChecksBoth o n t j k (λ S. of_path k S p a q) (Err NotHeld)
    unfolding of_path
    path_no_output e = record { checks = λ f g F. record { says = guard_no _ _ _ (held_output ∙ e); low = tt } }

    module _ (r : Check) (e : x ≡ true) (C : ChecksBoth o n t j k (λ S. of_pair k S rel a set p) r) where
      -- after the check of the other two
      third : {c : Check} → also (of_pair k (both rel o n t j) rel a set p) LevelsDiffer (λ l. eqb (level_of k set (both rel o n t j) q) l) ≡ c
          → of_path k (both rel o n t j) p a q ≡ c
      unfolding of_path
      third d = guard_yes _ _ _ (held_output ∙ e) ∙ d

      pub path_declined : (x : Check) (y : Refusal) → r ≡ Err y → IsErrAnd x (λ r. r ≡ y) → ChecksBoth o n t j k (λ S. of_path k S p a q) x
      path_declined x y u v = let h = handed_on r x y u v in record {
        checks = λ f g F. record {
          says = third (still_no _ _ (C.checks f g F).says y u ∙ sym h);
          low = subst (Low k) (sym h) (C.checks f g F).low;
        };
      }

      module _ {l i : ℕ} (u : r ≡ Ok l) (I : LevelIs t 2 k q i) where
        level : j ≤ places 2 t → WellFormed k (both rel o n t j) → i ≡ level_of k set (both rel o n t j) q
        level g F = level_known set (both rel o n t j) t j I refl g F (held_output ∙ e)

        pub path_levels_differ : (i ≡ l → ⊥) → ChecksBoth o n t j k (λ S. of_path k S p a q) (Err LevelsDiffer)
        path_levels_differ d = record {
          checks = λ f g F. record {
            says = third (also_no _ _ (C.checks f g F).says l u (ne_eqb _ _ (λ z. d (level g F ∙ z))));
            low = tt;
          };
        }

        pub path_passes : i ≡ l → ChecksBoth o n t j k (λ S. of_path k S p a q) (Ok l)
        path_passes d = record {
          checks = λ f g F. record {
            says = third (also_yes _ _ (C.checks f g F).says l u (eq-eqb _ _ (sym (level g F) ∙ d)));
            low = subst (Low k) u (C.checks f g F).low;
          };
        }
