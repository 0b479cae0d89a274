-- The text of a refusal, by its cases. From the definitions.
use mathlib.Core.Path.{◌≡◌, sym, ap, ◌∙◌}
use mathlib.Core.List.{List, [], ◌∷◌, ◌++◌, append-nil}
use Prim.Native.Nat.{ℕ}
use Rattle.call_rules.specs.Answers.{refusal_number}
use Rattle.call_rules.specs.declared.Refusal.{Refusal}
use Rattle.policy_text.specs.Misreads.{fault_number}
use Rattle.policy_text.specs.declared.Misread.{Misread}
use Rattle.policies.specs.Answers.{PolicyAnswer}
use Rattle.policies.specs.declared.PolicyRefusal.TheVariants.{At, Store}
use Rattle.std.specs.Prelude.{Err}
use Rattle.listing.specs.Decimal.{decimal}
use Rattle.listing.specs.Listing.{shown_offset, shown}

-- a space, `r` and a number
abbrev tagged : ℕ → List ℕ
tagged n = (32 ∷ 114 ∷ []) ++ decimal n

pub at_shown : {a : PolicyAnswer} {m : Misread} {n : ℕ} → a ≡ Err (At m) → n ≡ fault_number m.fault → tagged n ++ ((32 ∷ []) ++ decimal m.at) ≡ shown a
unfolding shown shown_offset
at_shown {a} {m} {n} e is = ap (λ (k : ℕ). tagged k ++ ((32 ∷ []) ++ decimal m.at)) is ∙ ap shown (sym e)

pub store_shown : {a : PolicyAnswer} {s : Refusal} {n : ℕ} → a ≡ Err (Store s) → n ≡ refusal_number s → tagged n ≡ shown a
unfolding shown shown_offset
store_shown {a} {s} {n} e is = ap tagged is ∙ (sym (append-nil (tagged (refusal_number s))) ∙ ap shown (sym e))
