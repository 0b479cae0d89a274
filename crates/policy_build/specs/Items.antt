-- What the build pass asks of a text at an offset.
use Rattle.std.specs.Prelude.{◌≡◌, List, ◌++◌, ℕ, ◌+◌, ◌≤◌, ◌<◌, length, get_or, drop}
use Rattle.policy_text.specs.XForms.{Field}
use Rattle.policy_build.specs.declared.items.Number.{Number}

-- r is the offset after this one, or the text's length
pub record Past (t : List ℕ) (at r : ℕ) : Type 0 where
  pub from : at ≤ r
  pub within : r ≤ length t
  pub rest : drop r t ≡ drop (at + 1) t

-- r has the number of the field that is here, with no digit after it, and where it ends
pub record ReadsNumber (t : List ℕ) (at : ℕ) (r : Number) : Type 0 where
  pub from : at ≤ r.end
  pub within : r.end ≤ length t
  pub reads : {f : List ℕ} {n : ℕ} (rest : List ℕ) → Field f n → drop at t ≡ f ++ rest → 57 < get_or rest 0 0 → (r.value ≡ n) × (drop r.end t ≡ rest)
