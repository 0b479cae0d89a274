-- The outcome of a call on two memories: by its verdict on their nodes where they are a store, and that of `new`.
use Rattle.std.specs.Prelude.{Bool, ◌&&◌, ℕ, length, leb, Result, Ok, Err}
use Rattle.model.specs.Store.{set, rel, Store}
use Rattle.model.specs.Images.{blank, new}
use Rattle.store_check.specs.Memory.{Memories, head, fields, places_in, decode, encode}
use Rattle.store_check.specs.Valid.{is_store}
use Rattle.call_rules.specs.Outcome.{Check, Verdict, runs, guard, unless_declined, as_handle, Outcome, finishes}
use Rattle.call_rules.specs.declared.Refusal.TheVariants.{NotStore, OutOfRange, UsedUp}
use Rattle.call_rules.specs.declared.Refusal.{Refusal}
use Rattle.call_rules.specs.declared.Answer.{Answer}

abbrev pub set_places : Memories → ℕ
set_places M = places_in set M.sets

abbrev pub rel_places : Memories → ℕ
rel_places M = places_in rel M.relations

-- 01: "1 not a store" covers both memories and comes first; the check of a store is the number of its fields
unfoldable pub on_store : {A : Type 0} → (Refusal → A) → (ℕ → Store → Verdict A) → Memories → Outcome A Memories
on_store refuse v M =
    finishes (refuse UsedUp) (set_places M) (rel_places M) (unless_declined refuse (guard NotStore (is_store M) (Ok (fields M))) (λ k. v k (decode M)))
    (decode M) M
    (λ S. encode (fields M) S M)

-- 01, `new`: "1 if relation memory has fewer than 2 numbers or set memory none": a head is not there
abbrev pub are_heads : Memories → Bool
are_heads M = leb (head rel) (length M.relations) && leb (head set) (length M.sets)

-- what `new` declines; the memories lent to it need not be a store
abbrev pub new_declines : ℕ → Memories → Check
new_declines k M = guard OutOfRange (leb k 32) (guard NotStore (are_heads M) (Ok k))

unfoldable pub new_step : ℕ → Memories → Outcome (Result Answer Refusal) Memories
new_step k M =
    finishes (Err UsedUp) (set_places M) (rel_places M) (unless_declined Err (new_declines k M) (λ k. runs (new k) as_handle)) blank M
    (λ S. encode k S M)
