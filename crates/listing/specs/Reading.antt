-- What a reader gives to a buffer, where the bytes that it has left are known.
use Rattle.std.specs.Prelude.{◌≡◌, List, ℕ, length, take, Option, IfSome}

-- the first n bytes of the buffer, or all of them, are those of the reader, as many as the buffer holds
abbrev pub ReadsText : Option (List ℕ) → ℕ → List ℕ → Type 0
ReadsText known n buffer = IfSome known (λ t. take (length buffer) t ≡ take n buffer)
