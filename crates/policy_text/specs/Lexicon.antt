-- A lexicon: how the fields are spelt in a text. The grammar is over what spells a field, the machine over what it asks of the bytes
-- that it has read, and the laws tie the two.
use Rattle.std.specs.Prelude.{◌≡◌, ◌⊎◌, ℕ, ◌≤◌, List, [], ◌∷◌, ◌++◌, Bool, true, false, leb}

-- the field that some bytes spell, if they do
pub data Whole : Type 0 where
  unspelt : Whole
  field : ℕ → Whole

pub record Lexicon : Type 1 where
  -- these bytes spell this field
  pub Spells : List ℕ → ℕ → Type 0
  -- do these bytes begin a spelling, which field do they spell
  pub does_begin : List ℕ → Bool
  pub is_whole : List ℕ → Whole
  -- is this byte taken for the first of a spelling, in the search for 8
  pub does_start : ℕ → Bool
  -- does the text that is left begin with the spelling of a field that is k or more
  pub is_outside : ℕ → List ℕ → Bool

abbrev pub Digit : ℕ → Type 0
Digit b = (48 ≤ b) × (b ≤ 57)

abbrev pub Letter : ℕ → Type 0
Letter b = (97 ≤ b) × (b ≤ 122)

-- bytes begin a spelling exactly where some ending makes them one; a spelling is a letter and then letters and digits
pub record Lawful (X : Lexicon) : Type 0 where
  pub begun : (s : List ℕ) → X.does_begin s ≡ true → (w : List ℕ) × (n : ℕ) × X.Spells (s ++ w) n
  pub begins : (s w : List ℕ) (n : ℕ) → X.Spells (s ++ w) n → X.does_begin s ≡ true
  pub spelt : (s : List ℕ) (n : ℕ) → X.is_whole s ≡ field n → X.Spells s n
  pub whole : (s : List ℕ) (n : ℕ) → X.Spells s n → X.is_whole s ≡ field n
  pub some : (n : ℕ) → X.Spells [] n → ⊥
  pub letter : (b : ℕ) → X.does_begin (b ∷ []) ≡ true → Letter b
  pub starts : (b : ℕ) (s : List ℕ) (n : ℕ) → X.Spells (b ∷ s) n → X.does_start b ≡ true
  pub starts_letter : (b : ℕ) → X.does_start b ≡ true → Letter b
  pub word : (s : List ℕ) (b : ℕ) → X.does_begin (s ++ (b ∷ [])) ≡ true → Letter b ⊎ Digit b

-- what the search for a field that is k or more finds: it, where its spelling begins, and nothing inside a spelling or elsewhere
pub record Bounds (X : Lexicon) (k : ℕ) : Type 0 where
  pub here : (s : List ℕ) (n c : ℕ) (r : List ℕ) → X.Spells s n → (c ≡ 61) ⊎ (c ≡ 58) → X.is_outside k (s ++ (c ∷ r)) ≡ leb k n
  pub inner : (a : ℕ) (s : List ℕ) (b : ℕ) (r : List ℕ) → X.does_begin (a ∷ (s ++ (b ∷ []))) ≡ true → X.is_outside k (b ∷ r) ≡ false
  pub elsewhere : (b : ℕ) (r : List ℕ) → X.does_begin (b ∷ []) ≡ false → X.is_outside k (b ∷ r) ≡ false
