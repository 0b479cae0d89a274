-- What the build pass does: a part of the text that follows the grammar is read up to its end, and its policy's program is run.
use Rattle.std.specs.Prelude.{◌≡◌, List, ◌∷◌, ◌++◌, Option, Some, None, IfSome, false, ℕ, ◌≤◌, length, get_or, drop}
use Rattle.model.specs.Store.{rel}
use Rattle.model.specs.Programs.{Prog}
use Rattle.model.specs.Operations.{union}
use Rattle.model.specs.Relations.{sequence}
use Rattle.model.specs.Policies.{Policy, policy_program, mix_program}
use Rattle.memory.specs.Performing.{RunState, ended, Performs}
use Rattle.policy_text.specs.Lexicon.{Lexicon}
use Rattle.policy_text.specs.XForms.{x_forms}
use Rattle.policy_text.specs.Grammar.{Atom, Starred, Product, Term, Sum}
use Rattle.policy_text.specs.Machine.{mix_of}
use Rattle.policy_text.specs.Posts.{continues_starred, continues_part, continues_rank}
use Rattle.policy_text.specs.declared.Rank.{Rank}
use Rattle.policy_build.specs.declared.Built.{Built}

-- the handle of what was built, where all fitted
abbrev pub handle : Option Built → Option ℕ
handle (Some r) = Some r.handle
handle None = None

-- a part of the grammar: which bytes are such a part, and of which policy
abbrev pub Part : Type 1
Part = ℕ → List ℕ → Policy → Type 0

-- a test or an assignment, after its `x`
abbrev pub Named : Part
Named d u p = Atom x_forms d (120 ∷ u) p

-- the bytes that may follow a part without making it longer
abbrev pub after_atom : ℕ → Type 0
after_atom b = Unit {0}

abbrev pub after_starred : ℕ → Type 0
after_starred b = continues_starred b ≡ false

-- the parts of a rank, and what they make joined
abbrev pub part_of : Lexicon → Rank → Part
part_of X Rank.Product = Starred X
part_of X Rank.Term = Product X
part_of X Rank.Sum = Term X

abbrev pub ranked : Lexicon → Rank → Part
ranked X Rank.Product = Product X
ranked X Rank.Term = Term X
ranked X Rank.Sum = Sum X

-- the bytes that may follow each of them
abbrev pub after_part : Rank → ℕ → Type 0
after_part r b = continues_part r b ≡ false

abbrev pub after_rank : Rank → ℕ → Type 0
after_rank r b = continues_rank r b ≡ false

-- the program of a byte that joins the parts of a rank
abbrev pub join_program : Rank → ℕ → ℕ → ℕ → ℕ → Prog
join_program Rank.Product b = sequence
join_program Rank.Term b = mix_program (mix_of b)
join_program Rank.Sum b = union rel

-- p's program was run, to c nodes, and where all fitted the text was read up to rest
pub record BuildsPart (k : ℕ) (t : List ℕ) (p : Policy) (rest : List ℕ) (s : RunState) (m m' w w' : List ℕ) (c : ℕ) (r : Option Built) : Type 0 where
  pub text_left : IfSome r (λ b. drop b.end t ≡ rest)
  pub performs : Performs rel (policy_program k p) s m m' w w' (ended c (handle r))

-- so it is for every part of the rank that begins at this offset
pub record Builds (G : Part) (After : ℕ → Type 0) (k : ℕ) (t : List ℕ) (at : ℕ) (s : RunState) (m m' w w' : List ℕ) (c : ℕ) (r : Option Built) : Type 0 where
  pub from : IfSome r (λ b. at ≤ b.end)
  pub within : IfSome r (λ b. b.end ≤ length t)
  pub part : (d : ℕ) (u : List ℕ) (p : Policy) (rest : List ℕ) → G d u p → drop at t ≡ u ++ rest → After (get_or rest 0 0)
      → BuildsPart k t p rest s m m' w w' c r

-- a whole text: whatever policy it is of, that policy's program is run
pub record BuildsText (X : Lexicon) (k : ℕ) (t : List ℕ) (s : RunState) (m m' w w' : List ℕ) (r : RunState) : Type 0 where
  pub builds : (d : ℕ) (p : Policy) → Sum X d t p → Performs rel (policy_program k p) s m m' w w' r
