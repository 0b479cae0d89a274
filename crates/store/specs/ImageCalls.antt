-- The calls between relations and sets, after spp.rs: what each declines in document 01's order, what it runs, and what it answers.
use Rattle.std.specs.Prelude.{Result, Ok, Err, List, ℕ, take, drop}
use Rattle.std.proofs.Math.Option.{Option, none, some}
use Rattle.model.specs.Store.{set, rel, Store}
use Rattle.model.specs.Programs.{Prog}
use Rattle.model.specs.Packets.{number}
use Rattle.model.specs.FirstPair.{first_path}
use Rattle.model.specs.Images.{fwd, bwd, push, pull, diagonal, ifwd, ibwd, has_image, has_path}
use Rattle.call_rules.specs.Outcome.{Check, Verdict, gives, runs, unless_declined, as_handle, of_one, of_pair, of_path, yes_no}
use Rattle.call_rules.specs.declared.Answer.{Answer}
use Rattle.call_rules.specs.declared.Answer.TheVariants.{Pair, Nothing}
use Rattle.store.specs.declared.image_calls.ImageCall.{ImageCall}
use Rattle.store.specs.declared.image_calls.ImageCall.TheVariants.{Fwd, Bwd, Push, Pull}
use Rattle.store.specs.declared.filter_calls.FilterCall.{FilterCall}
use Rattle.store.specs.declared.filter_calls.FilterCall.TheVariants.{Diagonal, Ifwd, Ibwd}
use Rattle.store.specs.declared.path_reads.PathRead.{PathRead}
use Rattle.store.specs.declared.path_reads.PathRead.TheVariants.{HasImage, HasPath, FirstPath}
use Rattle.call_rules.specs.declared.Refusal.{Refusal}

-- CALLS THAT MAY ADD SETS. 01: "One-operand operations: 1; 2; 6. Those with two or three .. : 1; 2; 3; 6"
abbrev pub image_declines : ℕ → ImageCall → Store → Check
image_declines k (Fwd a) S = of_one k rel S a
image_declines k (Bwd a) S = of_one k rel S a
image_declines k (Push p a) S = of_pair k S rel a set p
image_declines k (Pull a p) S = of_pair k S rel a set p

abbrev pub image_program : ℕ → ImageCall → Prog
image_program l (Fwd a) = fwd l a
image_program l (Bwd a) = bwd l a
image_program l (Push p a) = push l p a
image_program l (Pull a p) = pull l a p

abbrev pub image_verdict : ImageCall → ℕ → Store → Verdict (Result Answer Refusal)
image_verdict c k S = unless_declined Err (image_declines k c S) (λ l. runs (image_program l c) as_handle)

-- CALLS THAT MAY ADD RELATIONS
abbrev pub filter_declines : ℕ → FilterCall → Store → Check
filter_declines k (Diagonal p) S = of_one k set S p
filter_declines k (Ifwd p) S = of_one k set S p
filter_declines k (Ibwd p) S = of_one k set S p

abbrev pub filter_program : ℕ → FilterCall → Prog
filter_program l (Diagonal p) = diagonal l p
filter_program l (Ifwd p) = ifwd l p
filter_program l (Ibwd p) = ibwd l p

abbrev pub filter_verdict : FilterCall → ℕ → Store → Verdict (Result Answer Refusal)
filter_verdict c k S = unless_declined Err (filter_declines k c S) (λ l. runs (filter_program l c) as_handle)

-- CALLS THAT ADD NOTHING
abbrev pub path_declines : ℕ → PathRead → Store → Check
path_declines k (HasImage p a) S = of_pair k S rel a set p
path_declines k (HasPath p a q) S = of_path k S p a q
path_declines k (FirstPath p a q) S = of_path k S p a q

-- the packet of 2l fields of a pair is answered by the numbers of its halves
abbrev pub as_pair : ℕ → Option (List ℕ) → Answer
as_pair l none = Nothing
as_pair l (some z) = Pair (number (take l z)) (number (drop l z))

abbrev pub path_answer : Store → ℕ → PathRead → Answer
path_answer S l (HasImage p a) = yes_no (has_image l p a) S
path_answer S l (HasPath p a q) = yes_no (has_path l p a q) S
path_answer S l (FirstPath p a q) = as_pair l (first_path l S p a q)

abbrev pub path_verdict : PathRead → ℕ → Store → Verdict (Result Answer Refusal)
path_verdict c k S = unless_declined Err (path_declines k c S) (λ l. gives (Ok (path_answer S l c)))
