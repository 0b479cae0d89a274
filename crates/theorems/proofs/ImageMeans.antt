-- What a public call between relations and sets gives: the fact to cite for each, from its verdict and meaning.
use mathlib.Core.Path.{◌≡◌, sym, ap, ◌∙◌, subst}
use mathlib.Core.Logic.Iff
use mathlib.Core.Logic.{◌↔◌}
use mathlib.Core.Bool.{true}
use mathlib.Core.List.{List}
use mathlib.Core.Option.{Option, none, some}
use Prim.Native.Nat.{ℕ}
use lib.Dec.{eqb}
use lib.ListN.{take, drop}
use Rattle.model.specs.Images.{has_image, has_path}
use Rattle.model.specs.FirstPair.{first_path, passes_through, Through, FirstPair}
use Rattle.model.specs.Meaning.{Rel, Some}
use Rattle.model.specs.Packets.{packet, number, contains, relates}
use Rattle.model.specs.Programs.{run}
use Rattle.model.specs.Store.{set, rel, Store}
use Rattle.model.specs.WellFormed.{WellFormed}
use Rattle.model.proofs.Bools.{one_iff}
use Rattle.model.proofs.FirstPair.{PairFinds, pair_finds, through_iff}
use Rattle.model.proofs.Numbers.{number_below, packet_number}
use Rattle.model.proofs.Pairs.{relates_own}
use Rattle.model.proofs.Rules.{own}
use Rattle.model.proofs.YesNo.{has_image_does, has_path_does}
use Rattle.store.specs.Calls.{image_call, filter_call, path_read, step}
use Rattle.store.specs.ImageCalls.{image_declines, image_program, filter_declines, filter_program, path_declines, as_pair, path_answer, path_verdict}
use Rattle.store.specs.ImageMeanings.{image_meaning, filter_meaning}
use Rattle.store_check.specs.Memory.{Memories, fields, decode}
use Rattle.store_check.specs.Valid.{IsStore}
use Rattle.std.specs.Prelude.{Ok, Err}
use Rattle.call_rules.specs.declared.Answer.TheVariants.{Handle}
use Rattle.call_rules.specs.declared.Refusal.{Refusal}
use Rattle.store.specs.declared.image_calls.ImageCall.{ImageCall}
use Rattle.store.specs.declared.filter_calls.FilterCall.{FilterCall}
use Rattle.store.specs.declared.path_reads.PathRead.{PathRead}
use Rattle.store.specs.declared.path_reads.PathRead.TheVariants.{HasImage, HasPath, FirstPath}
use Rattle.theorems.specs.ReadMeanings.{the_first_pair, path_meaning}
use Rattle.theorems.proofs.CallMeans.{means}
use Rattle.call_rules.proofs.Declining.{pair_passed, path_passed}
use Rattle.store.proofs.ImageMeant.{image_does, filter_does}
use Rattle.store.proofs.ImageSteps.{image_steps, filter_steps, path_steps}
use Rattle.theorems.proofs.ReadMeans.{GivesOnly, gives_by, answer_has}

-- what is found is answered by its numbers
found_pair : (l : ℕ) (R : Rel) (o : Option (List ℕ)) → PairFinds l R o → the_first_pair l R (Ok (as_pair l o))
found_pair l R none n = n
found_pair l R (some z) A = (
  number_below A.input,
  number_below A.output,
  subst (λ x. FirstPair l R x (packet l (number (drop l z)))) (sym (packet_number A.input))
      (subst (λ y. FirstPair l R (take l z) y) (sym (packet_number A.output)) A),
)

module _ {k : ℕ} {S : Store} (F : WellFormed k S) where
  path_refused : (c : PathRead) (r : Refusal) → path_meaning k c S (Err r)
  unfolding path_meaning
  path_refused (HasImage p a) r = tt
  path_refused (HasPath p a q) r = tt
  path_refused (FirstPath p a q) r = tt

  path_passes : (c : PathRead) (l : ℕ) → path_declines k c S ≡ Ok l → path_meaning k c S (Ok (path_answer S l c))
  unfolding path_meaning
  path_passes (HasImage p a) l e =
      let t = pair_passed F rel set a p e in
      subst (λ j. (eqb (run (has_image l p a) S).value 1 ≡ true) ↔ Some j (λ x. Some j (λ y. contains S p x × relates S a x y))) (sym t.0.level)
      (Iff.trans (one_iff _) (has_image_does l p a F t.0.low (own set S l p t.1.held) (relates_own S l a t.0.held)).after.post.means)
  path_passes (HasPath p a q) l e =
      let t = path_passed F p a q e in
      subst (λ j. (eqb (run (has_path l p a q) S).value 1 ≡ true) ↔ Some j (λ x. Some j (λ y. contains S p x × relates S a x y × contains S q y)))
      (sym t.1.level) (Iff.trans (one_iff _) (has_path_does l p a q F t.1.low
      (own set S l p t.0.held) (relates_own S l a t.1.held) (own set S l q t.2.held)).after.post.means)
  path_passes (FirstPath p a q) l e =
      let t = path_passed F p a q e in
      subst (λ j. the_first_pair j (Through S p a q) (Ok (as_pair l (first_path l S p a q)))) (sym t.1.level)
      (found_pair l (Through S p a q) (first_path l S p a q) (pair_finds l (Through S p a q) (passes_through S p a q) (λ x y X Y. through_iff S p a q x y)))

  pub path_gives : (c : PathRead) → GivesOnly (path_meaning k c S) (path_verdict c k S)
  path_gives c = gives_by (path_meaning k c S) (path_declines k c S) (λ l. path_answer S l c) (path_refused c) (path_passes c)

-- THE FACTS: of a call on a store, what the handle h that it gave means afterwards, or what its answer says
pub image_call_means : (c : ImageCall) (M : Memories) (h : ℕ) → IsStore M → (step (image_call c) M).answer ≡ Ok (Handle h)
    → image_meaning (fields M) c (decode M) (decode (step (image_call c) M).state) h
image_call_means c M h s q = subst (λ t. image_meaning (fields M) c (decode M) (decode t.state) h) (sym (image_steps c M))
    (means (λ k S. image_declines k c S) (λ k l. image_program l c) M s (image_meaning (fields M) c (decode M)) h (λ l e. image_does s.formed c e)
    (ap (λ t. t.answer) (sym (image_steps c M)) ∙ q))

pub filter_call_means : (c : FilterCall) (M : Memories) (h : ℕ) → IsStore M → (step (filter_call c) M).answer ≡ Ok (Handle h)
    → filter_meaning (fields M) c (decode M) (decode (step (filter_call c) M).state) h
filter_call_means c M h s q = subst (λ t. filter_meaning (fields M) c (decode M) (decode t.state) h) (sym (filter_steps c M))
    (means (λ k S. filter_declines k c S) (λ k l. filter_program l c) M s (filter_meaning (fields M) c (decode M)) h (λ l e. filter_does s.formed c e)
    (ap (λ t. t.answer) (sym (filter_steps c M)) ∙ q))

pub path_read_means : (c : PathRead) (M : Memories) → IsStore M
    → path_meaning (fields M) c (decode M) (step (path_read c) M).answer × ((step (path_read c) M).state ≡ M)
path_read_means c M s = subst (λ t. path_meaning (fields M) c (decode M) t.answer × (t.state ≡ M)) (sym (path_steps c M))
    (answer_has Err (path_verdict c) M s (path_meaning (fields M) c (decode M)) (path_gives s.formed c))
