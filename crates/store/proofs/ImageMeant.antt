-- The calls between relations and sets: where one is not declined, its program is safe and its answer means what `ImageMeanings` says.
use mathlib.Core.Path.{◌≡◌, sym, subst}
use Prim.Native.Nat.{ℕ, ◌≤◌}
use Rattle.std.specs.Prelude.{Ok}
use Rattle.model.specs.Store.{set, rel, Store}
use Rattle.model.specs.Packets.{contains, relates}
use Rattle.model.specs.Programs.{Prog}
use Rattle.model.specs.Meaning.{Den, Relates}
use Rattle.model.specs.WellFormed.{WellFormed, level_of}
use Rattle.model.proofs.Images.{fwd_does, bwd_does, push_does, pull_does, diagonal_does, ifwd_does, ibwd_does}
use Rattle.model.proofs.Pairs.{relates_own}
use Rattle.model.proofs.Rules.{Does, own}
use Rattle.model.proofs.YesNo.{has_image_does, has_path_does}
use Rattle.store.specs.ImageCalls.{image_declines, image_program, filter_declines, filter_program, path_declines}
use Rattle.store.specs.ImageChecking.{PathSafe}
use Rattle.store.specs.ImageMeanings.{image_meaning, filter_meaning}
use Rattle.call_rules.specs.Outcome.{of_pair}
use Rattle.store.specs.declared.image_calls.ImageCall.{ImageCall}
use Rattle.store.specs.declared.image_calls.ImageCall.TheVariants.{Fwd, Bwd, Push, Pull}
use Rattle.store.specs.declared.filter_calls.FilterCall.{FilterCall}
use Rattle.store.specs.declared.filter_calls.FilterCall.TheVariants.{Diagonal, Ifwd, Ibwd}
use Rattle.store.specs.declared.path_reads.PathRead.{PathRead}
use Rattle.store.specs.declared.path_reads.PathRead.TheVariants.{HasImage, HasPath, FirstPath}
use Rattle.call_rules.proofs.Declining.{pair_passed, path_passed}
use Rattle.store.proofs.SetMeant.{set_single}
use Rattle.store.proofs.RelationMeant.{single}

-- CALLS THAT MAY ADD SETS
module _ {k : ℕ} {S : Store} {l : ℕ} (F : WellFormed k S) where
  -- an operation on a relation and a set of one level
  both : (a q : ℕ) (f : ℕ → Prog) (φ : ℕ → Store → ℕ → Type 0) → of_pair k S rel a set q ≡ Ok l
      → ((j : ℕ) → j ≤ k → Relates j (relates S a) S a → Den set j (contains S q) S q → Does k S (f j) (φ j)) → Does k S (f l) (φ (level_of k rel S a))
  both a q f φ e D =
      let t = pair_passed F rel set a q e in
      subst (λ j. Does k S (f l) (φ j)) (sym t.0.level) (D l t.0.low (relates_own S l a t.0.held) (own set S l q t.1.held))

  pub image_does : (c : ImageCall) → image_declines k c S ≡ Ok l → Does k S (image_program l c) (image_meaning k c S)
  unfolding image_meaning
  image_does (Fwd a) e = single F a _ _ e (λ l i A. fwd_does l a F i A)
  image_does (Bwd a) e = single F a _ _ e (λ l i A. bwd_does l a F i A)
  image_does (Push q a) e = both a q _ _ e (λ l i A B. push_does l q a F i B A)
  image_does (Pull a q) e = both a q _ _ e (λ l i A B. pull_does l a q F i A B)

  -- CALLS THAT MAY ADD RELATIONS
  pub filter_does : (c : FilterCall) → filter_declines k c S ≡ Ok l → Does k S (filter_program l c) (filter_meaning k c S)
  unfolding filter_meaning
  filter_does (Diagonal q) e = set_single F q _ _ e (λ l i A. diagonal_does l q F i A)
  filter_does (Ifwd q) e = set_single F q _ _ e (λ l i A. ifwd_does l q F i A)
  filter_does (Ibwd q) e = set_single F q _ _ e (λ l i A. ibwd_does l q F i A)

  -- CALLS THAT ADD NOTHING: what a call reads is there
  pub path_safe : (c : PathRead) → path_declines k c S ≡ Ok l → PathSafe S l c
  path_safe (HasImage p a) e =
      let t = pair_passed F rel set a p e in
      (has_image_does l p a F t.0.low (own set S l p t.1.held) (relates_own S l a t.0.held)).safe
  path_safe (HasPath p a q) e =
      let t = path_passed F p a q e in
      (has_path_does l p a q F t.1.low (own set S l p t.0.held) (relates_own S l a t.1.held) (own set S l q t.2.held)).safe
  path_safe (FirstPath p a q) e = let t = path_passed F p a q e in (t.0.held, t.1.held, t.2.held)
