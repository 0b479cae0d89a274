-- What the handle that a public call gives means in the memories that it leaves: the fact to cite for each call, from its verdict and meaning.
use mathlib.Core.Path.{◌≡◌, refl, sym, ap, ◌∙◌, subst}
use Prim.Native.Nat.{ℕ}
use Rattle.model.specs.Store.{Store, pick}
use Rattle.model.specs.Places.{fits_places}
use Rattle.model.specs.Programs.{Prog, run}
use Rattle.model.proofs.Bools.{by_test}
use Rattle.model.proofs.Rules.{Does}
use Rattle.store.specs.Calls.{set_call, relation_call, step}
use Rattle.call_rules.specs.OnMemories.{set_places, rel_places, on_store}
use Rattle.store.specs.Meanings.{set_meaning, relation_meaning}
use Rattle.store_check.specs.Memory.{Memories, fields, decode, encode}
use Rattle.call_rules.specs.Outcome.{Verdict, runs, unless_declined, as_handle, outcome, finishes}
use Rattle.store.specs.RelationCalls.{relation_declines, relation_program}
use Rattle.store.specs.SetCalls.{set_declines, set_program}
use Rattle.store_check.specs.Valid.{IsStore}
use Rattle.call_rules.specs.declared.Answer.{Answer}
use Rattle.std.specs.Prelude.{Result, Ok, Err}
use Rattle.call_rules.specs.declared.Refusal.{Refusal}
use Rattle.call_rules.specs.declared.Answer.TheVariants.{Handle, Truth, SetNode, RelationNode, Pair, Nothing, Member}
use Rattle.call_rules.specs.Outcome.{Check}
use Rattle.call_rules.specs.declared.Refusal.TheVariants.{UsedUp}
use Rattle.store.specs.declared.relation_calls.RelationCall.{RelationCall}
use Rattle.store.specs.declared.set_calls.SetCall.{SetCall}
use Rattle.call_rules.proofs.Encoding.{decode_encode}
use Rattle.call_rules.proofs.Outcomes.{ended, store_outcome}
use Rattle.store.proofs.RelationMeant.{relation_does}
use Rattle.store.proofs.RelationSteps.{relation_steps}
use Rattle.store.proofs.SetMeant.{set_does}
use Rattle.store.proofs.SetSteps.{set_steps}

-- the handle in an answer, and an answer that is one
abbrev handle : Result Answer Refusal → ℕ
handle (Ok (Handle h)) = h
handle (Ok (Truth b)) = 0
handle (Ok (SetNode x y)) = 0
handle (Ok (RelationNode x y z u)) = 0
handle (Err r) = 0
handle (Ok (Pair x y)) = 0
handle (Ok Nothing) = 0
handle (Ok (Member x)) = 0

abbrev Given : Result Answer Refusal → Type 0
Given (Ok (Handle h)) = Unit {0}
Given (Ok (Truth b)) = ⊥
Given (Ok (SetNode x y)) = ⊥
Given (Ok (RelationNode x y z u)) = ⊥
Given (Err r) = ⊥
Given (Ok (Pair x y)) = ⊥
Given (Ok Nothing) = ⊥
Given (Ok (Member x)) = ⊥

-- a call that is not declined and runs a program, where the answer is a handle: the meaning of the program's result
module _ (check : ℕ → Store → Check) (program : ℕ → ℕ → Prog) (M : Memories) (s : IsStore M) (Q : Store → ℕ → Type 0) (h : ℕ)
    (does : (l : ℕ) → check (fields M) (decode M) ≡ Ok l → Does (fields M) (decode M) (program (fields M) l) Q) where
  abbrev pub verdict : ℕ → Store → Verdict (Result Answer Refusal)
  verdict k S = unless_declined Err (check k S) (λ l. runs (program k l) as_handle)

  by_check : (c : Check) → check (fields M) (decode M) ≡ c
      → (let t = ended Err M (unless_declined Err c (λ l. runs (program (fields M) l) as_handle)) in
      t.answer ≡ Ok (Handle h) → Q (decode t.state) h)
  unfolding finishes
  by_check (Ok l) e q = let D = does l e in let p = program (fields M) l in
      by_test (λ b. (let t = pick b (outcome (Ok (Handle (run p (decode M)).value)) (encode (fields M) (run p (decode M)).store M))
      (outcome (Err UsedUp) M) in
      t.answer ≡ Ok (Handle h) → Q (decode t.state) h)) (fits_places (set_places M) (rel_places M) (run p (decode M)).store)
      (λ t f. subst (λ S. Q S h) (sym (decode_encode M (fields M) D.after.formed)) (subst (Q (run p (decode M)).store) (ap handle f) D.after.post))
      (λ t f. absurd (subst Given (sym f) tt)) q
  by_check (Err r) e q = absurd (subst Given (sym q) tt)

  pub means : (on_store Err verdict M).answer ≡ Ok (Handle h) → Q (decode (on_store Err verdict M).state) h
  means q = let j = store_outcome Err verdict M s (verdict (fields M) (decode M)) refl in
      subst (λ t. Q (decode t.state) h) (sym j) (by_check (check (fields M) (decode M)) refl (ap (λ t. t.answer) (sym j) ∙ q))

-- THE FACTS: of a call on a store, what the handle h that it gave means afterwards
pub set_call_means : (c : SetCall) (M : Memories) (h : ℕ) → IsStore M → (step (set_call c) M).answer ≡ Ok (Handle h)
    → set_meaning (fields M) c (decode M) (decode (step (set_call c) M).state) h
set_call_means c M h s q = subst (λ t. set_meaning (fields M) c (decode M) (decode t.state) h) (sym (set_steps c M))
    (means (λ k S. set_declines k c S) (λ k l. set_program k l c) M s (set_meaning (fields M) c (decode M)) h (λ l e. set_does s.formed c e)
    (ap (λ t. t.answer) (sym (set_steps c M)) ∙ q))

pub relation_call_means : (c : RelationCall) (M : Memories) (h : ℕ) → IsStore M → (step (relation_call c) M).answer ≡ Ok (Handle h)
    → relation_meaning (fields M) c (decode M) (decode (step (relation_call c) M).state) h
relation_call_means c M h s q = subst (λ t. relation_meaning (fields M) c (decode M) (decode t.state) h) (sym (relation_steps c M))
    (means (λ k S. relation_declines k c S) (λ k l. relation_program k l c) M s (relation_meaning (fields M) c (decode M)) h
    (λ l e. relation_does s.formed c e)
    (ap (λ t. t.answer) (sym (relation_steps c M)) ∙ q))
