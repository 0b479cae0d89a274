-- `first_path` answers as the definition says: none where `has_path` says no, and else the numbers of the pair that was found.
use mathlib.Core.Path.{◌≡◌, sym, ap, ◌∙◌, subst}
use mathlib.Core.List.{List, ◌++◌}
use mathlib.Core.Option.{some}
use mathlib.Core.Bool.{Bool, true, false}
use Prim.Native.Nat.{ℕ, ◌^◌, ◌<◌, ◌≤◌}
use native.Mathlib.Omega.{arith}
use lib.ListN.{take, drop}
use lib.Seq.{take_at, drop_at}
use Rattle.model.specs.FirstPair.{Through}
use Rattle.model.specs.Images.{has_path}
use Rattle.model.specs.Meaning.{Decides}
use Rattle.model.specs.Packets.{packet, number}
use Rattle.model.specs.Store.{set, Store}
use Rattle.model.proofs.FieldOrder.{packet_length}
use Rattle.model.proofs.FirstPair.{first_pair_is, first_pair_none, through_iff}
use Rattle.model.proofs.Levels.{held_most}
use Rattle.model.proofs.Numbers.{packet_is, number_packet}
use Rattle.model.proofs.Pairs.{relates_own}
use Rattle.model.proofs.ReadOnly.{has_path_read_only}
use Rattle.model.proofs.Rules.{own}
use Rattle.model.proofs.YesNo.{Some2, has_path_does}
use Rattle.memory.specs.Performing.{going, told, Condition, PerformsOn}
use Rattle.memory.specs.Rows.{places, plain}
use Rattle.memory.specs.Working.{Right}
use Rattle.memory.proofs.ReadingOnly.{reads_only}
use Rattle.first_paths.specs.Pairs.{FindsPair}
use Rattle.call_rules.specs.Checking.{AnsweredOn}
use Rattle.call_rules.specs.declared.Answer.{Answer}
use Rattle.call_rules.specs.declared.Answer.TheVariants.{Pair, Nothing}
use Rattle.store.specs.ImageCalls.{as_pair, path_answer}
use Rattle.store.specs.ImageChecking.{PathSafe}
use Rattle.store.specs.declared.path_reads.PathRead.TheVariants.{FirstPath}

-- the numbers of a pair of packets
halves : (l x y : ℕ) → x < 2 ^ l → y < 2 ^ l → as_pair l (some (packet l x ++ packet l y)) ≡ Pair x y
halves l x y i j =
    let e : number (take l (packet l x ++ packet l y)) ≡ x = ap number (take_at (packet l x) (packet l y) l (packet_length (packet_is l x)))
    ∙ number_packet l x i in
    let f : number (drop l (packet l x ++ packet l y)) ≡ y = ap number (drop_at (packet l x) (packet l y) l (packet_length (packet_is l x)))
    ∙ number_packet l y j in
    λ k. Pair (e k) (f k)

module _ {Q : Condition} {m w w₁ : List ℕ} {n : ℕ} (l p a q : ℕ) (b : Bool) (P : PerformsOn Q set (has_path l p a q) (going n) m m w w₁ (told n b)) where
  abbrev Answers : Answer → Type 0
  Answers z = AnsweredOn Q set m w n (λ S. PathSafe S l (FirstPath p a q)) (λ S. path_answer S l (FirstPath p a q)) z

  one : b ≡ true → (told n b).h ≡ 1
  one e = ap (λ b. (told n b).h) e

  no_one : b ≡ false → (told n b).h ≡ 1 → ⊥
  no_one e o = let z : (told n b).h ≡ 0 = ap (λ b. (told n b).h) e in absurd (omega (arith, z, o))

  -- what `has_path` said, and that the working memory is right after it
  record Said (B : Store) : Type 0 where
    decides : Decides (Some2 l (Through (plain set B m n) p a q)) (told n b).h
    work : Right set B w₁ m n

  said : (B : Store) → Q B → n ≤ places 2 m → Right set B w m n → PathSafe (plain set B m n) l (FirstPath p a q) → Said B
  said B c f R t =
      let S = plain set B m n in
      let F = R.formed in
      let D = has_path_does l p a q F (held_most set l p F t.0) (own set S l p t.0) (relates_own S l a t.1) (own set S l q t.2) in
      let G = reads_only (has_path_read_only l p a q) P B c f D.safe R in
      record { decides = subst (Decides (Some2 l (Through S p a q))) (sym G.value) D.after.post; work = G.work }

  pub no_path : b ≡ false → Answers Nothing
  no_path f = record {
    answers = λ B c g R t. let S = plain set B m n in
        sym (ap (as_pair l) (first_pair_none (λ x y X Y. through_iff S p a q x y) (λ s. no_one f ((said B c g R t).decides.means.1 s))));
  }

  pub first_found : {x y : ℕ} → b ≡ true → FindsPair Q l p a q n m w₁ x y → x < 2 ^ l → y < 2 ^ l → Answers (Pair x y)
  first_found {x} {y} h A i j = record {
    answers = λ B c f R t. let S = plain set B m n in let d = said B c f R t in
        let first = A.finds B c f d.work t.0 t.1 t.2 (d.decides.means.0 (one h)) in
        sym (ap (as_pair l) (first_pair_is (λ x y X Y. through_iff S p a q x y) first) ∙ halves l x y i j);
  }
