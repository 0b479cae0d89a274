-- `next_member` answers as the definition says: none where the end was met, and else the first member from the rank after the last packet, as that is the first
-- which is still to come.
use mathlib.Core.Path.{◌≡◌, refl, sym, ap, ◌∙◌, subst}
use mathlib.Core.Logic.{◌↔◌}
use mathlib.Core.List.{List}
use mathlib.Core.Option.{none}
use mathlib.Core.Bool.{true, ◌||◌}
use Prim.Native.Nat.{ℕ, ◌+◌, ◌^◌, ◌<◌, ◌≤◌, zero-le}
use native.Mathlib.Omega.{arith}
use borrow.Author.Tests.{eq-eqb, ltb-true, lt-ltb}
use lib.Dec.{eqb, ltb}
use Rattle.model.specs.FieldOrder.{is_before, rank}
use Rattle.model.specs.FirstPair.{first_packet, LeastRank}
use Rattle.model.specs.Members.{is_member}
use Rattle.model.specs.Packets.{Packet, packet, walk, contains}
use Rattle.model.specs.Store.{set, Store, pick}
use Rattle.model.proofs.Bools.{by_test, one_iff, and_iff}
use Rattle.model.proofs.FieldOrder.{before_rank}
use Rattle.model.proofs.FirstPair.{first_by_rank, none_by_rank}
use Rattle.model.proofs.Numbers.{packet_is, number_ranked}
use Rattle.model.proofs.Ranks.{least_iff}
use Rattle.memory.specs.Rows.{places, plain}
use Rattle.memory.specs.Working.{Right}
use Rattle.first_paths.specs.FromRanks.{FindsFrom}
use Rattle.call_rules.specs.Checking.{Answered}
use Rattle.call_rules.specs.declared.Answer.{Answer}
use Rattle.call_rules.specs.declared.Answer.TheVariants.{Nothing, Member}
use Rattle.store.specs.Cursors.{is_to_come, as_member}
use Rattle.store.specs.SetCalls.{set_read_answer}
use Rattle.store.specs.SetChecking.{SetReadSafe, from_rank}
use Rattle.store.specs.declared.set_reads.Cursor.{Cursor}
use Rattle.store.specs.declared.set_reads.SetRead.TheVariants.{Next}

module _ (l : ℕ) (c : Cursor) where
  -- what is after the last packet has a greater rank
  after_last : (p : List ℕ) → Packet l p → ((eqb c.given 0 || is_before (packet l c.last) p) ≡ true) ↔ (from_rank l c ≤ rank p)
  after_last p P = by_test (λ b. ((b || is_before (packet l c.last) p) ≡ true) ↔ (pick b 0 (rank (packet l c.last) + 1) ≤ rank p)) (eqb c.given 0)
      (λ _. (λ _. zero-le, λ _. refl))
      (λ _.
      let x = rank (packet l c.last) in
      let e : is_before (packet l c.last) p ≡ ltb x (rank p) = before_rank (packet_is l c.last) P in
      (λ g. let i = ltb-true x (rank p) (sym e ∙ g) in omega arith, λ i. e ∙ lt-ltb x (rank p) (omega arith)))

  module _ (S : Store) (r : ℕ) (A : LeastRank l (λ x. contains S c.handle x × (from_rank l c ≤ rank x)) r) where
    to_come : LeastRank l (λ p. is_to_come S l c p ≡ true) r
    to_come = least_iff (λ p P. let e = and_iff (is_member S c.handle p) _ (one_iff (walk set S c.handle p)) (after_last p P) in (e.1, e.0)) A

    -- the packet of rank r has the number `rank (packet l r)`: `number_ranked`
    the_member : r < 2 ^ l → as_member (first_packet l (is_to_come S l c)) ≡ Member (rank (packet l r))
    the_member i = ap as_member (first_by_rank to_come i) ∙ ap Member (number_ranked l r)

    no_member : 2 ^ l ≤ r → as_member (first_packet l (is_to_come S l c)) ≡ Nothing
    no_member i = ap as_member (none_by_rank to_come i)

  abbrev Answers : List ℕ → List ℕ → Answer → Type 0
  Answers m w z = (n : ℕ) → Answered set m w n (λ S. SetReadSafe S l (Next c)) (λ S. set_read_answer S l (Next c)) z

  module _ {m w : List ℕ} where
    -- the search from that rank found r
    module _ (e : c.ended ≡ 0) {f : ℕ} (r : ℕ) (G : FindsFrom l c.handle f m w r) (ef : f ≡ from_rank l c) where
      F : FindsFrom l c.handle (from_rank l c) m w r
      F = subst (λ f. FindsFrom l c.handle f m w r) ef G

      unmet : (S : Store) → set_read_answer S l (Next c) ≡ as_member (first_packet l (is_to_come S l c))
      unmet S = ap (λ b. as_member (pick b (first_packet l (is_to_come S l c)) none)) (eq-eqb c.ended 0 e)

      least : (B : Store) (n : ℕ) → n ≤ places 2 m → Right set B w m n → SetReadSafe (plain set B m n) l (Next c)
          → LeastRank l (λ x. contains (plain set B m n) c.handle x × (from_rank l c ≤ rank x)) r
      least B n i R s = F.finds R.fields B n i R.formed R.words s

      pub found : {x : ℕ} → r < 2 ^ l → x ≡ rank (packet l r) → Answers m w (Member x)
      found h e n = record { answers = λ B q i R s. ap Member e ∙ sym (unmet (plain set B m n) ∙ the_member (plain set B m n) r (least B n i R s) h) }

      pub not_found : 2 ^ l ≤ r → Answers m w Nothing
      not_found h n = record { answers = λ B q i R s. sym (unmet (plain set B m n) ∙ no_member (plain set B m n) r (least B n i R s) h) }
