-- A rank in the memo: its parts are kept one after the other, and make the rank where the memo knows each that may have bits.
use mathlib.Core.Path.{◌≡◌, refl, sym, ap, ◌∙◌, subst}
use mathlib.Core.Logic.{inl, inr}
use mathlib.Core.List.{List}
use mathlib.Core.Bool.{true}
use Prim.Native.Nat.{ℕ, zero, suc, ◌+◌, ◌-◌, ◌*◌, ◌/◌, ◌%◌, ◌^◌, ◌<◌, ◌≤◌}
use native.Mathlib.Omega.{arith}
use lib.Dec.{ltb}
use borrow.Author.Tests.{lt-ltb}
use Rattle.model.specs.FirstInputs.{first_input_node, first_input}
use Rattle.model.specs.Programs.{Ran, ran, run}
use Rattle.model.specs.Safety.{ReadOnly, Settled}
use Rattle.model.specs.Store.{Kind, Store}
use Rattle.model.proofs.FirstInputs.{node_rank}
use Rattle.model.proofs.Powers.{pow_less}
use Rattle.model.proofs.ReadOnly.{run_same, first_input_read_only}
use Rattle.memory.specs.Memo.{memo_program, op_first_input, rank_parts, rank_part, first_input_part}
use Rattle.std.specs.Prelude.{Option, Some}
use Rattle.memory.specs.Performing.{RunState, ended, Condition, PerformsOn, Recalls}
use Rattle.memory.specs.Working.{Remembers}
use Rattle.memory.proofs.Remembering.{performs_keep}
use Rattle.first_paths.specs.Inputs.{KnowsPart, KeepsPart, KeepsRank}

-- a part is the memo's program of its number, and is settled where the rank is
part_memo : (i l p a q : ℕ) → i < 3 → memo_program (op_first_input + q) l p (rank_parts * a + i) ≡ first_input_part i l p a q
unfolding memo_program
part_memo i l p a q h =
    let b : ltb 16383 (16384 + q) ≡ true = lt-ltb 16383 (16384 + q) (omega arith) in
    let d : 16384 + q - 16384 ≡ q = omega arith in
    let e : (3 * a + i) % 3 ≡ i = omega arith in
    let f : (3 * a + i) / 3 ≡ a = omega arith in
    rw (b, d, e, f)

part_settled : (i l p a q : ℕ) {h : ℕ} {S : Store} → i < 3 → Settled (first_input_node l p a q) S h
    → Settled (memo_program (op_first_input + q) l p (rank_parts * a + i)) S (rank_part i h)
unfolding run
part_settled i l p a q {h} {S} b s = subst (λ t. Settled t S (rank_part i h)) (sym (part_memo i l p a q b))
    (record { again = λ T E. ap (λ (r : Ran). ran r.store (rank_part i r.value)) (s.again T E) })

-- KNOWN: a rank of a low level has no bits in part i
no_bits : (i l n : ℕ) → i < 3 → l < 14 * i → n ≤ 2 ^ l → rank_part i n ≡ 0
no_bits zero l n b h g = absurd (let z : ⊥ = omega arith in z)
no_bits (suc zero) l n b h g = let t : 2 ^ l ≤ 8192 = pow_less l 13 (omega arith) in let u : n ≤ 8192 = omega (arith, g) in omega arith
no_bits (suc (suc zero)) l n b h g =
    let t : 2 ^ l ≤ 134217728 = pow_less l 27 (omega arith) in let u : n ≤ 134217728 = omega (arith, g) in omega arith
no_bits (suc (suc (suc i))) l n b h g = absurd (let z : ⊥ = omega arith in z)

pub part_none : (i l p a q : ℕ) {w : List ℕ} → i < 3 → l < 14 * i → KnowsPart i l p a q w (Some 0)
part_none i l p a q b h = record {
  part = λ S v m e. let f : 0 ≡ v = cc in no_bits i l (run (first_input_node l p a q) S).value b h (node_rank l p a q S) ∙ f;
}

pub part_known : (i l p a q : ℕ) {w : List ℕ} {r : Option ℕ} {o n : ℕ} → i < 3 → o ≡ op_first_input + q → n ≡ rank_parts * a + i → Recalls w o l p n r
    → KnowsPart i l p a q w r
unfolding run
part_known i l p a q {o = o} {n} b eo en k = record {
  part = λ S v m e. ap (λ (z : Ran). z.value) (ap (λ t. run t S) (sym (part_memo i l p a q b))
      ∙ ap (λ o. run (memo_program o l p (rank_parts * a + i)) S) (sym eo) ∙ ap (λ n. run (memo_program o l p n) S) (sym en) ∙ k.recalls S v m e);
}

-- the parts make the rank
whole : (n low mid high : ℕ) → rank_part 0 n ≡ low → rank_part 1 n ≡ mid → rank_part 2 n ≡ high → n ≡ low + 16384 * (mid + 16384 * high)
whole n low mid high d e f = omega (arith, d, e, f)

-- the node makes no node
node_reads : (l p a q : ℕ) → ReadOnly (first_input_node l p a q)
unfolding first_input ReadOnly
node_reads l p a q = (first_input_read_only l p a q).1.1.1.1

pub rank_known : (l p a q : ℕ) {w : List ℕ} {S : Store} {low mid high h : ℕ} → Remembers w S → KnowsPart 0 l p a q w (Some low)
    → KnowsPart 1 l p a q w (Some mid) → KnowsPart 2 l p a q w (Some high) → low + 16384 * (mid + 16384 * high) ≡ h
    → run (first_input_node l p a q) S ≡ ran S h
rank_known l p a q {S = S} {low} {mid} {high} {h} m k₀ k₁ k₂ f =
    let g = whole (run (first_input_node l p a q) S).value low mid high (k₀.part S low m refl) (k₁.part S mid m refl) (k₂.part S high m refl) in
    λ i. ran (run_same (first_input_node l p a q) S (node_reads l p a q) i) ((g ∙ f) i)

-- KEPT: where a call that found the rank keeps a part of it, it is still right
module _ {Q : Condition} {K : Kind} (l p a q : ℕ) {s : RunState} {n h : ℕ} {m m' w : List ℕ} where
  part_kept : (i : ℕ) {w₁ w₂ : List ℕ} → i < 3 → PerformsOn Q K (first_input_node l p a q) s m m' w w₁ (ended n (Some h))
      → KeepsPart i (rank_part i h) l p a q w₁ w₂ → PerformsOn Q K (first_input_node l p a q) s m m' w w₂ (ended n (Some h))
  part_kept i b d (inl e) = subst (λ v. PerformsOn Q K (first_input_node l p a q) s m m' w v (ended n (Some h))) (sym e) d
  part_kept i b d (inr k) = performs_keep _ l p _ _ (λ S. part_settled i l p a q b) d (λ _. k) k.work_length

  pub rank_kept : {w₁ w₂ : List ℕ} → PerformsOn Q K (first_input_node l p a q) s m m' w w₁ (ended n (Some h)) → KeepsRank h l p a q w₁ w₂
      → PerformsOn Q K (first_input_node l p a q) s m m' w w₂ (ended n (Some h))
  rank_kept d k = part_kept 2 (omega arith) (part_kept 1 (omega arith) (part_kept 0 (omega arith) d k.low) k.mid) k.high
