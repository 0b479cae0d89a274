-- Document 01's calls with their answers: what the plain store answers by computation, `new` by the sizes of the memories, and the memories as the plain
-- store by the theorem about lists.
use mathlib.Core.Path.{◌≡◌, refl, sym, ap, ◌∙◌, subst}
use mathlib.Core.List.{List, [], ◌∷◌, map}
use mathlib.Core.Bool.{Bool, true, ◌&&◌}
use Prim.Native.Nat.{ℕ, zero, suc, ◌+◌, ◌-◌, ◌*◌}
use native.Mathlib.Omega.{arith}
use lib.Dec.{leb, T, leb→le}
use lib.ListN.{length, length-drop}
use Rattle.memory.specs.Rows.{places_of}
use Rattle.model.specs.Images.{fwd, bwd, ifwd, ibwd, diagonal, push, pull, has_image, has_path, has_path_node, blank, new}
use Rattle.model.specs.Operations.{constant, identity_at_depth, complement, union, intersect, xor, difference, raise, each_field, test, assign, is_zero}
use Rattle.model.specs.Packets.{packet, number}
use Rattle.model.specs.FieldOrder.{is_before}
use Rattle.model.specs.FirstPair.{first_packet, first_pair}
use Rattle.model.specs.Policies.{mix_program, policy_program}
use Rattle.model.specs.Programs.{agrees, run}
use Rattle.model.specs.Recursion.{node1, op1, node2, op2}
use Rattle.model.specs.Relations.{sequence, star, flip, naive_forward, backward}
use Rattle.model.specs.Sets.{ifelse, intersects}
use Rattle.model.specs.Store.{set, rel, arity, get, place, having, mk_store, mk_handle}
use Rattle.model.specs.WellFormed.{level_of}
use Rattle.model.proofs.Bools.{and_T}
use Rattle.model.proofs.New.{new_value}
use Rattle.store_check.specs.Memory.{Memories, head}
use Rattle.call_rules.specs.Added.{node_counts, added_by_new}
use Rattle.call_rules.specs.Answers.{refusal}
use Rattle.call_rules.specs.OnMemories.{set_places, rel_places, new_step}
use Rattle.call_rules.specs.Outcome.{guard, also, of_one, of_pair, of_path, of_four, outcome, finishes}
use Rattle.call_rules.specs.declared.Answer.TheVariants.{Handle}
use Rattle.std.specs.Prelude.{Ok, Err}
use Rattle.call_rules.specs.declared.Refusal.{Refusal}
use Rattle.call_rules.specs.declared.Refusal.TheVariants.{OutOfRange, UsedUp}
use Rattle.store.specs.Calls.{new_store, step}
use Rattle.new_store.specs.Creating.{places_for}
use Rattle.new_store.proofs.Creating.{new_range, full_relations, full_sets, fits_new}
use Rattle.policy_text.specs.XForms.{does_x_begin, is_x_whole, field_number, is_no_field}
use Rattle.policy_text.specs.Machine.{scan, final, byte_step, onward, mid_step, mid_go, after_name, close, join_seq, join_plus}
use Rattle.policy_text.specs.Machine.{join_mix, join_term, sum_before, mix_of, negs, nesting, leaf, reads}
use Rattle.policy_text.specs.Reading.{first, is_test, open_after, is_clean_inside, is_clean, does_offend, rules, reading_of, reading}
use Rattle.policy_text.specs.Answers.{tree_of, tree}
use Rattle.policies.specs.Outcome.{of_reading, text_verdict}
use Rattle.theorems.specs.AllCalls.{AnyCall, call, answered, any_step, plain_any_step, effect, AnyReply, all_calls}
use Rattle.theorems.specs.Lists.{in_turn, plain_steps}
use Rattle.theorems.specs.PlainStore.{asked, on_lists, plain_step, plain_policy_step, begun}
use Rattle.theorems.specs.Worked.{Expected, yields, refuses, RowsRight, TableRight, one_field, no_field, faults, lister_lines, mixed_texts}
use Rattle.theorems.specs.Worked.{two_fields, first_pairs, members_in_turn, packet_numbers, added, none_added, Worked}
use Rattle.theorems.proofs.AllCalls.{any_right}
use Rattle.theorems.proofs.Lists.{lists_right}
use Rattle.theorems.proofs.NewStore.{new_right}

-- THE PLAIN STORE: a table without its `new`, on the lists as `new k` leaves them, with m places for sets and n for relations
abbrev without_new : {B : Type 0} → List (AnyCall × B) → List (AnyCall × B)
without_new [] = []
without_new (w ∷ t) = t

abbrev RowsPlainly : {B : Type 0} → (AnyReply → B) → ℕ → ℕ → ℕ → List (AnyCall × B) → Type 0
RowsPlainly see k m n t = map see (plain_steps all_calls m n (map (λ w. w.0) t) (begun k)).answers ≡ map (λ w. w.1) t

abbrev Plainly : ℕ → ℕ → ℕ → List Expected → Type 0
Plainly k m n t = RowsPlainly (λ r. r.0) k m n t

calls_plain : Plainly 0 0 0 (without_new no_field) × Plainly 1 2 11 (without_new one_field) × Plainly 2 10 36 (without_new two_fields)
unfolding in_turn plain_any_step plain_step asked on_lists finishes guard also of_one of_pair of_path of_four level_of packet
    run get mk_store mk_handle place having agrees constant identity_at_depth complement union intersect xor difference each_field test raise assign is_zero
    sequence star flip naive_forward backward ifelse intersects fwd bwd ifwd ibwd diagonal push pull has_image has_path has_path_node new
    op1 node1 op2 node2
calls_plain = (refl, refl, refl)

pairs_plain : Plainly 2 3 9 (without_new first_pairs)
unfolding in_turn plain_any_step plain_step asked on_lists finishes guard also of_one of_pair of_path of_four level_of number first_packet first_pair
    run get mk_store mk_handle place having agrees constant identity_at_depth each_field test raise new op2 node2
pairs_plain = refl

members_plain : Plainly 2 3 6 (without_new members_in_turn)
unfolding in_turn plain_any_step plain_step asked on_lists finishes guard also of_one level_of packet number is_before first_packet
    run get mk_store mk_handle place having agrees constant identity_at_depth each_field test raise new op2 node2
members_plain = refl

numbers_plain : Plainly 2 2 8 (without_new packet_numbers)
unfolding in_turn plain_any_step effect plain_step plain_policy_step asked on_lists finishes text_verdict of_reading policy_program
    guard also of_one level_of packet
    run get mk_store mk_handle place having agrees constant identity_at_depth each_field test raise assign new
    does_x_begin is_x_whole reading reading_of rules first field_number is_no_field is_test open_after is_clean_inside is_clean does_offend reads scan final
    byte_step onward
    mid_step mid_go after_name close join_seq join_plus join_mix join_term sum_before mix_of negs nesting leaf tree_of tree
numbers_plain = refl

texts_plain : Plainly 1 1 3 (without_new faults) × Plainly 1 1 5 (without_new lister_lines)
    × RowsPlainly (λ r. r) 1 2 6 (without_new added) × RowsPlainly (λ r. r) 1 1 4 (without_new none_added)
unfolding in_turn plain_any_step effect plain_step plain_policy_step asked on_lists finishes text_verdict of_reading policy_program
    guard also of_one of_pair of_four level_of
    run get mk_store mk_handle place having agrees constant identity_at_depth union each_field test is_zero new op2 node2
    does_x_begin is_x_whole reading reading_of rules first field_number is_no_field is_test open_after is_clean_inside is_clean does_offend reads scan final
    byte_step onward
    mid_step mid_go after_name close join_seq join_plus join_mix join_term sum_before mix_of negs nesting leaf tree_of tree
texts_plain = (refl, refl, refl, refl)

mixes_plain : Plainly 1 1 4 (without_new mixed_texts)
unfolding in_turn plain_any_step effect plain_policy_step on_lists finishes text_verdict of_reading policy_program mix_program
    run get mk_store mk_handle place having agrees constant identity_at_depth complement union intersect xor difference sequence new op1 node1 op2 node2
    does_x_begin is_x_whole reading reading_of rules first field_number is_no_field is_test open_after is_clean_inside is_clean does_offend reads scan final
    byte_step onward
    mid_step mid_go after_name close join_seq join_plus join_mix join_term sum_before mix_of negs nesting leaf tree_of tree
mixes_plain = refl

-- the handle of `new`: the full relation's
abbrev top_of : ℕ → ℕ
top_of zero = 1
top_of (suc k) = 3 * suc k + 1

new_gives : (k : ℕ) → (run (new k) blank).value ≡ top_of k
unfolding run new constant identity_at_depth
new_gives zero = refl
new_gives (suc k) = new_value (suc k) (omega arith)

-- ON MEMORIES of a numbers for relations and b for sets: whether `new k` is accepted there
abbrev is_enough : ℕ → ℕ → ℕ → Bool
is_enough k a b = leb k 32 && (leb (head rel) a && (leb (head set) b && (leb (3 * k) (places_for rel a) && leb k (places_for set b))))

-- a table that begins with an accepted `new`
module _ {B : Type 0} (see : AnyReply → B) (k a b : ℕ) (t : List (AnyCall × B)) (enough : is_enough k a b ≡ true)
    (plain : RowsPlainly see k (places_for set b) (places_for rel a) t) where
  accepted : (M : Memories) → length M.relations ≡ a → length M.sets ≡ b → (step (new_store k) M).answer ≡ Ok (Handle (top_of k))
  unfolding step
  accepted M ea eb =
      let u = and_T (leb k 32) _ (subst T (sym enough) tt) in
      let v = and_T (leb (head rel) a) _ u.1 in
      let w = and_T (leb (head set) b) _ v.1 in
      let x = and_T (leb (3 * k) (places_for rel a)) _ w.1 in
      ap (λ r. r.answer) (sym (fits_new k a b M ea eb (leb→le _ _ u.0) (leb→le _ _ v.0) (leb→le _ _ w.0) (leb→le _ _ x.0) (leb→le _ _ x.1)))
      ∙ ap (λ h. Ok (Handle h)) (new_gives k)

  rows_begin : RowsRight see a b ((call (new_store k), see (answered (Ok (Handle (top_of k))), node_counts (3 * k) k)) ∷ t)
  unfolding in_turn any_step effect
  rows_begin M ea eb =
      let e = accepted M ea eb in
      let r = new_right k M (top_of k) e in
      let m : set_places M ≡ places_for set b = ap (λ l. places_of l (arity set)) (length-drop (head set) M.sets ∙ ap (λ l. l - head set) eb) in
      let n : rel_places M ≡ places_for rel a = ap (λ l. places_of l (arity rel)) (length-drop (head rel) M.relations ∙ ap (λ l. l - head rel) ea) in
      let cs = map (λ w. w.0) t in
      let later = ap (map see) (lists_right all_calls (λ M₀ M P A c. any_right A c) k M (top_of k) e cs).answers
      ∙ (λ i. map see (plain_steps all_calls (m i) (n i) cs (begun k)).answers) ∙ plain in
      λ i. see (answered (e i), added_by_new (refusal (e i)) (node_counts (r.relations i) (r.sets i))) ∷ later i

abbrev begins : (k a b : ℕ) (t : List Expected) → is_enough k a b ≡ true → Plainly k (places_for set b) (places_for rel a) t
    → TableRight a b (yields (new_store k) (top_of k) ∷ t)
begins = rows_begin (λ r. r.0)

-- a `new` that is refused
new_refused : (k a b : ℕ) (r : Refusal) → ((M : Memories) → length M.relations ≡ a → length M.sets ≡ b → outcome (Err r) M ≡ new_step k M)
    → TableRight a b (refuses (new_store k) r ∷ [])
unfolding in_turn any_step step
new_refused k a b r f M ea eb = ap (λ u. answered u.answer ∷ []) (sym (f M ea eb))

-- THE TABLES
pub worked : Worked
unfolding in_turn
worked = record {
  handles = begins 1 46 5 (without_new one_field) refl calls_plain.1;
  no_fields = begins 0 2 1 (without_new no_field) refl calls_plain.0;
  most_fields = begins 32 386 65 [] refl refl;
  too_many_fields = λ a b. new_refused 33 a b OutOfRange (λ M ea eb. new_range 33 M (omega arith));
  suffices = begins 1 14 3 [] refl refl;
  short_relations = new_refused 1 13 3 UsedUp (λ M ea eb. full_relations 1 13 3 M ea eb (omega arith) (omega arith) (omega arith) 2 1 refl refl (omega arith));
  short_sets = new_refused 1 14 2 UsedUp (λ M ea eb. full_sets 1 14 2 M ea eb (omega arith) (omega arith) (omega arith) 0 1 refl refl (omega arith));
  policies = begins 1 14 3 (without_new faults) refl texts_plain.0;
  listed = begins 1 22 3 (without_new lister_lines) refl texts_plain.1;
  added_nodes = rows_begin (λ r. r) 1 26 5 (without_new added) refl texts_plain.2;
  used_up = rows_begin (λ r. r) 1 18 3 (without_new none_added) refl texts_plain.3;
  mixed = begins 1 18 3 (without_new mixed_texts) refl mixes_plain;
  ordered = begins 2 146 21 (without_new two_fields) refl calls_plain.2;
  first = begins 2 38 7 (without_new first_pairs) refl pairs_plain;
  members = begins 2 26 7 (without_new members_in_turn) refl members_plain;
  numbered = begins 2 34 5 (without_new packet_numbers) refl numbers_plain;
}
