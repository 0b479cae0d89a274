-- Wrong versions of the claims about texts, refuted by small histories: from the theorem about every history.
use mathlib.Core.Path.{◌≡◌, refl, sym, ap, ◌∙◌, subst}
use mathlib.Core.Logic.{inr}
use mathlib.Core.List.{List, [], ◌∷◌, ◌++◌}
use mathlib.Core.Bool.{false, true≢false}
use Prim.Native.Nat.{ℕ, ◌+◌, ◌*◌}
use native.Mathlib.Omega.{arith}
use lib.ListN.{replicate}
use Rattle.model.specs.Images.{new}
use Rattle.model.specs.Operations.{constant, identity_at_depth}
use Rattle.model.specs.Packets.{none, more, Packet}
use Rattle.model.specs.Policies.{both, minus, Policy, fail, skip, full, tests, assigns, negates, plus, mixes, seq, stars, meaning, has_fields_below}
use Rattle.model.specs.Policies.{is_predicate, only_negates_predicates, policy_program}
use Rattle.model.specs.Programs.{run}
use Rattle.model.specs.Store.{set, rel, arity, get, place, having, mk_store, mk_handle}
use Rattle.model.specs.Meaning.{Same}
use Rattle.model.proofs.Policies.{zero≢one}
use Rattle.store_check.specs.Memory.{Memories, memories, head}
use Rattle.store.specs.Calls.{new_store, step}
use Rattle.theorems.specs.Lists.{in_turn}
use Rattle.call_rules.specs.OnMemories.{new_step}
use Rattle.call_rules.specs.Outcome.{guard, finishes}
use Rattle.call_rules.specs.declared.Answer.TheVariants as store
use Rattle.policy_text.specs.XForms.{f_zero, x_form, x_forms}
use Rattle.policy_text.specs.Grammar.{b_zero, m_both, m_minus, Sum, a_zero, a_one, a_full, a_test, a_neg, a_paren, s_atom}
use Rattle.policy_text.specs.Grammar.{p_one, p_seq, t_one, t_mix, u_one, u_plus}
use Rattle.theorems.specs.AllCalls.{call, policy, answered, read, any_step, text_relates, WithinRules}
use Rattle.theorems.specs.EveryHistory.{AcceptedIn}
use Rattle.theorems.specs.Histories.{Made, LentInTurn, NoneRenews, History}
use Rattle.policies.specs.Outcome.{policy_step}
use Rattle.std.specs.Prelude.{Ok, Err}
use Rattle.policies.specs.declared.PolicyRefusal.{PolicyRefusal}
use Rattle.policy_text.proofs.Complete.{unambiguous}
use Rattle.policy_text.proofs.XLaws.{x_lawful}
use Rattle.theorems.proofs.EveryHistory.{every_history}
use Rattle.theorems.proofs.Histories.{made}
use Rattle.theorems.proofs.OneText.{tree_relates}
use Rattle.theorems.proofs.KeptTexts.{not_handle}

-- a store of one field with three places for relations and one for sets, as `new` fills it
abbrev lent : Memories
lent = memories (replicate (head rel + arity rel * 3) 0) (replicate (head set + arity set * 1) 0)

accepted : (step (new_store 1) lent).answer ≡ Ok (store.Handle 4)
unfolding step new_step finishes guard run new constant identity_at_depth get place having mk_store mk_handle
accepted = refl

-- `0` and `1`
abbrev zero_text : List ℕ
zero_text = 48 ∷ []

abbrev one_text : List ℕ
one_text = 49 ∷ []

zero_keeps : WithinRules 1 zero_text
unfolding has_fields_below only_negates_predicates
zero_keeps = record {
  short = omega arith;
  rules = record { policy = fail; follows = u_one (t_one (p_one (s_atom a_zero))); below = refl; negates_predicates = refl };
}

one_keeps : WithinRules 1 one_text
unfolding has_fields_below only_negates_predicates
one_keeps = record {
  short = omega arith;
  rules = record { policy = skip; follows = u_one (t_one (p_one (s_atom a_one))); below = refl; negates_predicates = refl };
}

-- a history of one text, on the store as `new` left it
abbrev begun : Made
begun = made (call (new_store 1)) lent []

abbrev new_left : Memories
new_left = begun.after

new_accepted : begun.answer ≡ answered (Ok (store.Handle 4))
unfolding any_step
new_accepted = ap answered accepted

abbrev called : List ℕ → Made
called t = made (policy t) new_left []

lent_to_it : (t : List ℕ) → LentInTurn new_left (called t ∷ [])
unfolding LentInTurn
lent_to_it t = (refl, tt)

renews_not : (t : List ℕ) → NoneRenews (called t ∷ [])
unfolding NoneRenews
renews_not t = (λ k a e q. absurd (let z : ◌≡◌ {A = ℕ} 0 1 = cc e in omega arith), tt)

abbrev alone : List ℕ → History
alone t = record {
  width = 1;
  new = begun;
  is_new = refl;
  top = 4;
  accepted = new_accepted;
  calls = called t ∷ [];
  in_turn = lent_to_it t;
  none_renews = renews_not t;
}

zero_accepted : (called zero_text).answer ≡ read (Ok 2)
unfolding in_turn run new constant identity_at_depth get place having mk_store mk_handle policy_program zero_keeps
zero_accepted = (every_history (alone zero_text)).refused zero_text [] [] (called zero_text) refl refl zero_keeps

one_accepted : (called one_text).answer ≡ read (Ok 3)
unfolding in_turn run new constant identity_at_depth get place having mk_store mk_handle policy_program one_keeps
one_accepted = (every_history (alone one_text)).refused one_text [] [] (called one_text) refl refl one_keeps

-- EVERY TEXT REFUSED, or every text on the store as `new` left it
pub not_all_refused : ¬ ((t : List ℕ) → (r : PolicyRefusal) × ((policy_step t new_left).answer ≡ Err r))
unfolding any_step
not_all_refused f = let r = f zero_text in let e : (policy_step zero_text new_left).answer ≡ Ok 2 = cc zero_accepted in not_handle (sym r.1 ∙ e)

-- ONE HANDLE for all texts
pub not_one_handle : (h : ℕ) → ¬ ((H : History) (t : List ℕ) (g : ℕ) → AcceptedIn H.calls t g → g ≡ h)
not_one_handle h f =
    let a = f (alone zero_text) zero_text 2
    (record { before = []; it = called zero_text; later = []; is = refl; text = refl; handle = zero_accepted }) in
    let b = f (alone one_text) one_text 3
    (record { before = []; it = called one_text; later = []; is = refl; text = refl; handle = one_accepted }) in
    omega arith

-- THE FIRST PRODUCT of a sum only: it loses the pairs of the others
unfoldable pub first_product : Policy → Policy
first_product fail = fail
first_product skip = skip
first_product full = full
first_product (tests v b) = tests v b
first_product (assigns v b) = assigns v b
first_product (negates x) = negates (first_product x)
first_product (plus x y) = first_product x
first_product (mixes m x y) = mixes m (first_product x) (first_product y)
first_product (seq x y) = seq (first_product x) (first_product y)
first_product (stars x) = stars (first_product x)

pub not_first_product : ¬ ((x : Policy) → Same 1 (meaning 1 (first_product x)) (meaning 1 x))
unfolding meaning first_product
not_first_product f = (f (plus fail skip) (0 ∷ []) (0 ∷ []) (more 0 (omega arith) none) (more 0 (omega arith) none)).1 (inr refl)

-- TEXTS THAT DIFFER IN A PAIR never have one handle
differ : (t u : List ℕ) (x y : Policy) (p q : List ℕ) → Sum x_forms 32 t x → Sum x_forms 32 u y → Packet 1 p → Packet 1 q → meaning 1 x p q
    → ¬ meaning 1 y p q → (H : History) → H.width ≡ 1 → (g h : ℕ) → AcceptedIn H.calls t g → AcceptedIn H.calls u h → ¬ (g ≡ h)
differ t u x y p q S U P Q m n H w g h A B e =
    let same : Same 1 (text_relates 1 t) (text_relates 1 u)
    = subst (λ k. Same k (text_relates k t) (text_relates k u)) w (((every_history H).one_handle t u g h A B).0 e) in
    n ((tree_relates 1 u y U p q P Q).1 ((same p q P Q).0 ((tree_relates 1 t x S p q P Q).0 m)))

-- two packets of one field
zero_packet : Packet 1 (0 ∷ [])
zero_packet = more 0 (omega arith) none

one_packet : Packet 1 (1 ∷ [])
one_packet = more 1 (omega arith) none

-- so the first product of `0+1` is not the text
abbrev sum_text : List ℕ
sum_text = zero_text ++ (43 ∷ one_text)

pub sum_is_another : (H : History) → H.width ≡ 1 → (g h : ℕ) → AcceptedIn H.calls sum_text g → AcceptedIn H.calls zero_text h → ¬ (g ≡ h)
unfolding meaning
sum_is_another = differ sum_text zero_text (plus fail skip) fail (0 ∷ []) (0 ∷ [])
    (u_plus (u_one (t_one (p_one (s_atom a_zero)))) (t_one (p_one (s_atom a_one)))) (u_one (t_one (p_one (s_atom a_zero))))
    zero_packet zero_packet (inr refl) (λ m. m)

-- `T` is not the identity
abbrev full_text : List ℕ
full_text = 84 ∷ []

pub full_is_another : (H : History) → H.width ≡ 1 → (g h : ℕ) → AcceptedIn H.calls full_text g → AcceptedIn H.calls one_text h → ¬ (g ≡ h)
unfolding meaning
full_is_another = differ full_text one_text full skip (0 ∷ []) (1 ∷ []) (u_one (t_one (p_one (s_atom a_full)))) (u_one (t_one (p_one (s_atom a_one))))
    zero_packet one_packet tt zero≢one

-- `-` is not from the right: `1-(1-1)` is not `1-1-1`
abbrev minus_right : List ℕ
minus_right = 49 ∷ 45 ∷ 40 ∷ 49 ∷ 45 ∷ 49 ∷ 41 ∷ []

abbrev minus_left : List ℕ
minus_left = 49 ∷ 45 ∷ 49 ∷ 45 ∷ 49 ∷ []

pub right_is_another : (H : History) → H.width ≡ 1 → (g h : ℕ) → AcceptedIn H.calls minus_right g → AcceptedIn H.calls minus_left h → ¬ (g ≡ h)
unfolding meaning
right_is_another = differ minus_right minus_left (mixes minus skip (mixes minus skip skip)) (mixes minus (mixes minus skip skip) skip) (0 ∷ []) (0 ∷ [])
    (u_one (t_mix m_minus (t_one (p_one (s_atom a_one)))
    (p_one (s_atom (a_paren {e = 0} (omega arith) (u_one (t_mix m_minus (t_one (p_one (s_atom a_one))) (p_one (s_atom a_one)))))))))
    (u_one (t_mix m_minus (t_mix m_minus (t_one (p_one (s_atom a_one))) (p_one (s_atom a_one))) (p_one (s_atom a_one))))
    zero_packet zero_packet (refl, λ n. n.1 refl) (λ n. n.1 refl)

-- `&` is not above `;`: `T;(1&1)` is not `T;1&1`
abbrev both_above : List ℕ
both_above = 84 ∷ 59 ∷ 40 ∷ 49 ∷ 38 ∷ 49 ∷ 41 ∷ []

abbrev both_below : List ℕ
both_below = 84 ∷ 59 ∷ 49 ∷ 38 ∷ 49 ∷ []

pub above_is_another : (H : History) → H.width ≡ 1 → (g h : ℕ) → AcceptedIn H.calls both_above g → AcceptedIn H.calls both_below h → ¬ (g ≡ h)
unfolding meaning
above_is_another = differ both_above both_below (seq full (mixes both skip skip)) (mixes both (seq full skip) skip) (0 ∷ []) (1 ∷ [])
    (u_one (t_one (p_seq (p_one (s_atom a_full))
    (s_atom (a_paren {e = 0} (omega arith) (u_one (t_mix m_both (t_one (p_one (s_atom a_one))) (p_one (s_atom a_one)))))))))
    (u_one (t_mix m_both (t_one (p_seq (p_one (s_atom a_full)) (s_atom a_one))) (p_one (s_atom a_one))))
    zero_packet one_packet (1 ∷ [], one_packet, tt, (refl, refl)) (λ n. zero≢one n.1)

-- `!p` is not `T-p`: `T-0` is not `!0`
abbrev full_minus : List ℕ
full_minus = 84 ∷ 45 ∷ 48 ∷ []

abbrev negated_zero : List ℕ
negated_zero = 33 ∷ 48 ∷ []

pub negation_is_another : (H : History) → H.width ≡ 1 → (g h : ℕ) → AcceptedIn H.calls full_minus g → AcceptedIn H.calls negated_zero h → ¬ (g ≡ h)
unfolding meaning
negation_is_another = differ full_minus negated_zero (mixes minus full fail) (negates fail) (0 ∷ []) (1 ∷ [])
    (u_one (t_mix m_minus (t_one (p_one (s_atom a_full))) (p_one (s_atom a_zero))))
    (u_one (t_one (p_one (s_atom (a_neg {e = 0} (omega arith) a_zero)))))
    zero_packet one_packet (tt, λ n. n) (λ n. zero≢one n.0)

-- `T` UNDER `!`: `!(x0=0&T)` does not keep the rules, though what it negates relates packets to themselves only
pub full_under_negation : (k : ℕ) → ¬ WithinRules k (33 ∷ 40 ∷ 120 ∷ 48 ∷ 61 ∷ 48 ∷ 38 ∷ 84 ∷ 41 ∷ [])
unfolding only_negates_predicates is_predicate
full_under_negation k K = true≢false (sym K.rules.negates_predicates ∙ ap only_negates_predicates (unambiguous x_lawful K.rules.follows follows))
  where
    follows : Sum x_forms 32 (33 ∷ 40 ∷ 120 ∷ 48 ∷ 61 ∷ 48 ∷ 38 ∷ 84 ∷ 41 ∷ []) (negates (mixes both (tests 0 false) full))
    follows = u_one (t_one (p_one (s_atom (a_neg {d = 32} {e = 1} (omega arith) (a_paren {d = 1} {e = 0} (omega arith)
        (u_one (t_mix m_both (t_one (p_one (s_atom (a_test (x_form f_zero) b_zero)))) (p_one (s_atom a_full)))))))))
