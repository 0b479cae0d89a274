-- Memories that match a plain store: a store written over other memories does, and the next one written over it is as if written at first.
use mathlib.Core.Path.{◌≡◌, refl, ap, ◌∙◌, subst}
use Prim.Native.Nat.{ℕ, ◌≤◌}
use lib.ListN.{length}
use Rattle.model.specs.Store.{Kind, Store, nodes}
use Rattle.model.specs.WellFormed.{WellFormed}
use Rattle.theorems.specs.Lists.{Matches}
use Rattle.theorems.specs.PlainStore.{Plain, plain_store}
use Rattle.store_check.specs.Memory.{Memories, memory, head, count, places_in, decode, encode}
use Rattle.call_rules.proofs.Encoding.{encode_count, encode_fields, Space, decode_encode, encode_length, encode_places, encode_store, encode_encode}

-- a store that fits, written over M₀
module _ {k : ℕ} {S : Store} {M₀ : Memories} (F : WellFormed k S) (p : Space S M₀) where
  pub matches_written : k ≤ 32 → Matches M₀ (encode k S M₀) (plain_store k S)
  matches_written few = record {
    store = encode_store F p few;
    long = λ K. encode_length F p K k;
    places = λ K. encode_places F p K k;
    width = encode_fields k S M₀;
    lists = decode_encode M₀ k F;
    written = refl;
  }

module _ {M₀ M : Memories} {P : Plain} (A : Matches M₀ M P) where
  pub matches_formed : WellFormed P.width P.lists
  matches_formed = subst (WellFormed P.width) A.lists (subst (λ k. WellFormed k (decode M)) A.width A.store.formed)

  pub matches_few : P.width ≤ 32
  matches_few = subst (λ k. k ≤ 32) A.width A.store.few

  pub matches_headed : (K : Kind) → head K ≤ length (memory K M₀)
  matches_headed K = subst (λ n. head K ≤ n) (A.long K) (A.store.room K).headed

  pub matches_count : (K : Kind) → count K (memory K M) ≡ length (nodes K P.lists)
  matches_count K = ap (λ M. count K (memory K M)) A.written ∙ encode_count P.width P.lists M₀ K

  pub matches_space : Space P.lists M₀
  matches_space = record {
    headed = matches_headed;
    within = λ K. subst (λ n. length (nodes K P.lists) ≤ n) (A.places K)
        (subst (λ n. n ≤ places_in K (memory K M)) (matches_count K) (A.store.room K).within);
  }

  -- the next store written over it
  pub matches_over : (k : ℕ) (S : Store) → encode k S M ≡ encode k S M₀
  matches_over k S = ap (encode k S) A.written ∙ encode_encode matches_formed matches_space P.width k S
