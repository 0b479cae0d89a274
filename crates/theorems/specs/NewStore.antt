-- What an accepted `new` leaves, on any memories: document 01, "`new(k)` holds 3k relation nodes and k set nodes, the other places zeroed".
use Rattle.std.specs.Prelude.{◌≡◌, ℕ, ◌*◌, Ok}
use Rattle.model.specs.Meaning.{Den, Relates}
use Rattle.model.specs.Store.{set, rel}
use Rattle.store_check.specs.Memory.{Memories, count, fields, decode, encode}
use Rattle.store_check.specs.Valid.{IsStore}
use Rattle.call_rules.specs.Outcome.{outcome}
use Rattle.call_rules.specs.declared.Answer.TheVariants.{Handle}
use Rattle.store.specs.Calls.{Call, set_call, relation_call, step}
use Rattle.store.specs.declared.relation_calls.RelationCall.TheVariants as R
use Rattle.store.specs.declared.set_calls.SetCall.TheVariants as T

-- what the call c gives is in the memories M already: it leaves them as they are, and its handle has P
pub record There (M : Memories) (c : Call) (P : ℕ → Type 0) : Type 0 where
  pub handle : ℕ
  pub is : step c M ≡ outcome (Ok (Handle handle)) M
  pub means : P handle

-- WHAT IS CLAIMED of `new k` on the memories M, where it was accepted with the handle h and left the memories M'
pub record NewRight (k : ℕ) (M M' : Memories) (h : ℕ) : Type 0 where
  -- a store of k fields with 3k relation nodes and k set nodes; the other places are zero, and what lies beyond the last place is as it was in M
  pub store : IsStore M'
  pub width : fields M' ≡ k
  pub relations : count rel M'.relations ≡ 3 * k
  pub sets : count set M'.sets ≡ k
  pub written : M' ≡ encode k (decode M') M
  -- h is the full relation of level k, and what `top` gives
  pub full : Relates k (λ p q. Unit {0}) (decode M') h
  pub top : step (relation_call R.Top) M' ≡ outcome (Ok (Handle h)) M'
  -- the empty relation and the identity, the empty set and the full set of level k are there
  pub zero : There M' (relation_call R.Zero) (Relates k (λ p q. ⊥) (decode M'))
  pub one : There M' (relation_call R.One) (Relates k (λ p q. p ≡ q) (decode M'))
  pub set_zero : There M' (set_call T.Zero) (Den set k (λ p. ⊥) (decode M'))
  pub set_one : There M' (set_call T.One) (Den set k (λ p. Unit {0}) (decode M'))
