-- One policy, its reply packed: its offset is short.
use mathlib.Core.Path.{ap}
use Rattle.packet_store.proofs.TextOffsets.{short_offset}
use Rattle.packet_store.proofs.policy_call.packet_store_policy.Goals as goal

pub pack_reply-requires : goal.pack_reply-requires
pack_reply-requires c = short_offset _ _ _ (ap (λ o. o.answer.0) c.policy.ensures.0)
