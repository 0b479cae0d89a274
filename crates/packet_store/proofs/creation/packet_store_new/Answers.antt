-- `new`, its reply packed.
use Rattle.store.specs.Calls.{step}
use Rattle.packing.proofs.Answering.{answers}
use Rattle.packet_store.proofs.creation.packet_store_new.Goals as goal

pub returns : goal.returns
unfolding step
returns c = answers _ _ _ _ _ _ _ c.new.ensures c.pack_reply.ensures
